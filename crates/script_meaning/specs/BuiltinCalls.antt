-- What the built-in functions do with the values of their arguments.
use Rattle.std.specs.Prelude.{ℕ, if◌then◌else◌, List, [], ◌∷◌, Ok}
use Rattle.std.specs.Str.{bytes_eq}
use Rattle.script_tree.specs.Datum as v
use Rattle.script_tree.specs.Datum.{Datum}
use Rattle.script_tree.specs.Requests.{Request}
use Rattle.script_tree.specs.declared.request.Parameter.{Parameter}
use Rattle.script_tree.specs.declared.syntax.builtin.Builtin.{Builtin}
use Rattle.script_tree.specs.declared.syntax.builtin.Builtin.TheVariants.{Len, Str, Escape, Num, Slice, Append, Kind, Param, Method, Path, Body, Read, Write, Get, Put, Remove, Clock, Random}
use Rattle.script_meaning.specs.Kinds.{text_in}
use Rattle.script_meaning.specs.Operators.{Answer, as_text, length_of, escaped, as_number, kind_of, sliced, appended}
use Rattle.script_meaning.specs.Operands.{OpAnswer, first, second, third, read_op, write_op, get_op, put_op, remove_op, clock_op, random_op}
use Rattle.script_meaning.specs.Results.{◌>>=◌}

-- what a call of a built-in function comes to
pub data Call : Type 0 where
  -- a value or a fault, by its arguments alone
  plain : Answer → Call
  -- one by the request as well
  of_request : Answer → Call
  -- an operation, or the fault of its arguments
  operation : OpAnswer → Call

-- the first parameter of a name, else null
abbrev pub parameter : List ℕ → List Parameter → Datum
parameter x [] = v.null
parameter x (p ∷ ps) = if bytes_eq x p.name then v.text p.value else parameter x ps

-- the parameter that a text names in a request, else null
abbrev pub parameter_in : Request → Datum → Answer
parameter_in q d = do
  x ← text_in d
  Ok (parameter x q.parameters)

-- the call of a built-in function with the values of its arguments, for a request; one on a store also has the store's name
abbrev pub built_in : Request → List ℕ → Builtin → List Datum → Call
built_in q store Len ds = plain (length_of (first ds))
built_in q store Str ds = plain (as_text (first ds))
built_in q store Escape ds = plain (escaped (first ds))
built_in q store Num ds = plain (as_number (first ds))
built_in q store Slice ds = plain (sliced (first ds) (second ds) (third ds))
built_in q store Append ds = plain (appended (first ds) (second ds))
built_in q store Kind ds = plain (Ok (v.text (kind_of (first ds))))
built_in q store Param ds = of_request (parameter_in q (first ds))
built_in q store Method ds = of_request (Ok (v.text q.method))
built_in q store Path ds = of_request (Ok (v.text q.path))
built_in q store Body ds = of_request (Ok (v.text q.body))
built_in q store Read ds = operation (read_op ds)
built_in q store Write ds = operation (write_op ds)
built_in q store Get ds = operation (get_op store ds)
built_in q store Put ds = operation (put_op store ds)
built_in q store Remove ds = operation (remove_op store ds)
built_in q store Clock ds = operation clock_op
built_in q store Random ds = operation (random_op ds)
