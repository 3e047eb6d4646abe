-- What a node comes to, and what a run does with it.
use Rattle.std.specs.Prelude.{pos, nat_lt, length, List, [], Result, Ok, Err}
use Rattle.script_tree.specs.Datum.{Datum, null, bool, number, text}
use Rattle.script_tree.specs.Requests.{Request}
use Rattle.script_tree.specs.declared.fault.ScriptFault.{ScriptFault}
use Rattle.script_tree.specs.declared.fault.ScriptFault.TheVariants.{WrongKind}
use Rattle.script_meaning.specs.BuiltinCalls.{built_in}
use Rattle.script_meaning.specs.Kinds.{bool_in, list_in}
use Rattle.script_meaning.specs.Operands.{first, second, transact_op, status_in}
use Rattle.script_meaning.specs.Operators.{listed, indexed, printed, unary_answer, binary_answer}
use Rattle.script_meaning.specs.Results.{◌>>=◌}
use Rattle.script_meaning.specs.Run.{Cost, Run, ◌>>◌, give, fails, charge, issue}
use Rattle.script_code.specs.CodeRun.{all_filled}
use Rattle.script_values.specs.CallsMade.{value_made, operation_made, made}
use Rattle.script_values.specs.declared.builtins.Called.{Called}
use Rattle.script_values.specs.declared.builtins.Called.TheVariants.{Value, Operation}
use Rattle.script_nodes.specs.declared.primitive.Primitive.{Primitive}
use Rattle.script_nodes.specs.declared.primitive.Primitive.TheVariants.{Literal, Pass, Unary, Binary, Index, List as Listed, Builtin, OnStore, Transact, Decide, Status, Echo, Call, Unknown, Member}

-- the value or the operation that a node of these operands comes to, or its fault
abbrev pub evaluated : Request → Primitive → List Datum → Result Called ScriptFault
evaluated q (Literal value) ds = value_made (Ok value.now)
evaluated q Pass ds = value_made (Ok (first ds))
evaluated q (Unary op) ds = value_made (unary_answer op (first ds))
evaluated q (Binary op) ds = value_made (binary_answer op (first ds) (second ds))
evaluated q Index ds = value_made (indexed (first ds) (second ds))
evaluated q Listed ds = value_made (listed ds)
evaluated q (Builtin b) ds = made (built_in q [] b ds)
evaluated q (OnStore b store) ds = made (built_in q store.now b ds)
evaluated q (Transact shapes) ds = operation_made (transact_op (all_filled shapes.now ds))
evaluated q Decide ds = value_made (bool_in (first ds) >>= λ b. Ok (bool b))
evaluated q Status ds = value_made (status_in (first ds) >>= λ n. Ok (number (pos n)))
evaluated q Echo ds = value_made (printed (first ds) >>= λ bytes. Ok (text bytes))
evaluated q Call ds = value_made (Ok null)
evaluated q Unknown ds = value_made (Err WrongKind)
evaluated q (Member n) ds = value_made (list_in (first ds) >>= λ xs. Ok (bool (nat_lt n (length xs))))

-- a run goes on with the value, or issues the operation, or fails
abbrev pub gone_on : Result Called ScriptFault → Run Datum
gone_on (Ok (Value d)) = give d
gone_on (Ok (Operation op)) = issue op
gone_on (Err f) = fails f

-- a node in a run: its step is spent, and then it has what it comes to
abbrev pub node_run : Cost → Result Called ScriptFault → Run Datum
node_run cost c = charge cost >> gone_on c
