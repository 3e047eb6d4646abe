-- What the call of a built-in function comes to, as the code has it.
use Rattle.std.specs.Prelude.{ℕ, List, [], ◌∷◌, Result, Ok, Err}
use Rattle.script_tree.specs.declared.fault.ScriptFault.{ScriptFault}
use Rattle.script_tree.specs.Requests.{Request}
use Rattle.script_tree.specs.declared.syntax.builtin.Builtin.{Builtin}
use Rattle.script_meaning.specs.BuiltinCalls.{Call, plain, of_request, operation, built_in}
use Rattle.script_meaning.specs.Operands.{OpAnswer}
use Rattle.script_meaning.specs.Operators.{Answer}
use Rattle.script_values.specs.declared.arguments.Arguments.{Arguments}
use Rattle.script_values.specs.declared.builtins.Called.{Called}
use Rattle.script_values.specs.declared.builtins.Called.TheVariants.{Value, Operation}

-- of a value, or the fault of it
abbrev pub value_made : Answer → Result Called ScriptFault
value_made (Ok d) = Ok (Value d)
value_made (Err f) = Err f

-- of an operation, or the fault of its values
abbrev pub operation_made : OpAnswer → Result Called ScriptFault
operation_made (Ok op) = Ok (Operation op)
operation_made (Err f) = Err f

-- what the call comes to: a value, an operation or a fault
abbrev pub made : Call → Result Called ScriptFault
made (plain a) = value_made a
made (of_request a) = value_made a
made (operation op) = operation_made op

-- the call with these arguments
abbrev pub call_with : Request → (store : List ℕ) → Builtin → Arguments → Call
call_with q store b as' = built_in q store b (as'.first.now ∷ as'.second.now ∷ as'.third.now ∷ [])
