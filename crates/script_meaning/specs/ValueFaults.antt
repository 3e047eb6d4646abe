-- The faults that values have by themselves.
use Rattle.std.specs.Prelude.{◌≡◌, Bool, true, false, Result, Ok, Err}
use Rattle.script_tree.specs.declared.fault.ScriptFault.{ScriptFault}
use Rattle.script_tree.specs.declared.fault.ScriptFault.TheVariants.{WrongKind, Overflow, ZeroDivisor, OutOfRange, TooLarge, OutOfSteps, TooManyOperations, TooDeep, BadBound}

-- not by how much a run did before
abbrev pub is_of_values : ScriptFault → Bool
is_of_values WrongKind = true
is_of_values Overflow = true
is_of_values ZeroDivisor = true
is_of_values OutOfRange = true
is_of_values TooLarge = true
is_of_values OutOfSteps = false
is_of_values TooManyOperations = false
is_of_values TooDeep = false
is_of_values BadBound = true

-- where it fails, it is by the values
abbrev pub FailsByValues : {A : Type 0} → Result A ScriptFault → Type 0
FailsByValues (Ok x) = Unit {0}
FailsByValues (Err f) = is_of_values f ≡ true
