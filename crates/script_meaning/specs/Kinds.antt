-- A value of the kind that is wanted, or the fault that it isn't.
use Rattle.std.specs.Prelude.{ℕ, Bool, ℤ, List, Result, Ok, Err}
use Rattle.script_tree.specs.Datum.{Datum, null, bool, number, text, list, members}
use Rattle.script_tree.specs.declared.fault.ScriptFault.{ScriptFault}
use Rattle.script_tree.specs.declared.fault.ScriptFault.TheVariants.{WrongKind}

-- the boolean that a value is, or fault 1
abbrev pub bool_in : Datum → Result Bool ScriptFault
bool_in null = Err WrongKind
bool_in (bool b) = Ok b
bool_in (number n) = Err WrongKind
bool_in (text bs) = Err WrongKind
bool_in (list ds) = Err WrongKind

-- the number that a value is, or fault 1
abbrev pub number_in : Datum → Result ℤ ScriptFault
number_in null = Err WrongKind
number_in (bool b) = Err WrongKind
number_in (number n) = Ok n
number_in (text bs) = Err WrongKind
number_in (list ds) = Err WrongKind

-- the text that a value is, or fault 1
abbrev pub text_in : Datum → Result (List ℕ) ScriptFault
text_in null = Err WrongKind
text_in (bool b) = Err WrongKind
text_in (number n) = Err WrongKind
text_in (text bs) = Ok bs
text_in (list ds) = Err WrongKind

-- the members of the list that a value is, or fault 1
abbrev pub list_in : Datum → Result (List Datum) ScriptFault
list_in null = Err WrongKind
list_in (bool b) = Err WrongKind
list_in (number n) = Err WrongKind
list_in (text bs) = Err WrongKind
list_in (list ds) = Ok (members ds)
