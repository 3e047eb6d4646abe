-- The value that a node of the code stands for.
use Rattle.script_tree.specs.Datum.{Datum, null, bool, number, text, list, data_of}
use Rattle.script_tree.specs.declared.value.Node.{Node}
use Rattle.script_tree.specs.declared.value.Node.TheVariants.{Null, Bool, Number, Text, List as Listed}

-- the value that a node stands for
abbrev pub datum_of : Node → Datum
datum_of Null = null
datum_of (Bool b) = bool b
datum_of (Number n) = number n
datum_of (Text shared) = text shared.value
datum_of (Listed ds) = list (data_of ds)
