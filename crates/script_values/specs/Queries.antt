-- A statement of a transaction with its values, as the definition sees it.
use Rattle.script_meaning.specs.Operands as meant
use Rattle.script_values.specs.declared.transactions.Unchecked.{Unchecked}
use Rattle.script_values.specs.declared.transactions.Unchecked.TheVariants.{Insert, Select, Update, Delete, Expect}

-- the statement, none of whose values was looked at
abbrev pub unchecked_of : Unchecked → meant.Unchecked
unchecked_of (Insert table row) = meant.insert table row.items
unchecked_of (Select table columns tests) = meant.select table columns tests
unchecked_of (Update table changes tests) = meant.update table changes tests
unchecked_of (Delete table tests) = meant.delete table tests
unchecked_of (Expect count table tests) = meant.expect count table tests
