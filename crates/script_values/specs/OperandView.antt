-- The value of an operand.
use Rattle.script_tree.specs.Datum.{Datum}
use Rattle.script_values.specs.declared.operand.Held.{Held}
use Rattle.script_values.specs.declared.operand.Held.TheVariants.{Lent, Own}

-- the value that is held, whoever owns it
abbrev pub operand_of : Held → Datum
operand_of (Lent value) = value.now
operand_of (Own value) = value
