-- The marks of a run, as the machine keeps them.
use Rattle.std.specs.Prelude.{List, map}
use Rattle.script_meaning.specs.declared.run.Mark.{Mark}
use Rattle.script_meaning.specs.declared.run.Mark.TheVariants.{Decided as decided, Issued as issued}
use Rattle.machine.specs.declared.account.BareMark.{BareMark}
use Rattle.machine.specs.declared.account.BareMark.TheVariants as left

-- a mark, without what operation it was
abbrev pub bare : Mark → BareMark
bare (decided b) = left.Decided b
bare (issued op) = left.Issued

-- the marks of a trail, each so
abbrev pub bare_trail : List Mark → List BareMark
bare_trail marks = map bare marks
