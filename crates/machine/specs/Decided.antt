-- The decisions of a trail.
use Rattle.std.specs.Prelude.{Bool, List, [], ◌∷◌}
use Rattle.machine.specs.declared.account.BareMark.{BareMark}
use Rattle.machine.specs.declared.account.BareMark.TheVariants as left

-- the decisions among the marks of a trail, in order
abbrev pub decided_in : List BareMark → List Bool
decided_in [] = []
decided_in (left.Decided b ∷ ts) = b ∷ decided_in ts
decided_in (left.Issued ∷ ts) = decided_in ts
