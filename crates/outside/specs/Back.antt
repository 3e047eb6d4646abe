-- What is left of the doors that came back.
use Rattle.std.specs.Prelude.{List}
use Rattle.outside.specs.Kept.{visits_kept}
use Rattle.outside.specs.declared.memory.kept.Visits.{Visits}
use Rattle.outside.specs.declared.memory.kept.Back.{Back}

-- the doors that are left, the last one first
abbrev pub visits_left : Back → List Visits
visits_left back = visits_kept back.kept.now
