-- The doors that a house keeps.
use Rattle.std.specs.Prelude.{List, [], ◌∷◌, map, reverse}
use Rattle.outside.specs.Doors.{DoorTold}
use Rattle.outside.specs.MemDoor.{visits_told}
use Rattle.outside.specs.declared.memory.kept.Visits.{Visits}
use Rattle.outside.specs.declared.memory.kept.Kept.{Kept, Nothing, Door'}

-- what is kept, the last one that came back first
abbrev pub visits_kept : Kept → List Visits
visits_kept Nothing = []
visits_kept (Door' visits _ before) = visits ∷ visits_kept before

-- the doors, in the order in which they came back
abbrev pub doors_back : Kept → List DoorTold
doors_back kept = reverse (map visits_told (visits_kept kept))
