-- What a door in memory tells.
use Rattle.std.specs.Prelude.{◌≡◌, ◌==◌, List, [], ◌∷◌, length, map, None, Some}
use Rattle.outside.specs.Doors.{LinkToCome, DoorTold}
use Rattle.outside.specs.Failing.{fault_count, is_sure, IsPlanned}
use Rattle.outside.specs.MemLink.{link_failing, link_bound}
use Rattle.outside.specs.declared.memory.door.LinkPlan.{LinkPlan}
use Rattle.outside.specs.declared.memory.door.MemDoor.{MemDoor}
use Rattle.outside.specs.declared.memory.failing.Failing.{Failing}
use Rattle.outside.specs.declared.memory.kept.Visits.{Visits}
use Rattle.outside.specs.declared.memory.link.MemLink.{MemLink}

-- the link of a plan
abbrev pub link_to_come : LinkPlan → LinkToCome
link_to_come plan = record {
  bytes = plan.bytes.items;
  never_fails = length plan.failing.items == 0;
}

-- what is told of a door with these visits
abbrev pub visits_told : Visits → DoorTold
visits_told visits = record {
  coming = Some (map link_to_come visits.coming.items);
  taken = Some visits.taken;
  faults = fault_count visits.failing;
  never_fails = is_sure visits.failing;
}

-- what a door tells
abbrev pub door_told : MemDoor → DoorTold
door_told door = visits_told door.visits

-- its calls that fail
abbrev pub door_failing : MemDoor → Failing
door_failing door = door.visits.failing

-- its links that are to come
abbrev pub door_plans : MemDoor → List LinkPlan
door_plans door = door.visits.coming.items

-- The link fails and is bounded as its plan says.
pub record IsLinkOf (plan : LinkPlan) (link : MemLink) : Type 0 where
  pub failing : IsPlanned plan.failing.items (link_failing link)
  pub bound : link_bound link ≡ plan.at_most

-- So does the first of the links to come. After the last one no call fails, and there is no bound.
abbrev pub IsFirstLink : List LinkPlan → MemLink → Type 0
IsFirstLink [] link = IsPlanned [] (link_failing link) × (link_bound link ≡ None)
IsFirstLink (plan ∷ plans) link = IsLinkOf plan link
