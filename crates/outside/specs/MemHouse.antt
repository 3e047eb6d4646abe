-- What a house in memory tells.
use Rattle.std.specs.Prelude.{◌==◌, List, [], ◌∷◌, length, map, Some}
use Rattle.outside.specs.Failing.{fault_count, is_sure, IsPlanned}
use Rattle.outside.specs.Houses.{DoorToCome, HouseTold}
use Rattle.outside.specs.Kept.{doors_back}
use Rattle.outside.specs.MemDoor.{link_to_come, door_failing}
use Rattle.outside.specs.declared.memory.door.MemDoor.{MemDoor}
use Rattle.outside.specs.declared.memory.failing.Failing.{Failing}
use Rattle.outside.specs.declared.memory.house.DoorPlan.{DoorPlan}
use Rattle.outside.specs.declared.memory.house.MemHouse.{MemHouse}

-- the door of a plan
abbrev pub door_to_come : DoorPlan → DoorToCome
door_to_come plan = record {
  links = map link_to_come plan.links.items;
  never_fails = length plan.failing.items == 0;
}

-- what a house tells
abbrev pub house_told : MemHouse → HouseTold
house_told house = record {
  coming = Some (map door_to_come house.coming.items);
  back = Some (doors_back house.back);
  faults = fault_count house.failing;
  never_fails = is_sure house.failing;
}

-- its calls that fail
abbrev pub house_failing : MemHouse → Failing
house_failing house = house.failing

-- its doors that are to come
abbrev pub house_plans : MemHouse → List DoorPlan
house_plans house = house.coming.items

-- The first of the doors to come fails as its plan says, and after the last one none does.
abbrev pub IsFirstDoor : List DoorPlan → MemDoor → Type 0
IsFirstDoor [] door = IsPlanned [] (door_failing door)
IsFirstDoor (plan ∷ plans) door = IsPlanned plan.failing.items (door_failing door)
