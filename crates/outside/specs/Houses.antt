-- What is told of a house, and what calls do to it.
use Rattle.std.specs.Prelude.{◌≡◌, ℕ, ◌==◌, Bool, true, false, List, [], ◌∷◌, ◌++◌, drop, Option, Some, Result, Ok, Err, if◌then◌else◌}
use Rattle.std.specs.Option.{option_map, ForSome}
use Rattle.outside.specs.Counts.{next_count}
use Rattle.outside.specs.Doors.{LinkToCome, DoorTold, new_door}
use Rattle.outside.specs.declared.fault.Fault.{Fault}
use Rattle.outside.specs.declared.fault.Fault.TheVariants.{Failed, Memory}

-- a door that is to come: its links, and whether it never fails
pub record DoorToCome : Type 0 where
  pub links : List LinkToCome
  pub never_fails : Bool

-- the first of the doors to come, and after the last one a door without links
abbrev pub next_door : List DoorToCome → DoorTold
next_door [] = new_door [] true
next_door (door ∷ doors) = new_door door.links door.never_fails

-- The doors that are still to come and those that were taken back, in that order, where that is
-- told, how often the house has failed or taken back a door that had, and whether it is told that
-- the house itself never fails.
pub record HouseTold : Type 0 where
  pub coming : Option (List DoorToCome)
  pub back : Option (List DoorTold)
  pub faults : ℕ
  pub never_fails : Bool

-- these doors to come, and nothing done yet
abbrev pub new_house : List DoorToCome → Bool → HouseTold
new_house doors never_fails = record {
  coming = Some doors;
  back = Some [];
  faults = 0;
  never_fails = never_fails;
}

-- one more fault
abbrev pub with_fault : HouseTold → HouseTold
with_fault told = record told { faults = next_count told.faults }

-- A call that was refused hands out nothing.
abbrev pub IsHouseRefused : HouseTold → HouseTold → Fault → Type 0
IsHouseRefused old new Failed = (new ≡ with_fault old) × (old.never_fails ≡ false)
IsHouseRefused old new Memory = new ≡ old

-- The house opened at an address.
abbrev pub IsOpened : {A : Type 0} → HouseTold → HouseTold → Result A Fault → Type 0
IsOpened old new (Ok done) = new ≡ old
IsOpened old new (Err fault) = IsHouseRefused old new fault

-- A door handed out, which starts with no faults.
abbrev pub IsHandedOut : {A : Type 0} → (A → DoorTold) → HouseTold → HouseTold → Result A Fault
    → Type 0
IsHandedOut told old new (Ok door) =
    (new ≡ record old { coming = option_map (drop 1) old.coming }) × ((told door).faults ≡ 0)
    × ForSome old.coming (λ doors. told door ≡ next_door doors)
IsHandedOut told old new (Err fault) = IsHouseRefused old new fault

-- one more fault, unless the door has none
abbrev pub faults_with : DoorTold → ℕ → ℕ
faults_with door n = if door.faults == 0 then n else next_count n

-- A door taken back.
abbrev pub IsTakenBack : HouseTold → HouseTold → DoorTold → Type 0
IsTakenBack old new door =
    new ≡ record old {
      back = option_map (λ doors. doors ++ door ∷ []) old.back;
      faults = faults_with door old.faults;
    }
