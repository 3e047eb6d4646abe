-- What is told of a door, and what calls do to it.
use Rattle.std.specs.Prelude.{◌≡◌, ℕ, Bool, true, false, List, [], ◌∷◌, drop, Option, Some, Result, Ok, Err}
use Rattle.std.specs.Option.{option_map, ForSome}
use Rattle.outside.specs.Counts.{next_count}
use Rattle.outside.specs.Links.{LinkTold, new_link}
use Rattle.outside.specs.declared.fault.Fault.{Fault}
use Rattle.outside.specs.declared.fault.Fault.TheVariants.{Failed, Memory}

-- a link that is to come: its bytes, and whether it never fails
pub record LinkToCome : Type 0 where
  pub bytes : List ℕ
  pub never_fails : Bool

-- the first of the links to come, and after the last one a link of no bytes
abbrev pub next_link : List LinkToCome → LinkTold
next_link [] = new_link [] true
next_link (link ∷ links) = new_link link.bytes link.never_fails

-- The links that are still to come and how many were taken, where that is told, how often the door
-- has failed, and whether it is told that it never fails.
pub record DoorTold : Type 0 where
  pub coming : Option (List LinkToCome)
  pub taken : Option ℕ
  pub faults : ℕ
  pub never_fails : Bool

-- these links to come, and none taken yet
abbrev pub new_door : List LinkToCome → Bool → DoorTold
new_door links never_fails = record {
  coming = Some links;
  taken = Some 0;
  faults = 0;
  never_fails = never_fails;
}

-- a door that has given its first link
abbrev pub without_first : DoorTold → DoorTold
without_first told = record told {
  coming = option_map (drop 1) told.coming;
  taken = option_map next_count told.taken;
}

-- one more fault
abbrev pub with_fault : DoorTold → DoorTold
with_fault told = record told { faults = next_count told.faults }

-- A link taken, which starts with no faults. Refused, none is taken.
abbrev pub IsAccepted : {A : Type 0} → (A → LinkTold) → DoorTold → DoorTold → Result A Fault
    → Type 0
IsAccepted told old new (Ok link) =
    (new ≡ without_first old) × ((told link).faults ≡ 0)
    × ForSome old.coming (λ links. told link ≡ next_link links)
IsAccepted told old new (Err Failed) = (new ≡ with_fault old) × (old.never_fails ≡ false)
IsAccepted told old new (Err Memory) = new ≡ old
