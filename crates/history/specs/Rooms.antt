-- What requests do at the seats of a recorder, one step after the other.
use Rattle.std.specs.Prelude.{◌≡◌, ℕ, suc, true, List, [], ◌∷◌, ◌++◌, Option, Some, None}
use Rattle.script_tree.specs.Datum.{Datum}
use Rattle.script_tree.specs.Objects.{Objects, acted, plausible, holding}
use Rattle.script_tree.specs.Programs.{Program}
use Rattle.script_tree.specs.Requests.{IsRequestWithinLimits}
use Rattle.script_tree.specs.declared.operation.Op.{Op}
use Rattle.script_tree.specs.declared.path.Path.{Path}
use Rattle.script_tree.specs.declared.request.Response.{Response}
use Rattle.script_meaning.specs.Conduct.{Wants, Ends}
use Rattle.script_meaning.specs.Replay.{ending_of}
use Rattle.history.specs.Seats.{seated}
use Rattle.history.specs.Visits.{Visit, visit_of, rid_at, number_at}
use Rattle.history.specs.declared.happening.Happening.{Happening}
use Rattle.history.specs.declared.happening.Happening.TheVariants.{Arrive, Act, Depart}

-- what the objects hold, how many requests have arrived, and which is open at each seat
pub record Room : Type 0 where
  pub objects : Objects
  pub arrived : ℕ
  pub open_at : ℕ → Option Visit

-- no request has arrived
abbrev pub empty_room : Objects → Room
empty_room objects = record { objects = objects; arrived = 0; open_at = λ seat. None }

-- ---- steps that a program allows

-- A request is open, and wants this operation next.
abbrev pub WantsNext : Program → Option Visit → Op → Type 0
WantsNext program here op = (v : Visit) × (here ≡ Some v) × (ending_of program v.request v.answers ≡ Wants op)

-- A request is open, and ends so.
abbrev pub EndsWith : Program → Option Visit → Response → Path → Type 0
EndsWith program here response path = (v : Visit) × (here ≡ Some v) × (ending_of program v.request v.answers ≡ Ends response path)

-- What happens is told of the request that is open at the seat, or arrives there.
abbrev pub IsOfOpen : Room → Happening → Type 0
IsOfOpen room (Arrive seat rid request) = rid ≡ room.arrived
IsOfOpen room (Act seat rid number op choice) = (rid ≡ rid_at (room.open_at seat)) × (number ≡ number_at (room.open_at seat))
IsOfOpen room (Depart seat rid response path) = rid ≡ rid_at (room.open_at seat)

-- A request within the limits arrives where none is open. It acts as it wants to, with a choice that the object takes. It departs as
-- it ends.
abbrev pub MayHappen : Program → Room → Happening → Type 0
MayHappen program room (Arrive seat rid request) = (room.open_at seat ≡ None) × IsRequestWithinLimits request.value
MayHappen program room (Act seat rid number op choice) =
    WantsNext program (room.open_at seat) op × (plausible op.act choice (room.objects op.object) ≡ true)
MayHappen program room (Depart seat rid response path) = EndsWith program (room.open_at seat) response path

-- It may happen, and is told so.
abbrev pub IsStep : Program → Room → Happening → Type 0
IsStep program room h = MayHappen program room h × IsOfOpen room h

-- ---- what a step leaves

-- the open request with one answer more
abbrev pub and_answer : Option Visit → Datum → Option Visit
and_answer None d = None
and_answer (Some v) d = Some (record v { answers = v.answers ++ d ∷ [] })

-- the room that a step leaves
abbrev pub onward : Room → Happening → Room
onward room (Arrive seat rid request) = record room {
  arrived = suc room.arrived;
  open_at = seated seat (Some (visit_of room.arrived request.value [])) room.open_at;
}
onward room (Act seat rid number op choice) = record room {
  objects = holding op.object (acted op.act choice (room.objects op.object)).0 room.objects;
  open_at = seated seat (and_answer (room.open_at seat) (acted op.act choice (room.objects op.object)).1) room.open_at;
}
onward room (Depart seat rid response path) = record room { open_at = seated seat None room.open_at }

-- the room after these steps
abbrev pub room_after : Room → List Happening → Room
room_after room [] = room
room_after room (h ∷ hs) = room_after (onward room h) hs

-- ---- histories

-- each is a step that the program allows, in the room that those before it leave
abbrev pub AreSteps : Program → Room → List Happening → Type 0
AreSteps program room [] = Unit {0}
AreSteps program room (h ∷ hs) = IsStep program room h × AreSteps program (onward room h) hs

-- From the start on, every step is one that the program allows.
abbrev pub IsLegal : Program → Objects → List Happening → Type 0
IsLegal program start history = AreSteps program (empty_room start) history

-- At the end no request is open.
abbrev pub IsClosed : Objects → List Happening → Type 0
IsClosed start history = (seat : ℕ) → (room_after (empty_room start) history).open_at seat ≡ None
