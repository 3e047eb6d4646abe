-- What a recorder keeps, and how it takes an event.
use Rattle.std.specs.Prelude.{◌≡◌, ℕ, ℤ, true, List, Option, Some, None, Result, Ok, Err, refl, int_le, if◌then◌else◌}
use Rattle.std.specs.Coded.{Coded, code_by, coded×, coded_ℕ, coded_list, coded_option}
use Rattle.std.specs.declared.alloc.AllocError.{AllocError}
use Rattle.script_tree.specs.Objects.{Cell, one, many, rows, reading, none, acted, is_roll}
use Rattle.script_tree.specs.ProgramCode.{coded_program}
use Rattle.script_tree.specs.Programs.{Program}
use Rattle.script_tree.specs.declared.operation.Act.{Act}
use Rattle.script_tree.specs.declared.operation.Act.TheVariants.{Read, Write, Get, Put, Remove, Transact, Now, Roll}
use Rattle.script_tree.specs.declared.operation.Choice.{Choice}
use Rattle.script_tree.specs.declared.operation.Choice.TheVariants.{Nothing, Number}
use Rattle.object_set.specs.ObjectSets.{HeldObjects, objects_of, coded_objects}
use Rattle.history.specs.Rooms.{Room, WantsNext, EndsWith, IsStep, onward}
use Rattle.history.specs.Seats.{at_seat}
use Rattle.history.specs.Visits.{Visit, coded_visit, rid_at, number_at}
use Rattle.history.specs.declared.event.Event.{Event}
use Rattle.history.specs.declared.event.Event.TheVariants as asks
use Rattle.history.specs.declared.event.Reply.{Reply}
use Rattle.history.specs.declared.event.Reply.TheVariants.{Arrived, Acted, Departed}
use Rattle.history.specs.declared.happening.Happening.{Happening}
use Rattle.history.specs.declared.happening.Happening.TheVariants.{Arrive, Act as Acts, Depart}

-- What a recorder keeps: its program, what the objects hold, how many requests have arrived, and the open ones.
pub record Recorded : Type 0 where
  pub program : Program
  pub objects : HeldObjects
  pub arrived : ℕ
  -- the open requests, by seat
  pub visits : List (Option Visit)

-- a recorder that keeps these
abbrev pub recorded : Program → HeldObjects → ℕ → List (Option Visit) → Recorded
recorded program objects arrived visits = record { program = program; objects = objects; arrived = arrived; visits = visits }

-- the room that a recorder keeps
abbrev pub room_of : Recorded → Room
room_of r = record { objects = objects_of r.objects; arrived = r.arrived; open_at = at_seat r.visits }

-- how a proof stores it
abbrev pub coded_recorded : Coded Recorded
coded_recorded =
    code_by (Program × (HeldObjects × (ℕ × List (Option Visit))))
    (coded× coded_program (coded× coded_objects (coded× coded_ℕ (coded_list (coded_option coded_visit)))))
    (λ r. (r.program, (r.objects, (r.arrived, r.visits)))) (λ p. recorded p.0 p.1.0 p.1.1.0 p.1.1.1) (λ _. refl)

-- ---- offers and choices

-- A number is offered exactly for a reading of the clock and for a roll, there one that the dice take.
abbrev pub IsOffer : Act → Option ℤ → Type 0
IsOffer Read offer = offer ≡ None
IsOffer (Write d) offer = offer ≡ None
IsOffer (Get k) offer = offer ≡ None
IsOffer (Put k d) offer = offer ≡ None
IsOffer (Remove k) offer = offer ≡ None
IsOffer (Transact ss) offer = offer ≡ None
IsOffer Now offer = (n : ℤ) × (offer ≡ Some n)
IsOffer (Roll bound) offer = (n : ℤ) × (offer ≡ Some n) × (is_roll bound (Number n) none ≡ true)

-- the greater of two numbers
abbrev pub greater : ℤ → ℤ → ℤ
greater m n = if int_le m n then n else m

-- of what is offered to the clock, what it takes: nothing below its last reading
abbrev pub reading_of : ℤ → Cell → Choice
reading_of n (one d) = Number n
reading_of n (many m) = Number n
reading_of n (rows tables) = Number n
reading_of n (reading last) = Number (greater last n)
reading_of n none = Number n

-- the choice that is made of an offer
abbrev pub choice_of : Act → Option ℤ → Cell → Choice
choice_of Read offer cell = Nothing
choice_of (Write d) offer cell = Nothing
choice_of (Get k) offer cell = Nothing
choice_of (Put k d) offer cell = Nothing
choice_of (Remove k) offer cell = Nothing
choice_of (Transact ss) offer cell = Nothing
choice_of Now None cell = Nothing
choice_of Now (Some n) cell = reading_of n cell
choice_of (Roll bound) None cell = Nothing
choice_of (Roll bound) (Some n) cell = Number n

-- ---- events

-- what may come from a seat where this is open: an arrival where nothing is, and of a request what it does next, with the offer
-- that it asks for
abbrev pub MayFollow : Program → Option Visit → Event → Type 0
MayFollow program here (asks.Arrive request) = here ≡ None
MayFollow program here (asks.Act op offer) = WantsNext program here op × IsOffer op.act offer
MayFollow program here (asks.Depart response path) = EndsWith program here response path

-- this event may come from a seat of the recorder
abbrev pub MayCome : Recorded → ℕ → Event → Type 0
MayCome r seat event = MayFollow r.program (at_seat r.visits seat) event

-- what happens by an event
abbrev pub happening_at : Room → ℕ → Event → Happening
happening_at room seat (asks.Arrive request) = Arrive seat room.arrived request
happening_at room seat (asks.Act op offer) =
    Acts seat (rid_at (room.open_at seat)) (number_at (room.open_at seat)) op (choice_of op.act offer (room.objects op.object))
happening_at room seat (asks.Depart response path) = Depart seat (rid_at (room.open_at seat)) response path

-- what is replied to what happens
abbrev pub reply_to : Room → Happening → Reply
reply_to room (Arrive seat rid request) = Arrived rid
reply_to room (Acts seat rid number op choice) = Acted rid number choice (acted op.act choice (room.objects op.object)).1
reply_to room (Depart seat rid response path) = Departed rid

-- The event is a step that the program allows. It is replied to, and leaves the room behind it.
pub record Takes (old : Recorded) (seat : ℕ) (event : Event) (reply : Reply) (new : Recorded) : Type 0 where
  pub allowed : IsStep old.program (room_of old) (happening_at (room_of old) seat event)
  pub replied : reply ≡ reply_to (room_of old) (happening_at (room_of old) seat event)
  pub left : room_of new ≡ onward (room_of old) (happening_at (room_of old) seat event)
  pub program : new.program ≡ old.program

-- It does, with the reply twice; or memory is lacking, and nothing is changed.
abbrev pub IsTaken : ℕ → Event → Recorded → Recorded → Result (Reply × Reply) AllocError → Type 0
IsTaken seat event old new (Ok r) = Takes old seat event r.0 new × (r.0 ≡ r.1)
IsTaken seat event old new (Err e) = new ≡ old
