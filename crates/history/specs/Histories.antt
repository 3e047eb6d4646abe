-- The history that a recorder's calls are, and the law that it is legal.
use Rattle.std.specs.Prelude.{◌≡◌, ℕ, List, map}
use Rattle.script_tree.specs.Objects.{Objects}
use Rattle.script_tree.specs.declared.operation.Choice.{Choice}
use Rattle.script_tree.specs.declared.operation.Choice.TheVariants.{Nothing}
use Rattle.desk.specs.Runs.{Runs}
use Rattle.desk.specs.declared.bench.Call.{Call}
use Rattle.history.specs.Recordings.{Recorded, room_of, Takes}
use Rattle.history.specs.Rooms.{AreSteps, IsLegal, empty_room, room_after}
use Rattle.history.specs.declared.event.Event.{Event}
use Rattle.history.specs.declared.event.Event.TheVariants as asks
use Rattle.history.specs.declared.event.Reply.{Reply}
use Rattle.history.specs.declared.event.Reply.TheVariants.{Arrived, Acted, Departed}
use Rattle.history.specs.declared.happening.Happening.{Happening}
use Rattle.history.specs.declared.happening.Happening.TheVariants.{Arrive, Act, Depart}

-- the id that a reply tells
abbrev pub rid_in : Reply → ℕ
rid_in (Arrived rid) = rid
rid_in (Acted rid number choice answer) = rid
rid_in (Departed rid) = rid

-- the number that it tells of an operation
abbrev pub number_in : Reply → ℕ
number_in (Arrived rid) = 0
number_in (Acted rid number choice answer) = number
number_in (Departed rid) = 0

-- the choice that it tells
abbrev pub choice_in : Reply → Choice
choice_in (Arrived rid) = Nothing
choice_in (Acted rid number choice answer) = choice
choice_in (Departed rid) = Nothing

-- what happens by the event of a seat, as its reply tells
abbrev pub happening_by : ℕ → Event → Reply → Happening
happening_by seat (asks.Arrive request) reply = Arrive seat (rid_in reply) request
happening_by seat (asks.Act op offer) reply = Act seat (rid_in reply) (number_in reply) op (choice_in reply)
happening_by seat (asks.Depart response path) reply = Depart seat (rid_in reply) response path

-- what happens by a call
abbrev pub happening_in : Call Event Reply → Happening
happening_in call = happening_by call.seat call.event call.reply

-- what happens by the calls, one after the other
abbrev pub history_of : List (Call Event Reply) → List Happening
history_of calls = map happening_in calls

-- What calls lead through is legal, and the room after it is the one that they lead to.
pub record IsRecorded (old : Recorded) (calls : List (Call Event Reply)) (new : Recorded) : Type 0 where
  pub legal : AreSteps old.program (room_of old) (history_of calls)
  pub left : room_of new ≡ room_after (room_of old) (history_of calls)

-- Law: the calls of a recorder are a legal history.
pub record RunsAreLegal : Type 0 where
  pub steps : (old new : Recorded) (calls : List (Call Event Reply)) → Runs Takes old calls new → IsRecorded old calls new
  -- from a start on, at which no request has arrived
  pub histories :
      (old new : Recorded) (start : Objects) (calls : List (Call Event Reply)) → room_of old ≡ empty_room start → Runs Takes old calls new
      → IsLegal old.program start (history_of calls)
