-- What stands at the seats: the machine of each open request.
use Rattle.std.specs.Prelude.{◌≡◌, ℕ, ◌≤◌, length, Option, Some, None}
use Rattle.std.specs.Vec.Iter.{into_iter_items, into_iter_len}
use Rattle.script_tree.specs.Programs.{Program}
use Rattle.script_tree.specs.Requests.{IsRequestWithinLimits}
use Rattle.script_tree.specs.declared.limits.TheConstants.{MOST_OPERATIONS}
use Rattle.script_tree.specs.declared.operation.Op.{Op}
use Rattle.script_check.specs.Validity.{IsValid}
use Rattle.script_meaning.specs.Conduct.{Wants}
use Rattle.script_meaning.specs.Replay.{ending_of}
use Rattle.script_code.specs.Translated.{IsCodeOf}
use Rattle.machine.specs.Follows.{Follows, IsReady, IsWaiting}
use Rattle.machine.specs.declared.machine.Machine.{Machine}
use Rattle.workload.specs.declared.limits.TheConstants.{SEATS}
use Rattle.history.specs.Seats.{at_seat}
use Rattle.history.specs.Visits.{Visit}
use Rattle.turns.specs.declared.table.Table.{Table}

-- The machine stands where the program stands after the answers of the request, and can go on.
pub record IsAt (program : Program) (v : Visit) (m : Machine) : Type 0 where
  pub follows : Follows program v.request v.answers m
  pub ready : IsReady m
  pub short : IsRequestWithinLimits v.request
  pub few : length v.answers ≤ MOST_OPERATIONS

-- A machine stands exactly where a request is open.
abbrev pub IsSeated : Program → Option Visit → Option Machine → Type 0
IsSeated program None None = Unit {0}
IsSeated program None (Some m) = ⊥
IsSeated program (Some v) None = ⊥
IsSeated program (Some v) (Some m) = IsAt program v m

-- The machine of the open request waits for the answer to this operation.
pub record WaitsFor (program : Program) (here : Option Visit) (op : Op) (m : Machine) : Type 0 where
  pub visit : Visit
  pub here' : here ≡ Some visit
  pub follows : Follows program visit.request visit.answers m
  pub waits : IsWaiting m
  pub short : IsRequestWithinLimits visit.request
  pub wants : ending_of program visit.request visit.answers ≡ Wants op

-- Each seat has its dice, and the machine of the request that is open there.
pub record IsLaid (t : Table) : Type 0 where
  pub code : IsCodeOf t.recording.program t.code.now
  pub valid : IsValid t.recording.program
  pub seated : (seat : ℕ) → IsSeated t.recording.program (at_seat t.recording.visits seat) (at_seat t.runs.items seat)
  pub runs : length t.runs.items ≡ SEATS
  pub dice : length t.dice.items ≡ SEATS
  pub jobs : into_iter_len t.jobs ≡ length (into_iter_items t.jobs)
