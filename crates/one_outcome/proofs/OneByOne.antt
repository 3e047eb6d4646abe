-- Runs of the same jobs one by one are one, where the clock stands still.
use Rattle.std.proofs.Common.{◌≡◌, ℕ, List, Some}
use Rattle.script_tree.specs.Objects.{Objects}
use Rattle.script_tree.specs.Programs.{Program}
use Rattle.script_tree.specs.Requests.{Request}
use Rattle.history.specs.Arrivals.{arrivals}
use Rattle.history.specs.declared.happening.Happening.{Happening}
use Rattle.commands.specs.Ways.{IsRunBy}
use Rattle.commands.specs.declared.recording.Way.{Way}
use Rattle.commands.specs.declared.recording.Way.TheVariants.{ByTurns, ByWorkers}
use Rattle.one_outcome.specs.OneHistory.{IsOneByOne, RunsAreOne}
use Rattle.one_outcome.proofs.OneWorker.{served_is_one}
use Rattle.one_outcome.proofs.Runs.{turns_are_one}

-- the jobs arrive in their order
pub in_order : (way : Way) (program : Program) (start : Objects) (jobs : List Request) (seed n : ℕ) (h : List Happening)
    → IsOneByOne way → IsRunBy way program start jobs seed (Some n) h → arrivals h ≡ jobs
in_order (ByTurns turns) program start jobs seed n h one run = run.arrive
in_order (ByWorkers workers) program start jobs seed n h one run = run.in_order one

pub runs_are_one : RunsAreOne
runs_are_one (ByTurns turns) program start jobs seed n g h one first second = turns_are_one program start jobs turns seed n g h first second
runs_are_one (ByWorkers workers) program start jobs seed n g h one first second = served_is_one program start jobs workers seed n g h one first second
