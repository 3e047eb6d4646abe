-- What it means that no difference is found.
use Rattle.std.specs.Result.{result_map_both}
use Rattle.std.specs.Borrow.{Bor}
use Rattle.std.specs.Prelude.{◌≡◌, ◌↔◌, ℕ, List, Option, None, Result, Ok, Err}
use Rattle.script_tree.specs.Objects.{Objects}
use Rattle.period.specs.Traces.{IsBalanced}
use Rattle.period.specs.declared.schedule.Moment.{Moment}
use Rattle.script_tree.specs.Programs.{Program}
use Rattle.period.specs.declared.trace.TraceEvent.{TraceEvent}
use Rattle.script_meaning.specs.Explains.{Explains}
use Rattle.object_set.specs.ObjectSets.{HeldObjects, objects_of}
use Rattle.replayer.specs.Differences.{difference_of, replayed}
use Rattle.replayer.specs.declared.reason.ReplayReason.{ReplayReason}
use Rattle.replayer.specs.declared.reason.Replayed.{Replayed}
use Rattle.replayer.specs.declared.reason.Replayed.TheVariants.{Agrees}

-- A schedule differs nowhere from a balanced trace exactly where it explains the trace.
abbrev pub AgreesExactly : Type 0
AgreesExactly = (program : Program) (start : Objects) (trace : List TraceEvent) (schedule : List Moment) → IsBalanced trace
    → (difference_of program start trace schedule ≡ None) ↔ Explains program start trace schedule

-- the moments of a schedule that was read, or the place of its fault
abbrev pub schedule_read : Result (Bor (List Moment)) ℕ → Result (List Moment) ℕ
schedule_read r = result_map_both (λ s. s.now) (λ at. at) r

-- It is where the schedule first differs, from what these objects hold.
abbrev pub IsDifference : Program → HeldObjects → List TraceEvent → List Moment → Option ReplayReason → Type 0
IsDifference program start trace schedule d = d ≡ difference_of program (objects_of start) trace schedule

-- It is what a replay finds.
abbrev pub IsFinding : Program → HeldObjects → List TraceEvent → Result (List Moment) ℕ → Replayed → Type 0
IsFinding program start trace schedule r = r ≡ replayed program (objects_of start) trace schedule

-- There is a schedule, and it explains the trace.
abbrev pub ExplainsIfRead : Program → Objects → List TraceEvent → Result (List Moment) ℕ → Type 0
ExplainsIfRead program start trace (Ok schedule) = Explains program start trace schedule
ExplainsIfRead program start trace (Err at) = ⊥

-- It agrees exactly where there is one.
abbrev pub AgreesWhereExplained : Program → HeldObjects → List TraceEvent → Result (List Moment) ℕ → Replayed → Type 0
AgreesWhereExplained program start trace schedule r = (r ≡ Agrees) ↔ ExplainsIfRead program (objects_of start) trace schedule
