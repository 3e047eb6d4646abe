-- What is kept between two moments of a schedule, and what it shows of them.
use Rattle.std.specs.Prelude.{◌≡◌, ℕ, List, [], ◌∷◌, ◌++◌, Bool, not, Option, Some, None}
use Rattle.script_tree.specs.Programs.{Program}
use Rattle.period.specs.Traces.{request_of}
use Rattle.script_tree.specs.declared.operation.Object.{Object}
use Rattle.period.specs.declared.schedule.Moment.{Moment}
use Rattle.period.specs.declared.trace.TraceEvent.{TraceEvent}
use Rattle.script_meaning.specs.Replay.{Scene, opening, after, ending_with}
use Rattle.replayer.specs.Differences.{has_arrived, has_departed, moment_fault, fault_of}
use Rattle.script_fit.specs.FitsOperation.{FitsOperation}
use Rattle.object_set.specs.ObjectSets.{HeldObjects, objects_of}
use Rattle.trace_index.specs.Places.{request_place}
use Rattle.replayer.specs.Runners.{IsNextIfOpen}
use Rattle.replayer.specs.Standings.{standing_in, answers_in, is_away, departed_in, first_waiting}
use Rattle.replayer.specs.declared.reason.Reason.{Reason}
use Rattle.replayer.specs.declared.runner.Next.{Next}
use Rattle.replayer.specs.declared.runner.Next.TheVariants.{Wants, Ends}
use Rattle.replayer.specs.declared.stage.Stage.{Stage}
use Rattle.replayer.specs.declared.standing.Standing.{Standing}

-- how the request of an id stands
abbrev pub standing_of : Stage → ℕ → Standing
standing_of stage r = standing_in stage.trace stage.standings.items r

-- whether it has departed
abbrev pub departed_of : Stage → ℕ → Bool
departed_of stage r = departed_in stage.trace stage.standings.items r

-- what is kept between two moments
pub record Kept : Type 0 where
  pub objects : HeldObjects
  pub standings : List Standing
  pub waiting : ℕ

-- what the stage keeps
abbrev pub kept_of : Stage → Kept
kept_of stage = record { objects = stage.objects; standings = stage.standings.items; waiting = stage.waiting }

-- It is what the scene after the moments so far has: what objects hold, how requests stand, and the place of the first
-- response that is waited for.
pub record ShowsIn (trace : List TraceEvent) (past : List Moment) (scene : Scene) (kept : Kept) : Type 0 where
  pub objects : (o : Object) → scene.objects o ≡ objects_of kept.objects o
  pub answers : (r : ℕ) → scene.answers r ≡ answers_in (standing_in trace kept.standings r)
  pub arrived : (r : ℕ) → has_arrived past r ≡ not (is_away (standing_in trace kept.standings r))
  pub departed : (r : ℕ) → has_departed past r ≡ departed_in trace kept.standings r
  pub waits : kept.waiting ≡ first_waiting (departed_in trace kept.standings) trace

-- the stage keeps what the scene after these moments has
abbrev pub Shows : List Moment → Scene → Stage → Type 0
Shows past scene stage = ShowsIn stage.trace past scene (kept_of stage)

-- The stage is one of this program and this trace.
pub record IsStageOf (p : Program) (es : List TraceEvent) (stage : Stage) : Type 0 where
  pub program : stage.index.now ≡ p
  pub trace : stage.trace ≡ es

-- The stage before the first moment, where the objects hold this.
pub record Opens (program : Program) (start : HeldObjects) (trace : List TraceEvent) (stage : Stage) : Type 0 where
  pub of : IsStageOf program trace stage
  pub shown : Shows [] (opening (objects_of start)) stage

-- The reason is this fault. Where there is none, the stage shows the scene after the moment.
pub record IsStep (past : List Moment) (scene : Scene) (m : Moment) (fault reason : Option Reason) (old new : Stage) : Type 0 where
  pub named : fault ≡ reason
  pub shown : reason ≡ None → Shows (past ++ m ∷ []) (after old.index.now old.trace scene m) new

-- The reason is why the moment fails in the scene that is shown.
abbrev pub Steps : Moment → Stage → Stage → Option Reason → Type 0
Steps m old new reason =
    (past : List Moment) (scene : Scene) → Shows past scene old
    → IsStep past scene m (fault_of old.index.now old.trace past scene m) reason old new

-- The same of a moment of the request that stands at a place.
abbrev pub StepsAt : (place : ℕ) → (ℕ → Moment) → Stage → Stage → Option Reason → Type 0
StepsAt place moment old new reason =
    (r : ℕ) → request_place old.trace r ≡ Some place → (past : List Moment) (scene : Scene) → Shows past scene old
    → IsStep past scene (moment r) (moment_fault old.index.now old.trace past scene (moment r)) reason old new

-- An operation that is wanted fits the program.
abbrev pub WantsWhatFits : Stage → Option Next → Type 0
WantsWhatFits stage None = Unit {0}
WantsWhatFits stage (Some (Wants op)) = FitsOperation stage.index.now op
WantsWhatFits stage (Some (Ends response)) = Unit {0}

-- What the request that stands at a place does next, where it is open.
abbrev pub NextAt : (place : ℕ) → Stage → Option Next → Type 0
NextAt place stage next =
    (r : ℕ) → request_place stage.trace r ≡ Some place
    → IsNextIfOpen next (ending_with stage.index.now (request_of stage.trace r) (answers_in (standing_of stage r)))
