-- What shows of a run beside those of other requests, and that runs which part show it.
use Rattle.std.specs.Prelude.{◌≡◌, ◌≢◌, ℕ, Bool, true, false, List, [], ◌∷◌, ◌++◌, map, length, Option, Some, None}
use Rattle.script_tree.specs.Datum.{Datum}
use Rattle.script_tree.specs.Faults.{fault_number}
use Rattle.script_tree.specs.declared.fault.ScriptFault.{ScriptFault}
use Rattle.script_tree.specs.declared.fault.ScriptFault.TheVariants.{OutOfSteps, TooLarge}
use Rattle.script_tree.specs.declared.operation.Op.{Op}
use Rattle.script_meaning.specs.Evaluate.{Flow}
use Rattle.script_meaning.specs.ValueFaults.{is_of_values}
use Rattle.script_meaning.specs.Run.{Progress, Ran, goes, stops, Run, issue, ◌>>=◌}
use Rattle.script_meaning.specs.declared.run.Mark.{Mark}
use Rattle.script_meaning.specs.declared.run.Mark.TheVariants.{Decided as decided, Issued as issued}
use Rattle.script_meaning.specs.declared.run.Stop.TheVariants.{Wants as wants, Fault as fault, AnswerFault as answer_fault}
use Rattle.group_laws.specs.Steady.{IsSteadyBut, progress_in}

-- the truth of a decision; none of an operation
abbrev pub shown_mark : Mark → Option Bool
shown_mark (decided b) = Some b
shown_mark (issued op) = None

-- how a run stands at its end
pub data ShownEnd : Type 0 where
  -- over after so many steps, with the number of a fault, or 0
  over : ℕ → ℕ → ShownEnd
  -- it wants an operation
  waits : ShownEnd

-- a value that is too large shows alike, whether it was computed or answered
abbrev pub shown_end : Ran Flow → ShownEnd
shown_end (goes flow p) = over p.steps 0
shown_end (stops (wants op) p) = waits
shown_end (stops (fault f) p) = over p.steps (fault_number f)
shown_end (stops answer_fault p) = over p.steps (fault_number TooLarge)

-- its decisions and operations in order, and its end
pub record Shown : Type 0 where
  pub marks : List (Option Bool)
  pub end' : ShownEnd

-- what of a run shows
abbrev pub shown_of : Ran Flow → Shown
shown_of ran = record { marks = map shown_mark (progress_in ran).trail; end' = shown_end ran }

-- with the mark of a decision
abbrev pub after_decision : Bool → Progress → Progress
after_decision b p = record p { trail = p.trail ++ decided b ∷ [] }

-- Of two runs that part something else shows, however the one that goes on ends.
pub record PartingShows : Type 0 where
  -- after as many steps one fails, and not for want of steps, where the other goes on, which has other faults at once
  pub fails_alone : (faults : ScriptFault → Bool) (run : Run Flow) (p q : Progress) (f : ScriptFault) → IsSteadyBut faults run
      → p.steps ≡ q.steps → f ≢ OutOfSteps → faults f ≡ false → shown_of (run p) ≢ shown_of (stops (fault f) q)
  -- after as many marks one fails by its values, where the other issues an operation
  pub issues_alone : (faults : ScriptFault → Bool) (op : Op) (onward : Datum → Run Flow) (p q : Progress) (f : ScriptFault)
      → ((d : Datum) → IsSteadyBut faults (onward d))
      → length p.trail ≡ length q.trail → is_of_values f ≡ true → shown_of ((issue op >>= onward) p) ≢ shown_of (stops (fault f) q)
  -- they fail otherwise
  pub fails_otherwise : (p q : Progress) (f g : ScriptFault) → f ≢ g → shown_of (stops (fault f) p) ≢ shown_of (stops (fault g) q)
  -- after as many marks they decide otherwise
  pub decides_otherwise : (faults : ScriptFault → Bool) (run other : Run Flow) (p q : Progress) (a b : Bool)
      → IsSteadyBut faults run → IsSteadyBut faults other
      → length p.trail ≡ length q.trail → a ≢ b → shown_of (run (after_decision a p)) ≢ shown_of (other (after_decision b q))
