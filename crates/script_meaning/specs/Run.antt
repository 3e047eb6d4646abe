-- A run of a page: what was spent and done so far, and how it goes on or stops.
use Rattle.std.specs.Prelude.{ℕ, ◌+◌, ◌==◌, if◌then◌else◌, Bool, List, [], ◌∷◌, ◌++◌, Option, Some, None, Result, Ok, Err}
use Rattle.script_tree.specs.Datum.{Datum, is_within_limits}
use Rattle.script_tree.specs.Requests.{Request}
use Rattle.script_tree.specs.declared.fault.ScriptFault.{ScriptFault}
use Rattle.script_tree.specs.declared.fault.ScriptFault.TheVariants.{OutOfSteps, TooManyOperations}
use Rattle.script_tree.specs.declared.limits.TheConstants.{MOST_STEPS, MOST_OPERATIONS}
use Rattle.script_meaning.specs.Kinds.{bool_in}
use Rattle.script_meaning.specs.Operations.{Op}
pub use Rattle.script_meaning.specs.declared.run.Mark.{Mark}
pub use Rattle.script_meaning.specs.declared.run.Mark.TheVariants.{Decided as decided, Issued as issued}
pub use Rattle.script_meaning.specs.declared.run.Stop.{Stop}
pub use Rattle.script_meaning.specs.declared.run.Stop.TheVariants.{Wants as wants, Fault as fault, AnswerFault as answer_fault}

-- what a step is spent on
pub data Cost : Type 0 where
  -- what takes these values
  taking : List Datum → Cost
  -- what takes the request as well
  taking_request : Request → List Datum → Cost
  -- an operation that is issued
  issuing : Cost

-- what was spent and done so far
pub record Progress : Type 0 where
  -- the steps spent, and the operations issued
  pub steps : ℕ
  pub operations : ℕ
  -- what each step was spent on, the last first; only a run that is asked to keeps it
  pub costs : Option (List Cost)
  -- the decisions and the answered operations, in order
  pub trail : List Mark
  -- the answers that are left for operations to come
  pub answers : List Datum
  -- the response so far
  pub status : ℕ
  pub body : List ℕ

-- A run stops where an operation is issued and no answer is left, at a fault, and at an answer beyond the limits of a value.
pub data Ran (A : Type 0) : Type 0 where
  goes : A → Progress → Ran A
  stops : Stop → Progress → Ran A

-- a part of a run, which gives an A where it goes on
abbrev pub Run : Type 0 → Type 0
Run A = Progress → Ran A

-- goes on with this
abbrev pub give : {A : Type 0} → A → Run A
give a p = goes a p

-- stops at this fault
abbrev pub fails : {A : Type 0} → ScriptFault → Run A
fails f p = stops (fault f) p

-- the value or the fault that was computed
abbrev pub unless_fault : {A : Type 0} → Result A ScriptFault → Run A
unless_fault (Ok a) = give a
unless_fault (Err f) = fails f

-- what comes after a part of a run, where it goes on
abbrev pub after : {A B : Type 0} → Ran A → (A → Run B) → Ran B
after (goes a p) f = f a p
after (stops e p) f = stops e p

-- one part after another, which may look at what the first gave
infixl 10 ◌>>=◌
abbrev pub ◌>>=◌ : {A B : Type 0} → Run A → (A → Run B) → Run B
◌>>=◌ m f = λ p. after (m p) f

infixl 10 ◌>>◌
-- one part after another, whatever the first gave
abbrev pub ◌>>◌ : {A B : Type 0} → Run A → Run B → Run B
◌>>◌ m n = λ p. after (m p) (λ _. n)

-- ---- steps

-- one cost more, where they are kept
abbrev pub and_cost : Cost → Option (List Cost) → Option (List Cost)
and_cost c None = None
and_cost c (Some cs) = Some (c ∷ cs)

-- a step is spent, where any is left
abbrev pub charge : Cost → Run (Unit {0})
charge c p =
    if p.steps == MOST_STEPS then stops (fault OutOfSteps) p
    else goes tt (record p { steps = p.steps + 1; costs = and_cost c p.costs })

-- one that is spent on a value
abbrev pub charge_for : Datum → Run (Unit {0})
charge_for d = charge (taking (d ∷ []))

-- a mark joins the trail
abbrev pub note : Mark → Run (Unit {0})
note m p = goes tt (record p { trail = p.trail ++ m ∷ [] })

-- A decision spends a step on an operand, asks for a boolean, and leaves its mark.
abbrev pub decide_by : (operand : Datum) → Datum → Run Bool
decide_by operand d = do
  charge_for operand
  b ← unless_fault (bool_in d)
  note (decided b)
  give b

-- a decision on a value, which its step is spent on
abbrev pub decide : Datum → Run Bool
decide d = decide_by d d

-- ---- operations

-- the last step was spent on an operation
abbrev pub last_issuing : Option (List Cost) → Option (List Cost)
last_issuing None = None
last_issuing (Some []) = Some []
last_issuing (Some (c ∷ cs)) = Some (issuing ∷ cs)

-- an operation is counted, where any may still be issued
abbrev pub count_operation : Run (Unit {0})
count_operation p =
    if p.operations == MOST_OPERATIONS then stops (fault TooManyOperations) p
    else goes tt (record p { operations = p.operations + 1; costs = last_issuing p.costs })

-- An operation takes the next answer, which is to be within the limits of a value. Where none is left, the run stops and
-- wants it.
abbrev pub answered : Op → List Datum → Run Datum
answered op [] p = stops (wants op) p
answered op (d ∷ ds) p =
    let q : Progress = record p { answers = ds; trail = p.trail ++ issued op ∷ [] } in
    if is_within_limits d then goes d q else stops answer_fault q

-- an operation takes the next of the answers that are left
abbrev pub take_answer : Op → Run Datum
take_answer op p = answered op p.answers p

-- an operation is counted, and takes its answer
abbrev pub issue : Op → Run Datum
issue op = count_operation >> take_answer op
