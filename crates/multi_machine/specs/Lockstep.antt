-- That each member of a group is where its own run is, and what the group cost so far.
use Rattle.std.specs.Prelude.{◌≡◌, ◌<◌, ◌+◌, ℕ, List, [], ◌∷◌, ◌++◌, length, map, get_or, Option, Some, None, true, false, Ok, Err}
use Rattle.script_tree.specs.Datum.{Datum}
use Rattle.script_tree.specs.Programs.{Program}
use Rattle.script_tree.specs.Requests.{Request}
use Rattle.script_tree.specs.declared.fault.ScriptFault.{ScriptFault}
use Rattle.script_tree.specs.declared.operation.Op.{Op}
use Rattle.script_meaning.specs.Conduct.{conduct, ended, start}
use Rattle.script_meaning.specs.Costs.{keeping, kept_in, costs_in, costs_of}
use Rattle.script_meaning.specs.Evaluate.{Flow, on}
use Rattle.script_meaning.specs.GroupCost.{group_cost}
use Rattle.script_meaning.specs.Run.{Cost, Progress, Ran, goes, stops}
use Rattle.script_meaning.specs.declared.run.Stop.TheVariants.{Wants as wants, Fault as fault, AnswerFault as answer_fault}
use Rattle.script_code.specs.Code.{Entry}
use Rattle.script_code.specs.Translated.{IsCodeOf, pages_of}
use Rattle.script_code.specs.declared.translate.Code.{Code}
use Rattle.multivalue.specs.Many.{Many, member_value}
use Rattle.multivalue.specs.declared.apart.Apart.TheVariants.{Fault}
use Rattle.multi_nodes.specs.Answers.{nothing}
use Rattle.multi_nodes.specs.Members.{request_at}
use Rattle.multi_state.specs.Progress.{Charges, Unseen, bare, total, progress_at}
use Rattle.multi_state.specs.Totals.{costs_of_all}
use Rattle.multi_state.specs.declared.went.Went.TheVariants.{Over, Wants}
use Rattle.multi_run.specs.Answering.{AllAnswered}
use Rattle.multi_run.specs.Runs.{Runs, exec_at, going_at}
use Rattle.multi_run.specs.declared.run.Run as group

-- one run of instructions leads to another: after some number of them it does what the other does
abbrev pub Reaches : (ℕ → Ran Flow) → (ℕ → Ran Flow) → Type 0
Reaches here there = (n : ℕ) × ((k : ℕ) → here (n + k) ≡ there k)

-- a member's own run from the page's place, which keeps its costs or doesn't, within so many instructions
abbrev pub begun : List Request → Code → (place : ℕ) → ℕ → Option (List Cost) → List Datum → ℕ → Ran Flow
begun qs code place i kept answers k = exec_at qs code i k [] place [] [] (keeping kept (start answers))

-- what the group doesn't keep of a member
abbrev pub unseen : Option (List Cost) → List Op → List Datum → Unseen
unseen kept ops more = record { kept = kept; ops = ops; more = more }

-- After its own answers each member is where the group is, whatever answers are still to come, and whether or not it keeps
-- its costs; by the costs, so many nodes were to be evaluated.
pub record InLockstep (qs : List Request) (code : Code) (place : ℕ) (answers : ℕ → List Datum) (m : group.Run) (spent : ℕ) : Type 0 where
  pub charges : Charges
  pub ops : ℕ → List Op
  pub costs : spent ≡ total (length qs) charges
  pub reaches : (i : ℕ) → i < length qs → (kept : Option (List Cost)) (more : List Datum)
      → Reaches (begun qs code place i kept (answers i ++ more))
      (λ k. going_at qs code i m k (progress_at m.state.account charges i (unseen kept (ops i) more)))

-- After its own answers each member's run comes to this; by the costs, so many nodes were to be evaluated.
pub record ComesTo (qs : List Request) (code : Code) (place : ℕ) (answers : ℕ → List Datum) (ran : ℕ → Progress → Ran Flow) (m : group.Run) (spent : ℕ) : Type 0 where
  pub charges : Charges
  pub ops : ℕ → List Op
  pub costs : spent ≡ total (length qs) charges
  pub reaches : (i : ℕ) → i < length qs → (kept : Option (List Cost))
      → Reaches (begun qs code place i kept (answers i)) (λ k. ran i (progress_at m.state.account charges i (unseen kept (ops i) [])))

-- the count rises from this to that by what was spent since
abbrev pub Rises : (before after' : ℕ) → (spent now : ℕ) → Type 0
Rises before after' spent now = after' + spent ≡ before + now

-- A run of all members keeps them in lockstep, and the count of nodes rises by what it costs.
pub record StaysInLockstep : Type 0 where
  pub over : (qs : List Request) (code : Code) (place : ℕ) (answers : ℕ → List Datum) (old new : group.Run) (spent before after' : ℕ)
      → InLockstep qs code place answers old spent → Runs before after' qs code old (Ok Over) new
      → (now : ℕ) × Rises before after' spent now × ComesTo qs code place answers (λ i p. goes (on []) p) new now
  pub faults : (qs : List Request) (code : Code) (place : ℕ) (answers : ℕ → List Datum) (old new : group.Run) (spent before after' : ℕ) (f : ScriptFault)
      → InLockstep qs code place answers old spent → Runs before after' qs code old (Err (Fault f)) new
      → (now : ℕ) × Rises before after' spent now × ComesTo qs code place answers (λ i p. stops (fault f) p) new now
  pub wants' : (qs : List Request) (code : Code) (place : ℕ) (answers : ℕ → List Datum) (old new : group.Run) (spent before after' : ℕ) (ops : List Op)
      → InLockstep qs code place answers old spent → Runs before after' qs code old (Ok (Wants ops)) new
      → (now : ℕ) × Rises before after' spent now × ComesTo qs code place answers (λ i p. stops (wants (get_or ops i nothing)) p) new now
  -- with the answers to the operations that were wanted
  pub answered : (qs : List Request) (code : Code) (place : ℕ) (answers : ℕ → List Datum) (old mid new : group.Run)
      (spent before after' : ℕ) (ops : List Op) (m : Many)
      → InLockstep qs code place answers old spent → Runs before after' qs code old (Ok (Wants ops)) mid → AllAnswered (length qs) m mid (Ok true) new
      → (now : ℕ) × Rises before after' spent now × InLockstep qs code place (λ i. answers i ++ member_value m i ∷ []) new now
  -- with answers of which none is within the limits of a value
  pub refused : (qs : List Request) (code : Code) (place : ℕ) (answers : ℕ → List Datum) (old mid new : group.Run)
      (spent before after' : ℕ) (ops : List Op) (m : Many)
      → InLockstep qs code place answers old spent → Runs before after' qs code old (Ok (Wants ops)) mid → AllAnswered (length qs) m mid (Ok false) new
      → (now : ℕ) × Rises before after' spent now × ComesTo qs code place (λ i. answers i ++ member_value m i ∷ []) (λ i p. stops answer_fault p) new now

-- A run comes to its progress, whatever else it comes to.
pub record LeavesProgress (ran : ℕ → Progress → Ran Flow) : Type 0 where
  pub costs : (i : ℕ) (p : Progress) → costs_in (ran i p) ≡ kept_in p.costs
  pub trail : (i : ℕ) (p : Progress) (number : ℕ) → (ended number (ran i p)).trail ≡ p.trail

-- all members have this page
abbrev pub HavePage : List Request → Code → Entry → Type 0
HavePage qs code entry = (i : ℕ) → i < length qs → pages_of code (request_at qs i).path ≡ Some entry

-- What all members come to tells what each does, its marks, and that so many nodes were evaluated as the group costs.
pub record ComesToTells : Type 0 where
  pub conducts : (program : Program) (qs : List Request) (code : Code) (entry : Entry) (answers : ℕ → List Datum)
      (ran : ℕ → Progress → Ran Flow) (m : group.Run) (spent : ℕ)
      → IsCodeOf program code → HavePage qs code entry → (o : ComesTo qs code entry.place answers ran m spent)
      → (i : ℕ) → i < length qs → conduct program (request_at qs i) (answers i)
      ≡ ended entry.number (ran i (progress_at m.state.account o.charges i (unseen None (o.ops i) [])))
  pub marks : (program : Program) (qs : List Request) (code : Code) (entry : Entry) (answers : ℕ → List Datum)
      (ran : ℕ → Progress → Ran Flow) (m : group.Run) (spent : ℕ)
      → IsCodeOf program code → HavePage qs code entry → LeavesProgress ran → ComesTo qs code entry.place answers ran m spent
      → (i : ℕ) → i < length qs → map bare (conduct program (request_at qs i) (answers i)).trail ≡ m.state.account.trail.items
  pub costs : (program : Program) (qs : List Request) (code : Code) (entry : Entry) (answers : ℕ → List Datum)
      (ran : ℕ → Progress → Ran Flow) (m : group.Run) (spent : ℕ)
      → IsCodeOf program code → HavePage qs code entry → LeavesProgress ran → ComesTo qs code entry.place answers ran m spent
      → 0 < length qs → spent ≡ group_cost (costs_of_all 0 (length qs) (λ i. costs_of program (request_at qs i) (answers i)))
