-- Parts of a run, one after another.
use Rattle.std.proofs.Common.{◌≡◌, ◌+◌, ℕ, Bool, true, false, List, [], ◌∷◌, Some, drop, length, Result, Ok, Err, refl, ap, arith}
use Rattle.std.specs.Prelude.{slice_get, ◌==◌}
use Rattle.script_tree.specs.Datum.{Datum, null}
use Rattle.script_tree.specs.Requests.{Request}
use Rattle.script_tree.specs.declared.fault.ScriptFault.{ScriptFault}
use Rattle.script_tree.specs.declared.limits.TheConstants.{MOST_CALL_DEPTH}
use Rattle.script_meaning.specs.BuiltinCalls.{Call, plain, of_request, operation}
use Rattle.script_meaning.specs.Evaluate.{Flow, call_made, issue_unless_fault}
use Rattle.script_meaning.specs.Operands.{OpAnswer, transact_op}
use Rattle.basis.specs.UnlessMemory.{Answers}
use Rattle.basis.specs.declared.or_memory.OrMemory.{OrMemory}
use Rattle.basis.specs.declared.or_memory.OrMemory.TheVariants as values
use Rattle.script_code.specs.CodeRun.{Frame, Next, step, topmost, all_taken, all_filled}
use Rattle.script_code.specs.declared.instruction.Shape.{Shape}
use Rattle.script_code.specs.declared.instruction.Instruction.{Instruction}
use Rattle.script_code.specs.declared.instruction.Instruction.TheVariants.{And, Or, Branch, Each, Call as Enter, Transact}
use Rattle.script_values.specs.CallsMade.{made}
use Rattle.script_values.specs.Outputs.{TellsRan}
use Rattle.script_values.specs.declared.builtins.Called.{Called}
use Rattle.script_values.specs.declared.builtins.Called.TheVariants.{Value, Operation}
use Rattle.script_meaning.specs.Kinds.{bool_in}
use Rattle.script_meaning.specs.Operations.{Op}
use Rattle.script_meaning.specs.Run.{Progress, Ran, goes, after, charge, taking, charge_for, note, decide, issue, Run}
use Rattle.script_meaning.specs.declared.run.Mark.TheVariants.{Decided as decided}
use Rattle.machine.specs.Does.{Then, Leaves}
use Rattle.machine.specs.Gives.{Stops, decide_so, progress_of, stopped_by}
use Rattle.machine.specs.declared.state.State.{State}
use Rattle.machine.specs.declared.stopped.Stopped.{Stopped}
use Rattle.machine.specs.declared.stopped.Stopped.TheVariants.{Memory, Wants, Fault}

-- where the first part stops, so does the whole
pub stops_first : {A B : Type 0} (e : Stopped) (p : Progress) (o : Ran A) (f : A → Run B) → Stops e p o → Stops e p (after o f)
stops_first Memory p o f h = tt
stops_first (Wants op) p o f h = h
stops_first (Fault k) p o f h = ap (λ r. after r f) h

-- a run stops where its output does
pub output_stops : (e : OrMemory ScriptFault) (p : Progress) (o : Ran (Unit {0})) → TellsRan (Err e) p o → Stops (stopped_by e) p o
output_stops values.Memory p o h = tt
output_stops (values.Other f) p o h = h

-- a decision is a step, a boolean, and a mark
pub decides : (d : Datum) (b : Bool) (p q r : Progress) → charge_for d p ≡ goes tt q → bool_in d ≡ Ok b → note (decided b) q ≡ goes tt r → decide d p ≡ goes b r
decides d b p q r h k l = rw (h, k) (ap (λ o. after o (λ u. goes b)) l)

pub decides_so : (b : Bool) (p q r : Progress) → charge_for null p ≡ goes tt q → note (decided b) q ≡ goes tt r → decide_so b p ≡ goes b r
decides_so b p q r h l = rw h (ap (λ o. after o (λ u. goes b)) l)

value_not : (d : Datum) (op : Op) → ◌≡◌ {A = Result Called ScriptFault} (Ok (Value d)) (Ok (Operation op)) → ⊥
value_not d op e = grind arith

fault_not : (f : ScriptFault) (op : Op) → ◌≡◌ {A = Result Called ScriptFault} (Err f) (Ok (Operation op)) → ⊥
fault_not f op e = grind arith

op_is : (o op : Op) → ◌≡◌ {A = Result Called ScriptFault} (Ok (Operation o)) (Ok (Operation op)) → o ≡ op
op_is o op e = grind arith

-- an operation that a call comes to is issued
pub calls_issue : (c : Call) (op : Op) (p : Progress) → made c ≡ Ok (Operation op) → call_made c p ≡ issue op p
calls_issue (plain (Ok d)) op p e = absurd (value_not d op e)
calls_issue (plain (Err f)) op p e = absurd (fault_not f op e)
calls_issue (of_request (Ok d)) op p e = absurd (value_not d op e)
calls_issue (of_request (Err f)) op p e = absurd (fault_not f op e)
calls_issue (operation (Ok o)) op p e = ap (λ x. issue x p) (op_is o op e)
calls_issue (operation (Err f)) op p e = absurd (fault_not f op e)

module _ (q : Request) (functions : List ℕ) (next : Next) (fs : List Frame) (pc n : ℕ)
    (st rest st' vs vs' : List Datum) (x : Datum) (p p' r : Progress) (top : st ≡ x ∷ rest) (same : vs' ≡ vs)
    (account : p' ≡ p) where
  -- a decision that jumps
  pub branch_jumps : decide x p' ≡ goes false r → st' ≡ rest → step q functions (Some (Branch n)) next fs pc st vs p ≡ next fs (pc + 1 + n) st' vs' r
  branch_jumps d e = rw (top, same, ← account, d, e) refl

  pub and_jumps : decide x p' ≡ goes false r → st' ≡ x ∷ rest → step q functions (Some (And n)) next fs pc st vs p ≡ next fs (pc + 1 + n) st' vs' r
  and_jumps d e = rw (top, same, ← account, d, e) refl

  pub or_jumps : decide x p' ≡ goes true r → st' ≡ x ∷ rest → step q functions (Some (Or n)) next fs pc st vs p ≡ next fs (pc + 1 + n) st' vs' r
  or_jumps d e = rw (top, same, ← account, d, e) refl

  pub each_jumps : st' ≡ x ∷ x ∷ rest → step q functions (Some (Each n)) next fs pc st vs p ≡ next fs (pc + 1 + n) st' vs' p'
  each_jumps e = rw (top, same, account, e) refl

-- an instruction does the same with the same stack, slots and progress
pub steps_alike : (q : Request) (functions : List ℕ) (i : Instruction) (next : Next) (fs : List Frame) (pc : ℕ)
    (st st' vs vs' : List Datum) (p p' : Progress) → st ≡ st' → vs ≡ vs' → p ≡ p'
    → step q functions (Some i) next fs pc st vs p ≡ step q functions (Some i) next fs pc st' vs' p'
steps_alike q functions i next fs pc st st' vs vs' p p' e f g = rw (e, f, g) refl

-- a call enters the function that begins at a place
pub call_enters : (q : Request) (functions : List ℕ) (next : Next) (fs : List Frame) (pc f n start : ℕ)
    (st vs ds empty : List Datum) (frames : List Frame) (p r : Progress) → topmost n st [] ≡ ds → charge (taking ds) p ≡ goes tt r
    → slice_get functions f ≡ Some start → (length fs == MOST_CALL_DEPTH) ≡ false → empty ≡ []
    → frames ≡ record { place = pc + 1; stack = drop n st; slots = vs } ∷ fs
    → step q functions (Some (Enter f n)) next fs pc st vs p ≡ next frames start empty ds r
call_enters q functions next fs pc f n start st vs ds empty frames p r values h found shallow none more =
    rw (none, more, values, h, found, shallow) refl

-- an instruction stops where its part did
pub stops_leaves : (then' : Then) (ops : List Op) (more : List Datum) (s : State) (e : Stopped) (o : Ran Flow)
    → Stops e (progress_of s.account ops more) o → Leaves then' ops more (Err e) s o
stops_leaves then' ops more s Memory o h = tt
stops_leaves then' ops more s (Wants op) o h = absurd h
stops_leaves then' ops more s (Fault f) o h = h

-- a transaction is issued after its step
pub transact_issues : (q : Request) (functions : List ℕ) (next : Next) (fs : List Frame) (pc : ℕ)
    (st rest vs ds : List Datum) (shapes : List Shape) (p r : Progress) → topmost (all_taken shapes) st [] ≡ ds
    → drop (all_taken shapes) st ≡ rest → charge (taking ds) p ≡ goes tt r
    → step q functions (Some (Transact shapes)) next fs pc st vs p
    ≡ after (issue_unless_fault (transact_op (all_filled shapes ds)) r) (λ d. next fs (pc + 1) (d ∷ rest) vs)
transact_issues q functions next fs pc st rest vs ds shapes p r e f h = rw (e, f, h) refl

pub op_fails : (e : OrMemory ScriptFault) (a : OpAnswer) (r : Progress) → Answers {A = Op} {B = Op} (λ x. x) a (Err e)
    → Stops (stopped_by e) r (issue_unless_fault a r)
op_fails values.Memory a r h = tt
op_fails (values.Other f) a r h = rw h refl
