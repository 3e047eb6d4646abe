-- Runs of several instructions.
use Rattle.std.proofs.Common.{◌≡◌, ◌+◌, ◌≤◌, ℕ, zero, suc, List, Some, Err, refl, ap, ◌∙◌, length, arith}
use Rattle.std.specs.Prelude.{slice_get}
use Rattle.std.proofs.lemmas.Option.{slice_get_past}
use Rattle.script_tree.specs.Datum.{Datum}
use Rattle.script_tree.specs.Requests.{Request}
use Rattle.script_meaning.specs.Evaluate.{Flow}
use Rattle.script_meaning.specs.Operations.{Op}
use Rattle.script_meaning.specs.Run.{Ran, Progress, stops}
use Rattle.script_meaning.specs.declared.run.Stop.TheVariants.{Fault as fault}
use Rattle.script_code.specs.CodeRun.{Frame, exec, lacking, step}
use Rattle.script_code.specs.declared.instruction.Instruction.{Instruction}
use Rattle.script_code.specs.declared.instruction.Instruction.TheVariants.{Push, Load, Binary, Assign}
use Rattle.script_tree.specs.declared.syntax.operator.BinaryOperator.{BinaryOperator}
use Rattle.machine.specs.Does.{EndsAt, Comes, Stands}
use Rattle.machine.specs.Follows.{Reaches}
use Rattle.machine.specs.declared.run.Run.{Run}
use Rattle.machine.specs.declared.stopped.Stopped.{Stopped}
use Rattle.machine.specs.declared.stopped.Stopped.TheVariants.{Memory, Wants, Fault}

pub ends_at : (q : Request) (functions : List ℕ) (code : List Instruction) (k : ℕ) → EndsAt (length code) (exec q functions code k)
ends_at q functions code zero fs pc stack slots p h = refl
ends_at q functions code (suc k) fs pc stack slots p h = ap (λ o. step q functions o (exec q functions code k) fs pc stack slots p) (slice_get_past code pc h)

-- one instruction more, and n behind it
pub more_done : (n : ℕ) (f g h : ℕ → Ran Flow) → Reaches f g → ((k : ℕ) → g (n + suc k) ≡ h k) → Reaches f h
more_done n f g h r s = (r.0 + n + 1, λ k. let e : r.0 + n + 1 + k ≡ r.0 + (n + suc k) = omega arith in ap f e ∙ r.1 (n + suc k) ∙ s k)

pub reaches_on : (f g h : ℕ → Ran Flow) → Reaches f g → Reaches g h → Reaches f h
reaches_on f g h r s = (r.0 + s.0, λ k. let e : r.0 + s.0 + k ≡ r.0 + (s.0 + k) = omega arith in ap f e ∙ r.1 (s.0 + k) ∙ s.1 k)

-- where the instructions stop, the run does
pub stops_there : (n : ℕ) (q : Request) (functions : List ℕ) (code : List Instruction) (ops : List Op)
    (more : List Datum) (m : Run) (f g : ℕ → Ran Flow) (e : Stopped) → Reaches f g
    → ((k : ℕ) → Comes (exec q functions code k) ops more (Err e) m (g (n + suc k))) → Stands q functions code ops more (Err e) m f
stops_there n q functions code ops more m f g Memory r s = tt
stops_there n q functions code ops more m f g (Wants op) r s = more_done n f g _ r s
stops_there n q functions code ops more m f g (Fault j) r s = more_done n f g _ r s

-- ---- the instructions that are next

module _ (q : Request) (functions : List ℕ) (code : List Instruction) (k : ℕ) (fs : List Frame) (pc : ℕ) (stack slots : List Datum) (p : Progress) where
  pub none_next : length code ≤ pc → exec q functions code (0 + suc k) fs pc stack slots p ≡ stops (fault lacking) p
  none_next h =
      let e : 0 + suc k ≡ suc k = omega arith in
      rw e (ap (λ o. step q functions o (exec q functions code k) fs pc stack slots p) (slice_get_past code pc h))

  pub one_next : (i : Instruction) → slice_get code pc ≡ Some i
      → exec q functions code (0 + suc k) fs pc stack slots p
      ≡ step q functions (Some i) (exec q functions code k) fs pc stack slots p
  one_next i here =
      let e : 0 + suc k ≡ suc k = omega arith in
      rw e (ap (λ o. step q functions o (exec q functions code k) fs pc stack slots p) here)

  -- an operator and the assignment of its value
  pub update_next : (op : BinaryOperator) (slot : ℕ) → slice_get code pc ≡ Some (Binary op) → slice_get code (pc + 1) ≡ Some (Assign slot)
      → exec q functions code (1 + suc k) fs pc stack slots p
      ≡ step q functions (Some (Binary op)) (step q functions (Some (Assign slot))
      (exec q functions code k)) fs pc stack slots p
  update_next op slot first second =
      let e : 1 + suc k ≡ suc (suc k) = omega arith in
      rw e (ap (λ o. step q functions o (exec q functions code (suc k)) fs pc stack slots p) first
      ∙ ap (λ o. step q functions (Some (Binary op))
      (step q functions o (exec q functions code k)) fs pc stack slots p) second)

  -- a literal and the operator whose right operand it is
  pub push_next : (d : Datum) (op : BinaryOperator) → slice_get code pc ≡ Some (Push d) → slice_get code (pc + 1) ≡ Some (Binary op)
      → exec q functions code (1 + suc k) fs pc stack slots p
      ≡ step q functions (Some (Push d)) (step q functions (Some (Binary op))
      (exec q functions code k)) fs pc stack slots p
  push_next d op first second =
      let e : 1 + suc k ≡ suc (suc k) = omega arith in
      rw e (ap (λ o. step q functions o (exec q functions code (suc k)) fs pc stack slots p) first
      ∙ ap (λ o. step q functions (Some (Push d))
      (step q functions o (exec q functions code k)) fs pc stack slots p) second)

  -- the same with the value of a slot
  pub load_next : (slot : ℕ) (op : BinaryOperator) → slice_get code pc ≡ Some (Load slot) → slice_get code (pc + 1) ≡ Some (Binary op)
      → exec q functions code (1 + suc k) fs pc stack slots p
      ≡ step q functions (Some (Load slot)) (step q functions (Some (Binary op))
      (exec q functions code k)) fs pc stack slots p
  load_next slot op first second =
      let e : 1 + suc k ≡ suc (suc k) = omega arith in
      rw e (ap (λ o. step q functions o (exec q functions code (suc k)) fs pc stack slots p) first
      ∙ ap (λ o. step q functions (Some (Load slot))
      (step q functions o (exec q functions code k)) fs pc stack slots p) second)
