-- What the machine does with instructions. It spends, decides and issues as the definition of a run has it.
use Rattle.std.specs.Prelude.{ℕ, zero, suc, ◌+◌, ◌-◌, ◌==◌, true, false, if◌then◌else◌, List, [], ◌∷◌, ◌++◌, length, take, drop, Option, Some, None, Result, Ok, Err, slice_get, slice_set, slice_index_or}
use Rattle.script_tree.specs.Datum as v
use Rattle.script_tree.specs.Datum.{Datum, data_of}
use Rattle.script_tree.specs.Requests.{Request}
use Rattle.script_tree.specs.declared.fault.ScriptFault.{ScriptFault}
use Rattle.script_tree.specs.declared.fault.ScriptFault.TheVariants.{WrongKind, TooDeep, OutOfSteps}
use Rattle.script_tree.specs.declared.limits.TheConstants.{MOST_CALL_DEPTH}
use Rattle.script_meaning.specs.Operations as o
use Rattle.script_meaning.specs.BuiltinCalls.{built_in}
use Rattle.script_meaning.specs.Evaluate.{Flow, on, node, seen, call_node, issue_unless_fault, print_value, set_status}
use Rattle.script_meaning.specs.Kinds.{list_in}
use Rattle.script_meaning.specs.Operands as u
use Rattle.script_meaning.specs.Operands.{Unchecked, first, transact_op, status_in}
use Rattle.script_meaning.specs.Operators.{listed, indexed, unary_answer, binary_answer}
use Rattle.script_meaning.specs.Run.{taking, Run, ◌>>=◌, ◌>>◌, give, fails, unless_fault, charge, charge_for, decide, decide_by}
use Rattle.script_code.specs.Code.{Instructions}
use Rattle.script_code.specs.declared.instruction.Instruction.{Instruction}
use Rattle.script_code.specs.declared.instruction.Instruction.TheVariants.{Push, Load, Unary, Binary, Index, List as Listed, CallBuiltin, CallStore, Call, CallUnknown, Transact, And, Or, Branch, Again, Jump, Each, Turn, Leave, Declare, Assign, Echo, Status, Discard, Return, End, Halt}
use Rattle.script_code.specs.declared.instruction.Shape.{Shape}
use Rattle.script_code.specs.declared.instruction.Shape.TheVariants as shape
use Rattle.script_code.specs.declared.instruction.TestShape.{TestShape}

-- where a call goes on when its function is over
pub record Frame : Type 0 where
  pub place : ℕ
  pub stack : List Datum
  pub slots : List Datum

-- what is done at a place, with these calls, this stack (the topmost value first), and these slots
abbrev pub Next : Type 0
Next = (frames : List Frame) → (place : ℕ) → (stack slots : List Datum) → Run Flow

-- ---- the stack; where it lacks values, which no code of a program comes to, the run fails

-- how a run fails where an instruction, a value on the stack or the place of a function is lacking: as no node does. The
-- code of a program never comes to that.
abbrev pub lacking : ScriptFault
lacking = OutOfSteps

-- with the topmost value and the stack without it
abbrev pub on_one : List Datum → (Datum → List Datum → Run Flow) → Run Flow
on_one [] go = fails lacking
on_one (x ∷ st) go = go x st

-- with the two topmost values, the topmost last, and the stack without them
abbrev pub on_two : List Datum → (Datum → Datum → List Datum → Run Flow) → Run Flow
on_two [] go = fails lacking
on_two (y ∷ []) go = fails lacking
on_two (y ∷ x ∷ st) go = go x y st

-- so many values, the topmost last, before these
abbrev pub topmost : ℕ → List Datum → List Datum → List Datum
topmost zero st ds = ds
topmost (suc n) [] ds = ds
topmost (suc n) (x ∷ st) ds = topmost n st (x ∷ ds)

-- ---- transactions: the statements of these shapes, with the values that they take in order

-- these tests with their values
abbrev pub tests_with : List TestShape → List Datum → List o.Test
tests_with [] ds = []
tests_with (t ∷ ts) [] = []
tests_with (t ∷ ts) (d ∷ ds) = record { column = t.column; comparison = t.comparison; value = d } ∷ tests_with ts ds

-- these columns with the values that they are set to
abbrev pub changes_with : List ℕ → List Datum → List o.Change
changes_with [] ds = []
changes_with (x ∷ xs) [] = []
changes_with (x ∷ xs) (d ∷ ds) = record { column = x; value = d } ∷ changes_with xs ds

-- how many values the statement takes
abbrev pub values_taken : Shape → ℕ
values_taken (shape.Insert t n) = n
values_taken (shape.Select t columns tests) = length tests
values_taken (shape.Update t changes tests) = length changes + length tests
values_taken (shape.Delete t tests) = length tests
values_taken (shape.Expect t tests) = suc (length tests)

-- the statement with its values
abbrev pub filled : Shape → List Datum → Unchecked
filled (shape.Insert t n) ds = u.insert t ds
filled (shape.Select t columns tests) ds = u.select t columns (tests_with tests ds)
filled (shape.Update t changes tests) ds = u.update t (changes_with changes ds) (tests_with tests (drop (length changes) ds))
filled (shape.Delete t tests) ds = u.delete t (tests_with tests ds)
filled (shape.Expect t tests) ds = u.expect (first ds) t (tests_with tests (drop 1 ds))

-- how many values the statements take
abbrev pub all_taken : List Shape → ℕ
all_taken [] = 0
all_taken (s ∷ ss) = values_taken s + all_taken ss

-- the statements with their values
abbrev pub all_filled : List Shape → List Datum → List Unchecked
all_filled [] ds = []
all_filled (s ∷ ss) ds = filled s (take (values_taken s) ds) ∷ all_filled ss (drop (values_taken s) ds)

-- ---- calls

-- back to where the call was; without one the page is over
abbrev pub back_to : Next → List Frame → Datum → Run Flow
back_to next [] d = give (on [])
back_to next (f ∷ fs) d = next fs f.place (d ∷ f.stack) f.slots

-- into the function that begins at a place
abbrev pub enter : Next → List Frame → Option ℕ → Frame → List Datum → Run Flow
enter next fs None frame ds = fails lacking
enter next fs (Some place) frame ds = if length fs == MOST_CALL_DEPTH then fails TooDeep else next (frame ∷ fs) place [] ds

-- ---- loops over a list

-- the next turn of one of which this is left
abbrev pub turn : Next → List Frame → (out back : ℕ) → (whole : Datum) → List Datum → List Datum → Result (List Datum) ScriptFault → Run Flow
turn next fs out back whole st vs (Ok []) = decide_by whole (v.bool false) >> next fs out st vs
turn next fs out back whole st vs (Ok (d ∷ ds)) = decide_by whole (v.bool true) >> next fs back (v.list (data_of ds) ∷ whole ∷ st) (vs ++ d ∷ [])
turn next fs out back whole st vs (Err f) = charge_for whole >> fails f

-- ---- instructions

module _ (request : Request) (functions : List ℕ) where
  -- one instruction, and what is next
  abbrev pub step : Option Instruction → Next → Next
  step None next fs pc st vs = fails lacking
  step (Some (Push d)) next fs pc st vs = node [] (Ok d) >>= λ x. next fs (pc + 1) (x ∷ st) vs
  step (Some (Load i)) next fs pc st vs = seen (slice_index_or vs i v.null) >>= λ x. next fs (pc + 1) (x ∷ st) vs
  step (Some (Unary op)) next fs pc st vs = on_one st (λ x rest. node (x ∷ []) (unary_answer op x) >>= λ d. next fs (pc + 1) (d ∷ rest) vs)
  step (Some (Binary op)) next fs pc st vs = on_two st (λ x y rest. node (x ∷ y ∷ []) (binary_answer op x y) >>= λ d. next fs (pc + 1) (d ∷ rest) vs)
  step (Some Index) next fs pc st vs = on_two st (λ x y rest. node (x ∷ y ∷ []) (indexed x y) >>= λ d. next fs (pc + 1) (d ∷ rest) vs)
  step (Some (Listed n)) next fs pc st vs =
      let ds = topmost n st [] in
      node ds (listed ds) >>= λ d. next fs (pc + 1) (d ∷ drop n st) vs
  step (Some (CallBuiltin b n)) next fs pc st vs =
      let ds = topmost n st [] in
      call_node request ds (built_in request [] b ds) >>= λ d. next fs (pc + 1) (d ∷ drop n st) vs
  step (Some (CallStore b store n)) next fs pc st vs =
      let ds = topmost n st [] in
      call_node request ds (built_in request store b ds) >>= λ d. next fs (pc + 1) (d ∷ drop n st) vs
  step (Some (Call f n)) next fs pc st vs =
      let ds = topmost n st [] in
      charge (taking ds) >> enter next fs (slice_get functions f) (record { place = pc + 1; stack = drop n st; slots = vs }) ds
  step (Some (CallUnknown n)) next fs pc st vs = charge (taking (topmost n st [])) >> fails WrongKind
  step (Some (Transact shapes)) next fs pc st vs =
      let ds = topmost (all_taken shapes) st [] in
      (charge (taking ds) >> issue_unless_fault (transact_op (all_filled shapes ds))) >>= λ d. next fs (pc + 1) (d ∷ drop (all_taken shapes) st) vs
  step (Some (And n)) next fs pc st vs = on_one st (λ x rest. decide x >>= λ b. if b then next fs (pc + 1) rest vs else next fs (pc + 1 + n) st vs)
  step (Some (Or n)) next fs pc st vs = on_one st (λ x rest. decide x >>= λ b. if b then next fs (pc + 1 + n) st vs else next fs (pc + 1) rest vs)
  step (Some (Branch n)) next fs pc st vs = on_one st (λ x rest. decide x >>= λ b. if b then next fs (pc + 1) rest vs else next fs (pc + 1 + n) rest vs)
  step (Some (Again n)) next fs pc st vs = on_one st (λ x rest. decide x >>= λ b. if b then next fs (pc - n) rest vs else next fs (pc + 1) rest vs)
  step (Some (Jump n)) next fs pc st vs = next fs (pc + 1 + n) st vs
  step (Some (Each n)) next fs pc st vs = on_one st (λ x rest. next fs (pc + 1 + n) (x ∷ st) vs)
  step (Some (Turn n)) next fs pc st vs = on_two st (λ whole left rest. turn next fs (pc + 1) (pc - n) whole rest vs (list_in left))
  step (Some (Leave n)) next fs pc st vs = next fs (pc + 1) st (take n vs)
  step (Some Declare) next fs pc st vs = on_one st (λ x rest. charge_for x >> next fs (pc + 1) rest (vs ++ x ∷ []))
  step (Some (Assign i)) next fs pc st vs = on_one st (λ x rest. charge_for x >> next fs (pc + 1) rest (slice_set vs i x))
  step (Some Echo) next fs pc st vs = on_one st (λ x rest. (charge_for x >> print_value x) >> next fs (pc + 1) rest vs)
  step (Some Status) next fs pc st vs = on_one st (λ x rest. (charge_for x >> (unless_fault (status_in x) >>= set_status)) >> next fs (pc + 1) rest vs)
  step (Some Discard) next fs pc st vs = on_one st (λ x rest. charge_for x >> next fs (pc + 1) rest vs)
  step (Some Return) next fs pc st vs = on_one st (λ x rest. charge_for x >> back_to next fs x)
  step (Some End) next fs pc st vs = back_to next fs v.null
  step (Some Halt) next fs pc st vs = give (on [])

  -- at most n instructions
  abbrev pub exec : Instructions → ℕ → Next
  exec code zero fs pc st vs = fails lacking
  exec code (suc n) fs pc st vs = step (slice_get code pc) (exec code n) fs pc st vs
