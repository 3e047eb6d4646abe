-- Each instruction is steady where what comes next is.
use Rattle.std.proofs.Common.{◌+◌, ◌-◌, ◌++◌, ℕ, zero, suc, true, false, if◌then◌else◌, List, [], ◌∷◌, length, take, drop, Option, Some, None, Result}
use Rattle.std.proofs.Common.{Ok, Err}
use Rattle.std.specs.Prelude.{◌==◌, slice_get, slice_index_or, slice_set}
use Rattle.script_tree.specs.Datum as v
use Rattle.script_tree.specs.Datum.{Datum}
use Rattle.script_tree.specs.Requests.{Request}
use Rattle.script_tree.specs.declared.fault.ScriptFault.{ScriptFault}
use Rattle.script_tree.specs.declared.fault.ScriptFault.TheVariants.{WrongKind, TooDeep}
use Rattle.script_tree.specs.declared.limits.TheConstants.{MOST_CALL_DEPTH}
use Rattle.script_meaning.specs.BuiltinCalls.{built_in}
use Rattle.script_meaning.specs.Evaluate.{Flow, on, node, seen, call_node, print_value, set_status, issue_unless_fault}
use Rattle.script_meaning.specs.Kinds.{list_in}
use Rattle.script_meaning.specs.Operands.{transact_op, status_in}
use Rattle.script_meaning.specs.Operators.{listed, indexed, unary_answer, binary_answer}
use Rattle.script_meaning.specs.Run.{Run, taking, fails, unless_fault, charge, charge_for, decide, ◌>>=◌, ◌>>◌}
use Rattle.script_code.specs.CodeRun.{Frame, Next, lacking, on_one, on_two, topmost, all_taken, all_filled, back_to, enter, turn, step, exec}
use Rattle.script_code.specs.declared.instruction.Instruction.{Instruction}
use Rattle.script_code.specs.declared.instruction.Instruction.TheVariants.{Push, Load, Unary, Binary, Index, List as Listed, CallBuiltin, CallStore}
use Rattle.script_code.specs.declared.instruction.Instruction.TheVariants.{Call, CallUnknown, Transact, And, Or, Branch, Again, Jump, Each, Turn}
use Rattle.script_code.specs.declared.instruction.Instruction.TheVariants.{Leave, Declare, Assign, Echo, Status, Discard, Return, End, Halt}
use Rattle.group_laws.specs.Steady.{IsSteady, IsSteadyNext, CodeIsSteady}
use Rattle.group_laws.proofs.Growth.{Grows, Spends, then_grows, fails_grows, unless_grows, one_grows, spends_steady, then_spends}
use Rattle.group_laws.proofs.Growth.{charge_spends, charged_spends, node_spends, decide_spends, operation_grows, call_spends, print_grows}
use Rattle.group_laws.proofs.Growth.{set_status_grows}
use Rattle.group_laws.proofs.Onward.{lacks, ends, returning}

first_of : (st : List Datum) (k : Datum → List Datum → Run Flow) → ((x : Datum) (rest : List Datum) → IsSteady (k x rest)) → IsSteady (on_one st k)
first_of [] k h = lacks
first_of (x ∷ st) k h = h x st

two_of : (st : List Datum) (k : Datum → Datum → List Datum → Run Flow)
    → ((x y : Datum) (rest : List Datum) → IsSteady (k x y rest)) → IsSteady (on_two st k)
two_of [] k h = lacks
two_of (y ∷ []) k h = lacks
two_of (y ∷ x ∷ st) k h = h x y st

module _ (q : Request) (functions : List ℕ) (next : Next) (steady : IsSteadyNext next) where
  grows : (fs : List Frame) (pc : ℕ) (st vs : List Datum) → Grows (next fs pc st vs)
  grows fs pc st vs = (steady fs pc st vs).further

  enters : (fs : List Frame) (at : Option ℕ) (frame : Frame) (ds : List Datum) → Grows (enter next fs at frame ds)
  enters fs None frame ds = fails_grows Flow lacking
  enters fs (Some place) frame ds =
      one_grows (length fs == MOST_CALL_DEPTH) (fails TooDeep) (next (frame ∷ fs) place [] ds)
      (fails_grows Flow TooDeep) (grows (frame ∷ fs) place [] ds)

  turns : (fs : List Frame) (out back : ℕ) (whole : Datum) (st vs : List Datum) (left : Result (List Datum) ScriptFault)
      → IsSteady (turn next fs out back whole st vs left)
  turns fs out back whole st vs (Ok []) = spends_steady _ (then_spends _ _ (decide_spends whole (v.bool false)) (λ _. grows fs out st vs))
  turns fs out back whole st vs (Ok (d ∷ ds)) = spends_steady _ (then_spends _ _ (decide_spends whole (v.bool true)) (λ _. grows fs back _ _))
  turns fs out back whole st vs (Err f) = spends_steady _ (charged_spends _ (fails f) (fails_grows Flow f))

  -- a part that begins with a step, and what is next
  part : {A : Type 0} (m : Run A) (k : A → Run Flow) → Spends m → ((a : A) → Grows (k a)) → IsSteady (m >>= k)
  part m k h g = spends_steady (m >>= k) (then_spends m k h g)

  -- it puts its value on what is left of the stack
  puts : (m : Run Datum) (fs : List Frame) (pc : ℕ) (rest vs : List Datum) → Spends m → IsSteady (m >>= λ d. next fs (pc + 1) (d ∷ rest) vs)
  puts m fs pc rest vs h = part m (λ d. next fs (pc + 1) (d ∷ rest) vs) h (λ d. grows fs (pc + 1) (d ∷ rest) vs)

  -- it decides
  decides : (x : Datum) (fs : List Frame) (a c : ℕ) (st rest vs ws : List Datum)
      → IsSteady (decide x >>= λ b. if b then next fs a st vs else next fs c rest ws)
  decides x fs a c st rest vs ws =
      part (decide x) (λ b. if b then next fs a st vs else next fs c rest ws) (decide_spends x x)
      (λ b. one_grows b (next fs a st vs) (next fs c rest ws) (grows fs a st vs) (grows fs c rest ws))

  -- it gives nothing
  goes_to : {A : Type 0} (m : Run A) (fs : List Frame) (pc : ℕ) (st vs : List Datum) → Spends m → IsSteady (m >> next fs pc st vs)
  goes_to m fs pc st vs h = part m (λ _. next fs pc st vs) h (λ _. grows fs pc st vs)

  pub steps : (i : Option Instruction) (fs : List Frame) (pc : ℕ) (st vs : List Datum) → IsSteady (step q functions i next fs pc st vs)
  steps None fs pc st vs = lacks
  steps (Some (Push d)) fs pc st vs = puts (node [] (Ok d)) fs pc st vs (node_spends [] (Ok d))
  steps (Some (Load i)) fs pc st vs = let d = slice_index_or vs i v.null in puts (seen d) fs pc st vs (node_spends (d ∷ []) (Ok d))
  steps (Some (Unary op)) fs pc st vs = first_of st _ (λ x rest. puts _ fs pc rest vs (node_spends (x ∷ []) (unary_answer op x)))
  steps (Some (Binary op)) fs pc st vs = two_of st _ (λ x y rest. puts _ fs pc rest vs (node_spends (x ∷ y ∷ []) (binary_answer op x y)))
  steps (Some Index) fs pc st vs = two_of st _ (λ x y rest. puts _ fs pc rest vs (node_spends (x ∷ y ∷ []) (indexed x y)))
  steps (Some (Listed n)) fs pc st vs = let ds = topmost n st [] in puts (node ds (listed ds)) fs pc (drop n st) vs (node_spends ds (listed ds))
  steps (Some (CallBuiltin b n)) fs pc st vs =
      let ds = topmost n st [] in
      let c = built_in q [] b ds in
      puts (call_node q ds c) fs pc (drop n st) vs (call_spends q ds c)
  steps (Some (CallStore b store n)) fs pc st vs =
      let ds = topmost n st [] in
      let c = built_in q store b ds in
      puts (call_node q ds c) fs pc (drop n st) vs (call_spends q ds c)
  steps (Some (Call f n)) fs pc st vs =
      let ds = topmost n st [] in
      let frame : Frame = record { place = pc + 1; stack = drop n st; slots = vs } in
      part (charge (taking ds)) (λ _. enter next fs (slice_get functions f) frame ds) (charge_spends (taking ds))
      (λ _. enters fs (slice_get functions f) frame ds)
  steps (Some (CallUnknown n)) fs pc st vs =
      let c = taking (topmost n st []) in
      part (charge c) (λ _. fails WrongKind) (charge_spends c) (λ _. fails_grows Flow WrongKind)
  steps (Some (Transact shapes)) fs pc st vs =
      let ds = topmost (all_taken shapes) st [] in
      let op = transact_op (all_filled shapes ds) in
      puts (charge (taking ds) >> issue_unless_fault op) fs pc (drop (all_taken shapes) st) vs
      (charged_spends (taking ds) (issue_unless_fault op) (operation_grows op))
  steps (Some (And n)) fs pc st vs = first_of st _ (λ x rest. decides x fs (pc + 1) (pc + 1 + n) rest st vs vs)
  steps (Some (Or n)) fs pc st vs = first_of st _ (λ x rest. decides x fs (pc + 1 + n) (pc + 1) st rest vs vs)
  steps (Some (Branch n)) fs pc st vs = first_of st _ (λ x rest. decides x fs (pc + 1) (pc + 1 + n) rest rest vs vs)
  steps (Some (Again n)) fs pc st vs = first_of st _ (λ x rest. decides x fs (pc - n) (pc + 1) rest rest vs vs)
  steps (Some (Jump n)) fs pc st vs = steady fs (pc + 1 + n) st vs
  steps (Some (Each n)) fs pc st vs = first_of st _ (λ x rest. steady fs (pc + 1 + n) (x ∷ st) vs)
  steps (Some (Turn n)) fs pc st vs = two_of st _ (λ whole left rest. turns fs (pc + 1) (pc - n) whole rest vs (list_in left))
  steps (Some (Leave n)) fs pc st vs = steady fs (pc + 1) st (take n vs)
  steps (Some Declare) fs pc st vs = first_of st _ (λ x rest. goes_to (charge_for x) fs (pc + 1) rest (vs ++ x ∷ []) (charge_spends (taking (x ∷ []))))
  steps (Some (Assign i)) fs pc st vs = first_of st _ (λ x rest.
      goes_to (charge_for x) fs (pc + 1) rest (slice_set vs i x) (charge_spends (taking (x ∷ []))))
  steps (Some Echo) fs pc st vs = first_of st _ (λ x rest. goes_to (charge_for x >> print_value x) fs (pc + 1) rest vs
      (charged_spends (taking (x ∷ [])) (print_value x) (print_grows x)))
  steps (Some Status) fs pc st vs = first_of st _ (λ x rest.
      let m = unless_fault (status_in x) >>= set_status in
      goes_to (charge_for x >> m) fs (pc + 1) rest vs (charged_spends (taking (x ∷ [])) m
      (then_grows (unless_fault (status_in x)) set_status (unless_grows (status_in x)) set_status_grows)))
  steps (Some Discard) fs pc st vs = first_of st _ (λ x rest. goes_to (charge_for x) fs (pc + 1) rest vs (charge_spends (taking (x ∷ []))))
  steps (Some Return) fs pc st vs = first_of st _ (λ x rest.
      part (charge_for x) (λ _. back_to next fs x) (charge_spends (taking (x ∷ []))) (λ _. (returning next steady fs x).further))
  steps (Some End) fs pc st vs = returning next steady fs v.null
  steps (Some Halt) fs pc st vs = ends (on [])

pub code_is_steady : CodeIsSteady
code_is_steady q functions code zero fs pc st vs = lacks
code_is_steady q functions code (suc n) fs pc st vs =
    steps q functions (exec q functions code n) (code_is_steady q functions code n) (slice_get code pc) fs pc st vs
