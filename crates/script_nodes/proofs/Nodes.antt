-- What the code's instructions do is what their nodes do.
use Rattle.std.proofs.Common.{◌≡◌, ◌+◌, [], ◌∷◌, Ok, Err, drop, refl}
use Rattle.script_tree.specs.Datum.{Datum}
use Rattle.script_meaning.specs.BuiltinCalls.{Call, plain, of_request, operation, built_in}
use Rattle.script_meaning.specs.Evaluate.{Flow, call_cost, call_made, issue_unless_fault}
use Rattle.script_meaning.specs.Operands.{OpAnswer, transact_op}
use Rattle.script_meaning.specs.Operators.{Answer, listed, indexed, unary_answer, binary_answer}
use Rattle.script_meaning.specs.Run.{Cost, taking, Run, ◌>>=◌, ◌>>◌, unless_fault, charge}
use Rattle.script_code.specs.CodeRun.{on_one, on_two, topmost, all_taken, all_filled}
use Rattle.script_values.specs.CallsMade.{value_made, operation_made, made}
use Rattle.script_nodes.specs.Evaluated.{gone_on}
use Rattle.std.proofs.Common.{◌≤◌, ◌<◌, ◌-◌, ◌++◌, ℕ, zero, suc, Bool, true, false, cond, List, Result, length, inl, inr, sym, ap, ◌∙◌, arith}
use Rattle.std.specs.Prelude.{get_or, nat_lt, slice_get, slice_set, pos}
use Rattle.std.proofs.lemmas.Bool.{cases_lt}
use Rattle.std.proofs.lemmas.Bool.Decides.{nat_tests}
use Rattle.std.proofs.lemmas.List.{drop_all}
use Rattle.script_tree.specs.Datum.{null, bool, number, text, list, members, data_of, members-data_of}
use Rattle.script_tree.specs.Requests.{Request}
use Rattle.script_tree.specs.declared.fault.ScriptFault.{ScriptFault}
use Rattle.script_tree.specs.declared.fault.ScriptFault.TheVariants.{WrongKind}
use Rattle.script_meaning.specs.Evaluate.{on, print, print_value, set_status}
use Rattle.script_meaning.specs.Kinds.{bool_in, list_in}
use Rattle.script_meaning.specs.Operands.{status_in}
use Rattle.script_meaning.specs.Operators.{printed}
use Rattle.script_meaning.specs.Results as results
use Rattle.script_meaning.specs.Run.{Ran, goes, stops, after, give, fails, note, charge_for, decide, decide_by}
use Rattle.script_meaning.specs.declared.run.Mark.TheVariants.{Decided as decided}
use Rattle.script_code.specs.CodeRun.{Frame, Next, back_to, enter, turn}
use Rattle.script_nodes.specs.NodeLaws.{one_node, noted, print_text, set_status_to, without, member_at}
use Rattle.script_nodes.specs.declared.primitive.Primitive.TheVariants as node
use Rattle.script_nodes.specs.NodeLaws.{MeansNodes}

on_value : (a : Answer) → unless_fault a ≡ gone_on (value_made a)
on_value (Ok d) = refl
on_value (Err f) = refl

on_operation : (a : OpAnswer) → issue_unless_fault a ≡ gone_on (operation_made a)
on_operation (Ok op) = refl
on_operation (Err f) = refl

on_call : (c : Call) → call_made c ≡ gone_on (made c)
on_call (plain a) = on_value a
on_call (of_request a) = on_value a
on_call (operation a) = on_operation a

-- a node whose step is spent so, and what is next
module _ (cost : Cost) (next : Datum → Run Flow) where
  of_value : (a : Answer) → (charge cost >> unless_fault a >>= next) ≡ (charge cost >> gone_on (value_made a) >>= next)
  of_value a = λ i. charge cost >> on_value a i >>= next

  of_operation : (a : OpAnswer) → (charge cost >> issue_unless_fault a >>= next) ≡ (charge cost >> gone_on (operation_made a) >>= next)
  of_operation a = λ i. charge cost >> on_operation a i >>= next

  of_call : (c : Call) → (charge cost >> call_made c >>= next) ≡ (charge cost >> gone_on (made c) >>= next)
  of_call c = λ i. charge cost >> on_call c i >>= next

-- ---- a node of one operand

module _ {B : Type 0} (q : Request) (x : Datum) where
  passed : (o : Ran (Unit {0})) (f : Datum → Run B) → after o (λ _. f x) ≡ after (after o (λ _. give x)) f
  passed (goes u p) f = refl
  passed (stops e p) f = refl

  pub passes : (f : Datum → Run B) → (charge (taking (x ∷ [])) >> f x) ≡ (one_node q node.Pass x >>= f)
  passes f = λ i p. passed (charge (taking (x ∷ [])) p) f i

  decided_so : (o : Ran (Unit {0})) (r : Result Bool ScriptFault) (f : Bool → Run B)
      → after (after o (λ _. unless_fault r >>= λ b. note (decided b) >>= λ _. give b)) f
      ≡ after (after (after o (λ _. gone_on (value_made (results.◌>>=◌ r (λ b. Ok (bool b)))))) noted) f
  decided_so (goes u p) (Ok b) f = refl
  decided_so (goes u p) (Err e) f = refl
  decided_so (stops e p) r f = refl

  pub decides : (f : Bool → Run B) → (decide x >>= f) ≡ (one_node q node.Decide x >>= noted >>= f)
  decides f = λ i p. decided_so (charge (taking (x ∷ [])) p) (bool_in x) f i

  echoed : (o : Ran (Unit {0})) (r : Result (List ℕ) ScriptFault) (n : Run B)
      → after (after o (λ _. unless_fault r >>= print)) (λ _. n)
      ≡ after (after (after o (λ _. gone_on (value_made (results.◌>>=◌ r (λ bytes. Ok (text bytes)))))) print_text)
      (λ _. n)
  echoed (goes u p) (Ok bytes) n = refl
  echoed (goes u p) (Err e) n = refl
  echoed (stops e p) r n = refl

  pub echoes : (n : Run B) → ((charge_for x >> print_value x) >> n) ≡ ((one_node q node.Echo x >>= print_text) >> n)
  echoes n = λ i p. echoed (charge (taking (x ∷ [])) p) (printed x) n i

  status_set : (o : Ran (Unit {0})) (r : Result ℕ ScriptFault) (n : Run B)
      → after (after o (λ _. unless_fault r >>= set_status)) (λ _. n)
      ≡ after (after (after o (λ _. gone_on (value_made (results.◌>>=◌ r (λ k. Ok (number (pos k))))))) set_status_to)
      (λ _. n)
  status_set (goes u p) (Ok k) n = refl
  status_set (goes u p) (Err e) n = refl
  status_set (stops e p) r n = refl

  pub sets_status : (n : Run B) → ((charge_for x >> (unless_fault (status_in x) >>= set_status)) >> n) ≡ ((one_node q node.Status x >>= set_status_to) >> n)
  sets_status n = λ i p. status_set (charge (taking (x ∷ [])) p) (status_in x) n i

-- a call
called_so : {B : Type 0} (o : Ran (Unit {0})) (x : Datum) (n : Run B) → after o (λ _. n) ≡ after (after o (λ _. give x)) (λ _. n)
called_so (goes u p) x n = refl
called_so (stops e p) x n = refl

fails_so : {A B : Type 0} (o : Ran (Unit {0})) (f : ScriptFault) (n : A → Run B) → after o (λ _. fails f) ≡ after (after o (λ _. fails f)) n
fails_so (goes u p) f n = refl
fails_so (stops e p) f n = refl

-- ---- a turn of a loop over what is left of a list

step_drop : (ms : List Datum) (k : ℕ) → k < length ms → drop k ms ≡ get_or ms k null ∷ drop (suc k) ms
step_drop [] k h = absurd (omega (arith, h))
step_drop (m ∷ ms) zero h = refl
step_drop (m ∷ ms) (suc k) h = step_drop ms k (omega (arith, h))

is_less : (k n : ℕ) → k < n → nat_lt k n ≡ true
is_less k n h = grind (arith, nat_tests, h)

is_no_less : (k n : ℕ) → n ≤ k → nat_lt k n ≡ false
is_no_less k n h = grind (arith, nat_tests, h)

module _ (q : Request) (next : Next) (fs : List Frame) (out back' : ℕ) (st vs : List Datum) (whole : Datum) where
  -- where it is told whether a member is left, and which, and the others
  abbrev told : Bool → Datum → List Datum → Run Flow
  told b d es = decide_by whole (bool b) >>= λ c. cond c (next fs back' (list (data_of es) ∷ whole ∷ st) (vs ++ d ∷ [])) (next fs out st vs)

  over : (o : Ran (Unit {0})) (d : Datum) (es : List Datum)
      → after (after o (λ _. unless_fault (Ok false) >>= λ b. note (decided b) >>= λ _. give b)) (λ _. next fs out st vs)
      ≡ after (after o (λ _. unless_fault (Ok false) >>= λ b. note (decided b) >>= λ _. give b))
      (λ c. cond c (next fs back' (list (data_of es) ∷ whole ∷ st) (vs ++ d ∷ [])) (next fs out st vs))
  over (goes u p) d es = refl
  over (stops e p) d es = refl

  more_left : (o : Ran (Unit {0})) (d : Datum) (es : List Datum)
      → after (after o (λ _. unless_fault (Ok true) >>= λ b. note (decided b) >>= λ _. give b))
      (λ _. next fs back' (list (data_of es) ∷ whole ∷ st) (vs ++ d ∷ []))
      ≡ after (after o (λ _. unless_fault (Ok true) >>= λ b. note (decided b) >>= λ _. give b))
      (λ c. cond c (next fs back' (list (data_of es) ∷ whole ∷ st) (vs ++ d ∷ [])) (next fs out st vs))
  more_left (goes u p) d es = refl
  more_left (stops e p) d es = refl

  turn_list : (ms : List Datum) (k : ℕ) → turn next fs out back' whole st vs (Ok (drop k ms)) ≡ told (nat_lt k (length ms)) (get_or ms k null) (drop (k + 1) ms)
  turn_list ms k = elim (cases_lt k (length ms)) [
    | inl less ↦
        let e : suc k ≡ k + 1 = omega arith in
        ap (λ xs. turn next fs out back' whole st vs (Ok xs)) (step_drop ms k less)
        ∙ (λ i p. more_left (charge_for whole p) (get_or ms k null) (drop (suc k) ms) i)
        ∙ (λ i. told (sym (is_less k (length ms) less) i) (get_or ms k null) (drop (e i) ms))
    | inr most ↦
        ap (λ xs. turn next fs out back' whole st vs (Ok xs)) (drop_all k ms most)
        ∙ (λ i p. over (charge_for whole p) (get_or ms k null) (drop (k + 1) ms) i)
        ∙ (λ i. told (sym (is_no_less k (length ms) most) i) (get_or ms k null) (drop (k + 1) ms))
  ]

  by_node : (o : Ran (Unit {0})) (b : Bool) (f : Bool → Run Flow)
      → after (after o (λ _. unless_fault (Ok b) >>= λ c. note (decided c) >>= λ _. give c)) f ≡ after (after (after o (λ _. give (bool b))) noted) f
  by_node (goes u p) b f = refl
  by_node (stops e p) b f = refl

  by_fault : (o : Ran (Unit {0})) (x : ScriptFault) (f : Bool → Run Flow) → after o (λ _. fails x) ≡ after (after (after o (λ _. fails x)) noted) f
  by_fault (goes u p) x f = refl
  by_fault (stops e p) x f = refl

turns_so : (k : ℕ) (whole : Datum) (n : ℕ) (q : Request) (next : Next) (fs : List Frame) (out back' : ℕ) (st vs : List Datum)
    → turn next fs out back' whole st vs (list_in (without k whole))
    ≡ (one_node q (node.Member k) whole >>= noted
    >>= λ b. cond b (next fs back' (without (k + 1) whole ∷ whole ∷ st) (vs ++ member_at k whole ∷ []))
    (next fs out st vs))
turns_so k (list ds) n q next fs out back' st vs =
    let ms = members ds in
    ap (λ xs. turn next fs out back' (list ds) st vs (Ok xs)) (members-data_of (drop k ms))
    ∙ turn_list q next fs out back' st vs (list ds) ms k
    ∙ (λ i p. by_node q next fs out back' st vs (list ds) (charge_for (list ds) p) (nat_lt k (length ms))
    (λ b. cond b (next fs back' (list (data_of (drop (k + 1) ms)) ∷ list ds ∷ st) (vs ++ get_or ms k null ∷ []))
    (next fs out st vs)) i)
turns_so k null n q next fs out back' st vs =
    λ i p. by_fault q next fs out back' st vs null (charge_for null p) WrongKind
    (λ b. cond b (next fs back' (null ∷ null ∷ st) (vs ++ null ∷ [])) (next fs out st vs)) i
turns_so k (bool c) n q next fs out back' st vs =
    λ i p. by_fault q next fs out back' st vs (bool c) (charge_for (bool c) p) WrongKind
    (λ b. cond b (next fs back' (bool c ∷ bool c ∷ st) (vs ++ null ∷ [])) (next fs out st vs)) i
turns_so k (number c) n q next fs out back' st vs =
    λ i p. by_fault q next fs out back' st vs (number c) (charge_for (number c) p) WrongKind
    (λ b. cond b (next fs back' (number c ∷ number c ∷ st) (vs ++ null ∷ [])) (next fs out st vs)) i
turns_so k (text c) n q next fs out back' st vs =
    λ i p. by_fault q next fs out back' st vs (text c) (charge_for (text c) p) WrongKind
    (λ b. cond b (next fs back' (text c ∷ text c ∷ st) (vs ++ null ∷ [])) (next fs out st vs)) i

pub means_nodes : MeansNodes
means_nodes = record {
  push = λ value q functions next fs pc st vs. refl;
  load = λ j q functions next fs pc st vs. refl;
  unary = λ op q functions next fs pc st vs i. on_one st (λ x rest. of_value (taking (x ∷ [])) (λ d. next fs (pc + 1) (d ∷ rest) vs) (unary_answer op x) i);
  binary = λ op q functions next fs pc st vs i. on_two st
      (λ x y rest. of_value (taking (x ∷ y ∷ [])) (λ d. next fs (pc + 1) (d ∷ rest) vs) (binary_answer op x y) i);
  index = λ q functions next fs pc st vs i. on_two st (λ x y rest. of_value (taking (x ∷ y ∷ [])) (λ d. next fs (pc + 1) (d ∷ rest) vs) (indexed x y) i);
  list = λ n q functions next fs pc st vs.
      let ds = topmost n st [] in
      of_value (taking ds) (λ d. next fs (pc + 1) (d ∷ drop n st) vs) (listed ds);
  call_builtin = λ b n q functions next fs pc st vs.
      let c = built_in q [] b (topmost n st []) in
      of_call (call_cost q (topmost n st []) c) (λ d. next fs (pc + 1) (d ∷ drop n st) vs) c;
  call_store = λ b store n q functions next fs pc st vs.
      let c = built_in q store.now b (topmost n st []) in
      of_call (call_cost q (topmost n st []) c) (λ d. next fs (pc + 1) (d ∷ drop n st) vs) c;
  transact = λ shapes q functions next fs pc st vs.
      let ds = topmost (all_taken shapes.now) st [] in
      of_operation (taking ds) (λ d. next fs (pc + 1) (d ∷ drop (all_taken shapes.now) st) vs) (transact_op (all_filled shapes.now ds));
  declare = λ q functions next fs pc st vs i. on_one st (λ x rest. passes q x (λ d. next fs (pc + 1) rest (vs ++ d ∷ [])) i);
  assign = λ j q functions next fs pc st vs i. on_one st (λ x rest. passes q x (λ d. next fs (pc + 1) rest (slice_set vs j d)) i);
  discard = λ q functions next fs pc st vs i. on_one st (λ x rest. passes q x (λ d. next fs (pc + 1) rest vs) i);
  return = λ q functions next fs pc st vs i. on_one st (λ x rest. passes q x (λ d. back_to next fs d) i);
  echo = λ q functions next fs pc st vs i. on_one st (λ x rest. echoes q x (next fs (pc + 1) rest vs) i);
  status = λ q functions next fs pc st vs i. on_one st (λ x rest. sets_status q x (next fs (pc + 1) rest vs) i);
  call = λ f n q functions next fs pc st vs.
      let ds = topmost n st [] in
      λ i p. called_so (charge (taking ds) p) null (enter next fs (slice_get functions f) (record { place = pc + 1; stack = drop n st; slots = vs }) ds) i;
  call_unknown = λ n q functions next fs pc st vs.
      let ds = topmost n st [] in
      λ i p. fails_so {A = Datum} (charge (taking ds) p) WrongKind (λ d. give (on [])) i;
  and_ = λ n q functions next fs pc st vs i. on_one st (λ x rest. decides q x (λ b. cond b (next fs (pc + 1) rest vs) (next fs (pc + 1 + n) st vs)) i);
  or_ = λ n q functions next fs pc st vs i. on_one st (λ x rest. decides q x (λ b. cond b (next fs (pc + 1 + n) st vs) (next fs (pc + 1) rest vs)) i);
  branch = λ n q functions next fs pc st vs i. on_one st (λ x rest. decides q x (λ b. cond b (next fs (pc + 1) rest vs) (next fs (pc + 1 + n) rest vs)) i);
  again = λ n q functions next fs pc st vs i. on_one st (λ x rest. decides q x (λ b. cond b (next fs (pc - n) rest vs) (next fs (pc + 1) rest vs)) i);
  turn = λ k whole n q functions next fs pc st vs. turns_so k whole n q next fs (pc + 1) (pc - n) st vs;
}
