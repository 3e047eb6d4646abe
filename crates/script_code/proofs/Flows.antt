-- The code of a statement does what the statement does.
use Rattle.std.proofs.Common.{◌≡◌, ◌≤◌, ◌<◌, ◌+◌, ◌-◌, ℕ, Bool, true, false, if◌then◌else◌, List, [], ◌∷◌, ◌++◌, length, take, Some, Ok, Err, Result, refl, sym, ap, ◌∙◌, subst, arith, length-append}
use Rattle.std.proofs.Math.ListN.{set}
use Rattle.std.specs.Prelude.{slice_get}
use Rattle.script_tree.specs.Datum as v
use Rattle.script_tree.specs.Datum.{Datum, data_of, members-data_of}
use Rattle.script_tree.specs.declared.fault.ScriptFault.{ScriptFault}
use Rattle.script_tree.specs.declared.limits.TheConstants.{MOST_STEPS}
use Rattle.script_meaning.specs.Evaluate.{Setting, Flow, on, back, print_value, set_status, then_on, left_as, scoped, turns, turns_of}
use Rattle.script_meaning.specs.Kinds.{list_in}
use Rattle.script_meaning.specs.Operands.{status_in}
use Rattle.script_meaning.specs.Run.{taking, Run, Progress, Ran, goes, stops, after, ◌>>=◌, ◌>>◌, give, fails, unless_fault, charge_for, decide, decide_by}
use Rattle.script_meaning.specs.Variables.{Variables, declared, assigned}
use Rattle.script_code.specs.Code.{Instructions, Names, slot_of, choice_code, loop_code, each_code, scoped_code}
use Rattle.script_code.specs.CodeRun.{Frame, exec, step, back_to, turn}
use Rattle.script_code.specs.declared.instruction.Instruction.{Instruction}
use Rattle.script_code.specs.declared.instruction.Instruction.TheVariants.{Branch, Again, Jump, Each, Turn, Leave, Declare, Assign, Echo, Status, Discard, Return}
use Rattle.script_code.proofs.Spends.{Spends, spends_charge, spends_decide, spends_printing, spends_setting}
use Rattle.script_code.proofs.Leads.{Goal, Leads, leads_same, leads_on, Does, does_from, does_then, HasAt, has_front, has_back, Fine, lower, at, prim, move, same_place, after_after}
use Rattle.script_code.proofs.Slots.{values, names, names_length, names_take, values_take, names_declared, values_declared, names_assigned, values_assigned}
use Rattle.script_code.proofs.Nodes.{Puts, chosen_after}

pub after_same : {A B : Type 0} (o : Ran A) (f g : A → Run B) → ((a : A) (q : Progress) → f a q ≡ g a q) → after o f ≡ after o g
after_same (goes a q) f g h = h a q
after_same (stops e q) f g h = refl

-- nothing more changes nothing
pub then_nothing : (o : Ran Flow) → after o (λ flow. then_on flow (λ us. give (on us))) ≡ o
then_nothing (goes (on us) q) = refl
then_nothing (goes (back d) q) = refl
then_nothing (stops e q) = refl

abbrev pub FineFlow : Names → ℕ → Flow → Progress → Type 0
FineFlow ns low (on us) q = (names us ≡ ns) × Fine low q
FineFlow ns low (back d) q = Fine low q

module _ (w : Setting) (functions : List ℕ) (code : Instructions) (fs : List Frame) where
  abbrev pub At : ℕ → List Datum → Variables → Progress → Goal
  At pc st vs q = at w.request functions code fs pc st (values vs) q

  -- on to the next place; a value that is given back ends the function
  abbrev pub to : ℕ → List Datum → Flow → Progress → Goal
  to pc st (on us) q = At pc st us q
  to pc st (back d) q = λ k. back_to (exec w.request functions code k) fs d q

  -- the code puts what m gives for these variables
  abbrev pub PutsFor : ℕ → Names → Instructions → (Variables → Run Datum) → Type 0
  PutsFor n ns is m = (vs : Variables) → names vs ≡ ns → Puts w functions code fs n vs is (m vs)

  -- the code does what m does, where so many steps are left at most
  abbrev pub Runs : ℕ → Names → Names → Instructions → (Variables → Run Flow) → Type 0
  Runs n ns ns' is m = (vs : Variables) → names vs ≡ ns → (pc : ℕ) (st : List Datum) (p : Progress) → HasAt code pc is
      → p.steps ≤ MOST_STEPS → MOST_STEPS ≤ n + p.steps
      → Does (At pc st vs p) (FineFlow ns' p.steps) (to (pc + length is) st) (m vs p)

  pub runs_same : (n : ℕ) (ns ns' : Names) (is : Instructions) (m m' : Variables → Run Flow)
      → ((vs : Variables) (p : Progress) → m vs p ≡ m' vs p) → Runs n ns ns' is m → Runs n ns ns' is m'
  runs_same n ns ns' is m m' h r vs scope pc st p has most left =
      subst (λ o. Does (At pc st vs p) (FineFlow ns' p.steps) (to (pc + length is) st) o) (h vs p)
      (r vs scope pc st p has most left)

  pub flow_to : (ns : Names) (low low' pc pc' : ℕ) (st : List Datum) (here : Goal) (o : Ran Flow) → low' ≤ low
      → ((vs : Variables) (q : Progress) → Leads (At pc st vs q) (At pc' st vs q))
      → Does here (FineFlow ns low) (to pc st) o → Does here (FineFlow ns low') (to pc' st) o
  flow_to ns low low' pc pc' st here (goes (on us) q) le l d = ((d.0.0, lower low low' q le d.0.1), leads_on _ _ _ d.1 (l us q))
  flow_to ns low low' pc pc' st here (goes (back x) q) le l d = (lower low low' q le d.0, d.1)
  flow_to ns low low' pc pc' st here (stops e q) le l d = d

  pub same : (pc pc' : ℕ) (st : List Datum) → pc ≡ pc' → (vs : Variables) (q : Progress) → Leads (At pc st vs q) (At pc' st vs q)
  same pc pc' st e vs q = same_place w.request functions code fs pc pc' st (values vs) q e

  -- ---- statements that end with one instruction

  pub let_does : (n : ℕ) (ns : Names) (x : List ℕ) (ca : Instructions) (ma : Variables → Run Datum)
      → PutsFor n ns ca ma → Runs n ns (ns ++ x ∷ []) (ca ++ Declare ∷ [])
      (λ vs. ma vs >>= λ d. charge_for d >> give (on (declared vs x d)))
  let_does n ns x ca ma ra vs scope pc st p has most left =
      let end : pc + length ca + 1 ≡ pc + length (ca ++ Declare ∷ []) = omega (arith, length-append ca (Declare ∷ [])) in
      does_then _ _ _ _ _ (ma vs p) _ (ra vs scope pc st p (has_front code pc ca _ has) most left) (λ d q f.
      does_then _ _ _ _ _ (charge_for d q) _
      (prim w.request functions code fs (pc + length ca) (d ∷ st) (values vs) q 1 Declare
      (has_back code pc ca _ has).0 f.most (charge_for d) (spends_charge (taking (d ∷ [])))
      (λ _ r. at w.request functions code fs (pc + length ca + 1) st (values vs ++ d ∷ []) r) (λ k. refl))
      (λ _ r g. (
        (names_declared vs x d ∙ ap (λ l. l ++ x ∷ []) scope, lower _ _ r (omega (arith, f.least)) g),
        leads_same _ _ (λ j i. exec w.request functions code j fs (end i) st (sym (values_declared vs x d) i) r),
      )))

  pub set_does : (n : ℕ) (ns : Names) (x : List ℕ) (ca : Instructions) (ma : Variables → Run Datum) → PutsFor n ns ca ma
      → Runs n ns ns (ca ++ Assign (slot_of ns x) ∷ []) (λ vs. ma vs >>= λ d. charge_for d >> give (on (assigned vs x d)))
  set_does n ns x ca ma ra vs scope pc st p has most left =
      let i = Assign (slot_of ns x) in
      let end : pc + length ca + 1 ≡ pc + length (ca ++ i ∷ []) = omega (arith, length-append ca (i ∷ [])) in
      does_then _ _ _ _ _ (ma vs p) _ (ra vs scope pc st p (has_front code pc ca _ has) most left) (λ d q f.
      let new : set (values vs) (slot_of ns x) d ≡ values (assigned vs x d) = ap (λ l. set (values vs) (slot_of l x) d) (sym scope) ∙ sym (values_assigned x d vs) in
      does_then _ _ _ _ _ (charge_for d q) _
      (prim w.request functions code fs (pc + length ca) (d ∷ st) (values vs) q 1 i
      (has_back code pc ca _ has).0 f.most (charge_for d) (spends_charge (taking (d ∷ [])))
      (λ _ r. at w.request functions code fs (pc + length ca + 1) st (set (values vs) (slot_of ns x) d) r) (λ k. refl))
      (λ _ r g. ((names_assigned x d vs ∙ scope, lower _ _ r (omega (arith, f.least)) g), leads_same _ _ (λ j z. exec w.request functions code j fs (end z) st (new z) r))))

  -- one that leaves the variables as they are
  effect_does : (i : Instruction) (m : Datum → Run (Unit {0})) → ((d : Datum) → Spends 1 (m d))
      → ((k pc : ℕ) (d : Datum) (st vs : List Datum) (p : Progress)
      → step w.request functions (Some i) (exec w.request functions code k) fs pc (d ∷ st) vs p
      ≡ after (m d p) (λ _. exec w.request functions code k fs (pc + 1) st vs))
      → (n : ℕ) (ns : Names) (ca : Instructions) (ma : Variables → Run Datum) → PutsFor n ns ca ma
      → Runs n ns ns (ca ++ i ∷ []) (λ vs. ma vs >>= λ d. m d >> give (on vs))
  effect_does i m s h n ns ca ma ra vs scope pc st p has most left =
      let end : pc + length ca + 1 ≡ pc + length (ca ++ i ∷ []) = omega (arith, length-append ca (i ∷ [])) in
      does_then _ _ _ _ _ (ma vs p) _ (ra vs scope pc st p (has_front code pc ca _ has) most left) (λ d q f.
      does_then _ _ _ _ _ (m d q) _
      (prim w.request functions code fs (pc + length ca) (d ∷ st) (values vs) q 1 i
      (has_back code pc ca _ has).0 f.most (m d) (s d) (λ _ r. At (pc + length ca + 1) st vs r)
      (λ k. h k (pc + length ca) d st (values vs) q))
      (λ _ r g. ((scope, lower _ _ r (omega (arith, f.least)) g), same _ _ st end vs r)))

  pub echo_does : (n : ℕ) (ns : Names) (ca : Instructions) (ma : Variables → Run Datum) → PutsFor n ns ca ma
      → Runs n ns ns (ca ++ Echo ∷ []) (λ vs. ma vs >>= λ d. charge_for d >> (print_value d >> give (on vs)))
  echo_does n ns ca ma ra =
      runs_same n ns ns (ca ++ Echo ∷ []) _ _ (λ vs p. after_same (ma vs p) _ _ (λ d q. after_after (charge_for d q) (λ _. print_value d) (λ _. give (on vs))))
      (effect_does Echo (λ d. charge_for d >> print_value d) spends_printing (λ k pc d st vs p. refl) n ns ca ma ra)

  pub status_does : (n : ℕ) (ns : Names) (ca : Instructions) (ma : Variables → Run Datum) → PutsFor n ns ca ma
      → Runs n ns ns (ca ++ Status ∷ []) (λ vs. ma vs >>= λ d. charge_for d >> (unless_fault (status_in d) >>= λ s. set_status s >> give (on vs)))
  status_does n ns ca ma ra =
      runs_same n ns ns (ca ++ Status ∷ []) _ _
      (λ vs p. after_same (ma vs p) _ _ (λ d q. after_after (charge_for d q) (λ _. unless_fault (status_in d) >>= set_status) (λ _. give (on vs))
      ∙ after_same (charge_for d q) _ _ (λ _ r. after_after (unless_fault (status_in d) r) set_status (λ _. give (on vs)))))
      (effect_does Status (λ d. charge_for d >> (unless_fault (status_in d) >>= set_status)) spends_setting (λ k pc d st vs p. refl) n ns ca ma ra)

  pub do_does : (n : ℕ) (ns : Names) (ca : Instructions) (ma : Variables → Run Datum) → PutsFor n ns ca ma
      → Runs n ns ns (ca ++ Discard ∷ []) (λ vs. ma vs >>= λ d. charge_for d >> give (on vs))
  do_does = effect_does Discard charge_for (λ d. spends_charge (taking (d ∷ []))) (λ k pc d st vs p. refl)

  pub return_does : (n : ℕ) (ns : Names) (ca : Instructions) (ma : Variables → Run Datum) → PutsFor n ns ca ma
      → Runs n ns ns (ca ++ Return ∷ []) (λ vs. ma vs >>= λ d. charge_for d >> give (back d))
  return_does n ns ca ma ra vs scope pc st p has most left =
      does_then _ _ _ _ _ (ma vs p) _ (ra vs scope pc st p (has_front code pc ca _ has) most left) (λ d q f.
      does_then _ _ _ _ _ (charge_for d q) _
      (prim w.request functions code fs (pc + length ca) (d ∷ st) (values vs) q 1 Return
      (has_back code pc ca _ has).0 f.most (charge_for d) (spends_charge (taking (d ∷ [])))
      (λ _ r k. back_to (exec w.request functions code k) fs d r) (λ k. refl))
      (λ _ r g. (lower _ _ r (omega (arith, f.least)) g, leads_same _ _ (λ j. refl))))

  -- ---- a block within others: what it declares ends with it

  leave_ways : (ns ns' : Names) (low pc : ℕ) (vs : Variables) (st : List Datum) (here : Goal) (o : Ran Flow)
      → slice_get code pc ≡ Some (Leave (length ns)) → names vs ≡ ns → take (length ns) ns' ≡ ns
      → Does here (FineFlow ns' low) (to pc st) o → Does here (FineFlow ns low) (to (pc + 1) st) (after o (λ flow. give (left_as vs flow)))
  leave_ways ns ns' low pc vs st here (goes (on us) q) i scope outer d =
      let long : length vs ≡ length ns = names_length vs ∙ ap length scope in (
        (names_take (length vs) us ∙ (λ z. take (long z) (d.0.0 z)) ∙ outer, d.0.1),
        leads_on _ _ _ d.1 (move w.request functions code fs pc st (values us) q (Leave (length ns)) i _ (λ k.
            ap (λ ds. exec w.request functions code k fs (pc + 1) st ds q) (ap (λ m. take m (values us)) (sym long) ∙ sym (values_take (length vs) us)))),
      )
  leave_ways ns ns' low pc vs st here (goes (back x) q) i scope outer d = d
  leave_ways ns ns' low pc vs st here (stops e q) i scope outer d = d

  pub scoped_does : (n : ℕ) (ns ns' : Names) (is : Instructions) (m : Variables → Run Flow)
      → take (length ns) ns' ≡ ns → Runs n ns ns' is m → Runs n ns ns (scoped_code ns is) (λ vs. scoped vs (m vs))
  scoped_does n ns ns' is m outer r vs scope pc st p has most left =
      let i = Leave (length ns) in
      let end : pc + length is + 1 ≡ pc + length (is ++ i ∷ []) = omega (arith, length-append is (i ∷ [])) in
      flow_to ns p.steps p.steps (pc + length is + 1) _ st _ (scoped vs (m vs) p) (omega arith) (same _ _ st end)
      (leave_ways ns ns' p.steps (pc + length is) vs st _ (m vs p) (has_back code pc is (i ∷ []) has).0 scope outer
      (r vs scope pc st p (has_front code pc is _ has) most left))

  -- ---- a choice

  pub jump_on : (pc n : ℕ) (st : List Datum) → slice_get code pc ≡ Some (Jump n) → (vs : Variables) (q : Progress)
      → Leads (At pc st vs q) (At (pc + 1 + n) st vs q)
  jump_on pc n st i vs q = move w.request functions code fs pc st (values vs) q (Jump n) i _ (λ k. refl)

  module _ (n : ℕ) (ns : Names) (ca cb : Instructions) (ma mb : Variables → Run Flow) (ra : Runs n ns ns ca ma) (rb : Runs n ns ns cb mb) where
    branch_ways : (vs : Variables) → names vs ≡ ns → (pc end low : ℕ) (st : List Datum)
        → HasAt code (pc + 1) (ca ++ (Jump (length cb) ∷ cb)) → pc + 1 + (length ca + 1) + length cb ≡ end
        → (b : Bool) (q : Progress) → Fine low q → MOST_STEPS ≤ n + q.steps
        → Does (if b then At (pc + 1) st vs q else At (pc + 1 + (length ca + 1)) st vs q) (FineFlow ns low) (to end st) ((if b then ma vs else mb vs) q)
    branch_ways vs scope pc end low st has e true q h left =
        flow_to ns q.steps low (pc + 1 + length ca) end st _ (ma vs q) h.least
        (λ us r. leads_on _ _ _ (jump_on (pc + 1 + length ca) (length cb) st (has_back code (pc + 1) ca _ has).0 us r) (same _ _ st (omega (arith, e)) us r))
        (ra vs scope (pc + 1) st q (has_front code (pc + 1) ca _ has) h.most left)
    branch_ways vs scope pc end low st has e false q h left =
        let place : pc + 1 + length ca + 1 ≡ pc + 1 + (length ca + 1) = omega arith in
        flow_to ns q.steps low (pc + 1 + (length ca + 1) + length cb) end st _ (mb vs q) h.least (same _ _ st e)
        (rb vs scope (pc + 1 + (length ca + 1)) st q (subst (λ i. HasAt code i cb) place (has_back code (pc + 1) ca _ has).1) h.most left)

    pub choice_does : (ct : Instructions) (mt : Variables → Run Datum) → PutsFor n ns ct mt
        → Runs n ns ns (choice_code ct ca cb) (λ vs. mt vs >>= λ d. decide d
        >>= λ holds. if holds then ma vs else mb vs)
    choice_does ct mt rt vs scope pc st p has most left =
        let hb = has_back code pc ct _ has in
        let pc1 = pc + length ct in
        let end : pc1 + 1 + (length ca + 1) + length cb ≡ pc + length (choice_code ct ca cb) = omega (arith, length-append ct (Branch (length ca + 1) ∷ (ca ++ (Jump (length cb) ∷ cb))), length-append ca (Jump (length cb) ∷ cb)) in
        does_then _ _ _ _ _ (mt vs p) _ (rt vs scope pc st p (has_front code pc ct _ has) most left) (λ d q f.
        does_then _ _ _ _ _ (decide d q) _
        (prim w.request functions code fs pc1 (d ∷ st) (values vs) q 1 (Branch (length ca + 1)) hb.0 f.most (decide d) (spends_decide d d)
        (λ b r. if b then At (pc1 + 1) st vs r else At (pc1 + 1 + (length ca + 1)) st vs r)
        (λ k. chosen_after (decide d q) (λ j. exec w.request functions code j fs (pc1 + 1) st (values vs))
        (λ j. exec w.request functions code j fs (pc1 + 1 + (length ca + 1)) st (values vs)) k))
        (λ b r g. branch_ways vs scope pc1 _ p.steps st hb.1 end b r (lower _ _ r (omega (arith, f.least)) g) (omega (arith, left, f.least, g.least))))

  -- ---- a loop, from its test: the body and what comes then, or the end

  module _ (n : ℕ) (ns : Names) (ct cb : Instructions) (mt : Variables → Run Datum) (mb more : Variables → Run Flow) (start : ℕ) (st : List Datum)
      (has : HasAt code start (loop_code ct cb)) (rt : PutsFor n ns ct mt) (rb : Runs n ns ns cb mb) where
    abbrev test_place : ℕ
    test_place = start + 1 + length cb

    abbrev end_place : ℕ
    end_place = start + length (loop_code ct cb)

    abbrev Rest : Type 0
    Rest = (us : Variables) → names us ≡ ns → (q : Progress) → q.steps ≤ MOST_STEPS → MOST_STEPS < n + q.steps
        → Does (At test_place st us q) (FineFlow ns q.steps) (to end_place st) (more us q)

    rest_ways : Rest → (low : ℕ) → MOST_STEPS < n + low → (f : Flow) (q : Progress) → FineFlow ns low f q
        → Does (to test_place st f q) (FineFlow ns low) (to end_place st) (then_on f more q)
    rest_ways rest low left (on us) q h = flow_to ns q.steps low _ _ st _ (more us q) h.1.least
        (λ vs r. leads_same _ _ (λ k. refl)) (rest us h.0 q h.1.most (omega (arith, left, h.1.least)))
    rest_ways rest low left (back d) q h = (h, leads_same _ _ (λ k. refl))

    again_ways : Rest → (low : ℕ) → MOST_STEPS < n + low → (vs : Variables) → names vs ≡ ns → (b : Bool) (q : Progress) → Fine low q
        → Does (if b then At (start + 1) st vs q else At end_place st vs q) (FineFlow ns low) (to end_place st)
        ((if b then (mb vs >>= λ flow. then_on flow more) else give (on vs)) q)
    again_ways rest low left vs scope true q h =
        flow_to ns q.steps low _ _ st _ (after (mb vs q) (λ flow. then_on flow more)) h.least (λ us r. leads_same _ _ (λ k. refl))
        (does_then _ _ _ _ _ (mb vs q) _ (rb vs scope (start + 1) st q (has_front code (start + 1) cb _ has.1) h.most (omega (arith, left, h.least))) (λ f r g.
        rest_ways rest q.steps (omega (arith, left, h.least)) f r g))
    again_ways rest low left vs scope false q h = ((scope, h), leads_same _ _ (λ k. refl))

    pub loop_turn : Rest → (vs : Variables) → names vs ≡ ns → (p : Progress) → p.steps ≤ MOST_STEPS → MOST_STEPS ≤ n + p.steps
        → Does (At test_place st vs p) (FineFlow ns p.steps) (to end_place st) ((mt vs >>= λ d. decide d >>= λ holds. if holds then (mb vs >>= λ flow. then_on flow more) else give (on vs)) p)
    loop_turn rest vs scope p most left =
        let ht = has_back code (start + 1) cb _ has.1 in
        let hj = (has_back code test_place ct _ ht).0 in
        let pc1 = test_place + length ct in
        let i = Again (length cb + length ct) in
        let first : pc1 - (length cb + length ct) ≡ start + 1 = omega arith in
        let last : pc1 + 1 ≡ end_place = omega (arith, length-append cb (ct ++ i ∷ []), length-append ct (i ∷ [])) in
        does_then _ _ _ _ _ (mt vs p) _ (rt vs scope test_place st p (has_front code test_place ct _ ht) most left) (λ d q f.
        does_then _ _ _ _ _ (decide d q) _
        (prim w.request functions code fs pc1 (d ∷ st) (values vs) q 1 i hj f.most (decide d) (spends_decide d d)
        (λ b r. if b then At (start + 1) st vs r else At end_place st vs r)
        (λ k. (λ z. after (decide d q) (λ b. if b then exec w.request functions code k fs (first z) st (values vs) else exec w.request functions code k fs (last z) st (values vs)))
        ∙ chosen_after (decide d q) (λ j. exec w.request functions code j fs (start + 1) st (values vs))
        (λ j. exec w.request functions code j fs end_place st (values vs)) k))
        (λ b r g. flow_to ns (1 + p.steps) p.steps _ _ st _
        ((if b then (mb vs >>= λ flow. then_on flow more) else give (on vs)) r) (omega arith)
        (λ us s. leads_same _ _ (λ k. refl))
        (again_ways rest (1 + p.steps) (omega (arith, left)) vs scope b r (lower _ _ r (omega (arith, f.least)) g))))

  -- ---- a loop over a list, from its next turn

  module _ (n : ℕ) (ns ns' : Names) (x : List ℕ) (cb : Instructions) (m : Variables → Run Flow) (whole : Datum) (start : ℕ) (st : List Datum)
      (has : HasAt code start (Each (length (scoped_code ns cb)) ∷ (scoped_code ns cb ++ Turn (length (scoped_code ns cb)) ∷ []))) (rb : Runs n (ns ++ x ∷ []) ns' cb m) (outer : take (length ns) ns' ≡ ns) where
    abbrev turn_place : ℕ
    turn_place = start + 1 + length (scoped_code ns cb)

    turn_here : slice_get code turn_place ≡ Some (Turn (length (scoped_code ns cb)))
    turn_here = (has_back code (start + 1) (scoped_code ns cb) _ has.1).0

    body_does : (d : Datum) (l : List Datum) (vs : Variables) → names vs ≡ ns → (q : Progress) → q.steps ≤ MOST_STEPS → MOST_STEPS ≤ n + q.steps
        → Does (at w.request functions code fs (start + 1) l (values vs ++ d ∷ []) q) (FineFlow ns q.steps)
        (to turn_place l) (scoped vs (m (declared vs x d)) q)
    body_does d l vs scope q most left =
        let i = Leave (length ns) in
        let us = declared vs x d in
        let end : start + 1 + length cb + 1 ≡ turn_place = omega (arith, length-append cb (i ∷ [])) in
        let hb = has_front code (start + 1) (cb ++ i ∷ []) _ has.1 in
        flow_to ns q.steps q.steps (start + 1 + length cb + 1) _ l _ (scoped vs (m us) q) (omega arith) (same _ _ l end)
        (leave_ways ns ns' q.steps (start + 1 + length cb) vs l _ (m us q) (has_back code (start + 1) cb (i ∷ []) hb).0 scope outer
        (does_from _ _ _ _ (m us q) (leads_same _ _ (λ k. ap (λ ds. exec w.request functions code k fs (start + 1) l ds q) (sym (values_declared vs x d))))
        (rb us (names_declared vs x d ∙ ap (λ z. z ++ x ∷ []) scope) (start + 1) l q (has_front code (start + 1) cb (i ∷ []) hb) most left)))

    then_turn : (low : ℕ) (left_ : Datum) (more : Variables → Run Flow)
        → ((us : Variables) → names us ≡ ns → (q : Progress) → q.steps ≤ MOST_STEPS → low ≤ q.steps
        → Does (At turn_place (left_ ∷ whole ∷ st) us q) (FineFlow ns q.steps) (to (turn_place + 1) st) (more us q))
        → (f : Flow) (q : Progress) → FineFlow ns low f q
        → Does (to turn_place (left_ ∷ whole ∷ st) f q) (FineFlow ns low) (to (turn_place + 1) st) (then_on f more q)
    then_turn low left_ more h (on us) q k =
        flow_to ns q.steps low _ _ st _ (more us q) k.1.least (λ vs r. leads_same _ _ (λ j. refl))
        (h us k.0 q k.1.most k.1.least)
    then_turn low left_ more h (back d) q k = (k, leads_same _ _ (λ j. refl))

    turns_do : (ds : List Datum) (left_ : Datum) → list_in left_ ≡ Ok ds → (vs : Variables) → names vs ≡ ns
        → (p : Progress) → p.steps ≤ MOST_STEPS → MOST_STEPS ≤ n + p.steps
        → Does (At turn_place (left_ ∷ whole ∷ st) vs p) (FineFlow ns p.steps) (to (turn_place + 1) st) (turns whole x m vs ds p)
    turns_do [] left_ is vs scope p most left =
        does_then _ _ _ _ _ (decide_by whole (v.bool false) p) _
        (prim w.request functions code fs turn_place (left_ ∷ whole ∷ st) (values vs) p 1
        (Turn (length (scoped_code ns cb))) turn_here most (decide_by whole (v.bool false))
        (spends_decide whole (v.bool false)) (λ _ q. At (turn_place + 1) st vs q)
        (λ k. ap (λ r. turn (exec w.request functions code k) fs (turn_place + 1) (turn_place - length (scoped_code ns cb)) whole st (values vs) r p) is))
        (λ _ q k. ((scope, lower _ _ q (omega arith) k), leads_same _ _ (λ j. refl)))
    turns_do (d ∷ ds) left_ is vs scope p most left =
        let first : turn_place - length (scoped_code ns cb) ≡ start + 1 = omega arith in
        let rest = v.list (data_of ds) in
        let ends = to (turn_place + 1) st in
        does_then _ _ _ _ _ (decide_by whole (v.bool true) p) _
        (prim w.request functions code fs turn_place (left_ ∷ whole ∷ st) (values vs) p 1
        (Turn (length (scoped_code ns cb))) turn_here most (decide_by whole (v.bool true))
        (spends_decide whole (v.bool true))
        (λ _ q. at w.request functions code fs (start + 1) (rest ∷ whole ∷ st) (values vs ++ d ∷ []) q)
        (λ k. ap (λ r. turn (exec w.request functions code k) fs (turn_place + 1) (turn_place - length (scoped_code ns cb)) whole st (values vs) r p) is
        ∙ ap (λ place. (decide_by whole (v.bool true) >> exec w.request functions code k fs place (rest ∷ whole ∷ st) (values vs ++ d ∷ [])) p) first))
        (λ _ q k. flow_to ns (1 + p.steps) p.steps _ _ st _
        ((scoped vs (m (declared vs x d)) >>= λ flow. then_on flow (λ us. turns whole x m us ds)) q) (omega arith)
        (λ us r. leads_same _ _ (λ j. refl))
        (does_then _ _ _ _ _ (scoped vs (m (declared vs x d)) q) _
        (flow_to ns q.steps (1 + p.steps) _ _ (rest ∷ whole ∷ st) _ (scoped vs (m (declared vs x d)) q) k.least
        (λ us r. leads_same _ _ (λ j. refl)) (body_does d (rest ∷ whole ∷ st) vs scope q k.most
        (omega (arith, left, k.least))))
        (λ f r g. then_turn (1 + p.steps) rest (λ us. turns whole x m us ds)
        (λ us sc s mo le. turns_do ds rest (ap (λ l. Ok l) (members-data_of ds)) us sc s mo
        (omega (arith, left, le))) f r g)))

    pub over_does : (r : Result (List Datum) ScriptFault) → list_in whole ≡ r → (vs : Variables) → names vs ≡ ns
        → (p : Progress) → p.steps ≤ MOST_STEPS → MOST_STEPS ≤ n + p.steps
        → Does (At turn_place (whole ∷ whole ∷ st) vs p) (FineFlow ns p.steps) (to (turn_place + 1) st) (turns_of whole x m vs r p)
    over_does (Ok ds) is vs scope p most left = turns_do ds whole is vs scope p most left
    over_does (Err f) is vs scope p most left =
        does_then _ _ _ _ _ (charge_for whole p) _
        (prim w.request functions code fs turn_place (whole ∷ whole ∷ st) (values vs) p 1
        (Turn (length (scoped_code ns cb))) turn_here most (charge_for whole)
        (spends_charge (taking (whole ∷ []))) (λ _ q k. fails f q)
        (λ k. ap (λ r. turn (exec w.request functions code k) fs (turn_place + 1) (turn_place - length (scoped_code ns cb)) whole st (values vs) r p) is))
        (λ _ q k. leads_same _ _ (λ j. refl))

  -- the list, its walk, and on
  pub each_does : (n : ℕ) (ns ns' : Names) (x : List ℕ) (ct cb : Instructions) (mt : Variables → Run Datum)
      (m : Variables → Run Flow) → PutsFor n ns ct mt → Runs n (ns ++ x ∷ []) ns' cb m → take (length ns) ns' ≡ ns
      → Runs n ns ns (each_code ct (scoped_code ns cb)) (λ vs. mt vs >>= λ d. turns_of d x m vs (list_in d))
  each_does n ns ns' x ct cb mt m rt rb outer vs scope pc st p has most left =
      let b = scoped_code ns cb in
      let hb = has_back code pc ct _ has in
      let start = pc + length ct in
      let end : start + 1 + length b + 1 ≡ pc + length (each_code ct b) = omega (arith, length-append ct (Each (length b) ∷ (b ++ Turn (length b) ∷ [])), length-append b (Turn (length b) ∷ [])) in
      does_then _ _ _ _ _ (mt vs p) _ (rt vs scope pc st p (has_front code pc ct _ has) most left) (λ d q f.
      flow_to ns q.steps p.steps (start + 1 + length b + 1) _ st _ (turns_of d x m vs (list_in d) q) (omega (arith, f.least)) (same _ _ st end)
      (does_from _ _ _ _ (turns_of d x m vs (list_in d) q) (move w.request functions code fs start (d ∷ st) (values vs) q (Each (length b)) hb.0 _ (λ k. refl))
      (over_does n ns ns' x cb m d start st hb rb outer (list_in d) refl vs scope q f.most (omega (arith, left, f.least)))))
