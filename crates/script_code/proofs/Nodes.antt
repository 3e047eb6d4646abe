-- The code of an expression puts its value on the stack, or stops as it does.
use Rattle.std.proofs.Common.{◌≡◌, ◌≤◌, ◌+◌, ℕ, suc, Bool, true, false, if◌then◌else◌, List, [], ◌∷◌, ◌++◌, length, drop, Some, Ok, refl, sym, ap, ◌∙◌, arith, append-nil, length-append}
use Rattle.std.specs.Prelude.{slice_get}
use Rattle.script_tree.specs.Datum.{Datum}
use Rattle.script_tree.specs.declared.limits.TheConstants.{MOST_STEPS}
use Rattle.script_meaning.specs.Evaluate.{Setting, Flow, node, seen}
use Rattle.script_meaning.specs.Run.{Run, Progress, Ran, goes, stops, after, ◌>>=◌, give, decide}
use Rattle.script_meaning.specs.Variables.{Variables, value_in}
use Rattle.script_code.specs.Code.{Instructions, slot_of}
use Rattle.script_code.specs.CodeRun.{Frame, step, exec, topmost}
use Rattle.script_code.specs.declared.instruction.Instruction.{Instruction}
use Rattle.script_code.specs.declared.instruction.Instruction.TheVariants.{Push, Load, And, Or}
use Rattle.script_code.proofs.Spends.{Spends, spends_node, spends_decide}
use Rattle.script_code.proofs.Leads.{Goal, leads_same, Does, does_then, does_to, HasAt, has_front, has_back, Fine, lower, at, prim, same_place}
use Rattle.script_code.proofs.Slots.{values, names, slot_value, onto, onto_more}

-- ---- values taken off the stack

topmost_onto : (ds st es : List Datum) (m : ℕ) → topmost (length ds + m) (onto ds st) es ≡ topmost m st (ds ++ es)
topmost_onto [] st es m = let e : 0 + m ≡ m = omega arith in ap (λ k. topmost k st es) e
topmost_onto (d ∷ ds) st es m = let e : length (d ∷ ds) + m ≡ length ds + suc m = omega arith in ap (λ k. topmost k (onto ds (d ∷ st)) es) e ∙ topmost_onto ds (d ∷ st) es (suc m)

drop_onto : (ds st : List Datum) (m : ℕ) → drop (length ds + m) (onto ds st) ≡ drop m st
drop_onto [] st m = let e : 0 + m ≡ m = omega arith in ap (λ k. drop k st) e
drop_onto (d ∷ ds) st m = let e : length (d ∷ ds) + m ≡ length ds + suc m = omega arith in ap (λ k. drop k (onto ds (d ∷ st))) e ∙ drop_onto ds (d ∷ st) (suc m)

pub taken : (ds st : List Datum) (n : ℕ) → n ≡ length ds → topmost n (onto ds st) [] ≡ ds
taken ds st n h = let e : n ≡ length ds + 0 = omega (arith, h) in ap (λ k. topmost k (onto ds st) []) e ∙ topmost_onto ds st [] 0 ∙ append-nil ds

pub left_over : (ds st : List Datum) (n : ℕ) → n ≡ length ds → drop n (onto ds st) ≡ st
left_over ds st n h = let e : n ≡ length ds + 0 = omega (arith, h) in ap (λ k. drop k (onto ds st)) e ∙ drop_onto ds st 0

-- a choice, at a number of instructions
chosen : (b : Bool) (f g : ℕ → Run Flow) (k : ℕ) (q : Progress) → (if b then f k else g k) q ≡ if◌then◌else◌ {A = Goal} b (λ j. f j q) (λ j. g j q) k
chosen true f g k q = refl
chosen false f g k q = refl

pub chosen_after : (o : Ran Bool) (f g : ℕ → Run Flow) (k : ℕ)
    → after o (λ b. if b then f k else g k) ≡ after o (λ b q. if◌then◌else◌ {A = Goal} b (λ j. f j q) (λ j. g j q) k)
chosen_after (goes b q) f g k = chosen b f g k q
chosen_after (stops e q) f g k = refl

-- one value, and nothing that is asked of it
abbrev pub alone : Datum → List Datum
alone d = d ∷ []

abbrev pub Anything : {A : Type 0} → A → Type 0
Anything a = Unit {0}

module _ (w : Setting) (functions : List ℕ) (code : Instructions) (fs : List Frame) (n : ℕ) (vs : Variables) where
  abbrev pub Step : Instruction → ℕ → ℕ → List Datum → Run Flow
  Step i k pc st = step w.request functions (Some i) (exec w.request functions code k) fs pc st (values vs)

  abbrev pub Exec : ℕ → ℕ → List Datum → Run Flow
  Exec k pc st = exec w.request functions code k fs pc st (values vs)

  abbrev pub here : ℕ → List Datum → Progress → Goal
  here pc st p = at w.request functions code fs pc st (values vs) p

  -- the code puts what m gives on the stack
  abbrev pub Puts : Instructions → Run Datum → Type 0
  Puts is m = (pc : ℕ) (st : List Datum) (p : Progress) → HasAt code pc is → p.steps ≤ MOST_STEPS → MOST_STEPS ≤ n + p.steps
      → Does (here pc st p) (λ d q. Fine (1 + p.steps) q) (λ d q. here (pc + length is) (d ∷ st) q) (m p)

  -- the last instruction of a node, which puts what it gives on the stack
  pub node_does : (pc end low : ℕ) (old st : List Datum) (p : Progress) (i : Instruction) → slice_get code pc ≡ Some i
      → p.steps ≤ MOST_STEPS → pc + 1 ≡ end → low ≤ 1 + p.steps → (m : Run Datum) → Spends 1 m
      → ((k : ℕ) → Step i k pc old p ≡ after (m p) (λ d q. Exec k (pc + 1) (d ∷ st) q))
      → Does (here pc old p) (λ d q. Fine low q) (λ d q. here end (d ∷ st) q) (m p)
  node_does pc end low old st p i is most e le m s h =
      does_to (here pc old p) (λ d q. Fine (1 + p.steps) q) (λ d q. Fine low q) (λ d q. here (pc + 1) (d ∷ st) q) (λ d q. here end (d ∷ st) q) (m p)
      (prim w.request functions code fs pc old (values vs) p 1 i is most m s (λ d q. here (pc + 1) (d ∷ st) q) h)
      (λ d q k. (lower (1 + p.steps) low q le k, same_place w.request functions code fs (pc + 1) end (d ∷ st) (values vs) q e))

  pub push_does : (d : Datum) → Puts (Push d ∷ []) (node [] (Ok d))
  push_does d pc st p has most left = node_does pc _ _ st st p (Push d) has.0 most (omega arith) (omega arith)
      (node [] (Ok d)) (spends_node [] (Ok d)) (λ k. refl)

  pub load_does : (x : List ℕ) → Puts (Load (slot_of (names vs) x) ∷ []) (seen (value_in vs x))
  load_does x pc st p has most left =
      node_does pc _ _ st st p (Load (slot_of (names vs) x)) has.0 most (omega arith) (omega arith)
      (seen (value_in vs x)) (spends_node (value_in vs x ∷ []) (Ok (value_in vs x)))
      (λ k. ap (λ d. (seen d >>= λ y. Exec k (pc + 1) (y ∷ st)) p) (slot_value x vs))

  -- a node of one operand, and of two
  pub one_does : (i : Instruction) (m : Datum → Run Datum) → ((x : Datum) → Spends 1 (m x))
      → ((k pc : ℕ) (x : Datum) (st : List Datum) (p : Progress) → Step i k pc (x ∷ st) p ≡ after (m x p) (λ d q. Exec k (pc + 1) (d ∷ st) q))
      → (ca : Instructions) (ma : Run Datum) → Puts ca ma → Puts (ca ++ i ∷ []) (ma >>= m)
  one_does i m s h ca ma ra pc st p has most left =
      does_then _ _ _ _ _ (ma p) m (ra pc st p (has_front code pc ca _ has) most left) (λ x q f.
      node_does (pc + length ca) _ _ (x ∷ st) st q i (has_back code pc ca _ has).0 f.most
      (omega (arith, length-append ca (i ∷ []))) (omega (arith, f.least)) (m x) (s x)
      (λ k. h k (pc + length ca) x st q))

  pub two_does : (i : Instruction) (m : Datum → Datum → Run Datum) → ((x y : Datum) → Spends 1 (m x y))
      → ((k pc : ℕ) (x y : Datum) (st : List Datum) (p : Progress) → Step i k pc (y ∷ x ∷ st) p ≡ after (m x y p) (λ d q. Exec k (pc + 1) (d ∷ st) q))
      → (ca cb : Instructions) (ma mb : Run Datum) → Puts ca ma → Puts cb mb → Puts (ca ++ (cb ++ i ∷ [])) (ma >>= λ x. mb >>= λ y. m x y)
  two_does i m s h ca cb ma mb ra rb pc st p has most left =
      let hb = has_back code pc ca (cb ++ i ∷ []) has in
      let hi = has_back code (pc + length ca) cb (i ∷ []) hb in
      let end : pc + length ca + length cb + 1 ≡ pc + length (ca ++ (cb ++ i ∷ [])) = omega (arith, length-append ca (cb ++ i ∷ []), length-append cb (i ∷ [])) in
      does_then _ _ _ _ _ (ma p) _ (ra pc st p (has_front code pc ca _ has) most left) (λ x q f.
      does_then _ _ _ _ _ (mb q) _ (rb (pc + length ca) (x ∷ st) q (has_front code _ cb _ hb) f.most (omega (arith, left, f.least))) (λ y r g.
      node_does (pc + length ca + length cb) _ _ (y ∷ x ∷ st) st r i hi.0 g.most end (omega (arith, f.least, g.least))
      (m x y) (s x y) (λ k. h k (pc + length ca + length cb) x y st r)))

  -- ---- operands that are evaluated only where the first one is so

  keep_does : (low pc end : ℕ) (x : Datum) (st : List Datum) (q : Progress) → Fine low q → pc ≡ end
      → Does (here pc (x ∷ st) q) (λ d r. Fine low r) (λ d r. here end (d ∷ st) r) (give x q)
  keep_does low pc end x st q f e = (f, same_place w.request functions code fs pc end (x ∷ st) (values vs) q e)

  other_does : (low pc end : ℕ) (cb : Instructions) (mb : Run Datum) (st : List Datum) (q : Progress) → Puts cb mb
      → HasAt code pc cb → pc + length cb ≡ end → Fine low q → MOST_STEPS ≤ n + q.steps
      → Does (here pc st q) (λ d r. Fine low r) (λ d r. here end (d ∷ st) r) (mb q)
  other_does low pc end cb mb st q rb has e f left =
      does_to (here pc st q) (λ d r. Fine (1 + q.steps) r) (λ d r. Fine low r)
      (λ d r. here (pc + length cb) (d ∷ st) r) (λ d r. here end (d ∷ st) r) (mb q) (rb pc st q has f.most left)
      (λ d r g. (lower (1 + q.steps) low r (omega (arith, f.least)) g, same_place w.request functions code fs (pc + length cb) end (d ∷ st) (values vs) r e))

  and_ways : (low pc end : ℕ) (cb : Instructions) (mb : Run Datum) (x : Datum) (st : List Datum) → Puts cb mb
      → HasAt code (pc + 1) cb → pc + 1 + length cb ≡ end → (b : Bool) (q : Progress) → Fine low q
      → MOST_STEPS ≤ n + q.steps
      → Does (if b then here (pc + 1) st q else here (pc + 1 + length cb) (x ∷ st) q) (λ d r. Fine low r)
      (λ d r. here end (d ∷ st) r) ((if b then mb else give x) q)
  and_ways low pc end cb mb x st rb has e true q f left = other_does low (pc + 1) end cb mb st q rb has e f left
  and_ways low pc end cb mb x st rb has e false q f left = keep_does low (pc + 1 + length cb) end x st q f e

  or_ways : (low pc end : ℕ) (cb : Instructions) (mb : Run Datum) (x : Datum) (st : List Datum) → Puts cb mb
      → HasAt code (pc + 1) cb → pc + 1 + length cb ≡ end → (b : Bool) (q : Progress) → Fine low q
      → MOST_STEPS ≤ n + q.steps
      → Does (if b then here (pc + 1 + length cb) (x ∷ st) q else here (pc + 1) st q) (λ d r. Fine low r)
      (λ d r. here end (d ∷ st) r) ((if b then give x else mb) q)
  or_ways low pc end cb mb x st rb has e true q f left = keep_does low (pc + 1 + length cb) end x st q f e
  or_ways low pc end cb mb x st rb has e false q f left = other_does low (pc + 1) end cb mb st q rb has e f left

  pub and_does : (ca cb : Instructions) (ma mb : Run Datum) → Puts ca ma → Puts cb mb
      → Puts (ca ++ (And (length cb) ∷ cb)) (ma >>= λ x. decide x >>= λ holds. if holds then mb else give x)
  and_does ca cb ma mb ra rb pc st p has most left =
      let hb = has_back code pc ca (And (length cb) ∷ cb) has in
      let end : pc + length ca + 1 + length cb ≡ pc + length (ca ++ (And (length cb) ∷ cb)) = omega (arith, length-append ca (And (length cb) ∷ cb)) in
      does_then _ _ _ _ _ (ma p) _ (ra pc st p (has_front code pc ca _ has) most left) (λ x q f.
      does_then _ _ _ _ _ (decide x q) _
      (prim w.request functions code fs (pc + length ca) (x ∷ st) (values vs) q 1 (And (length cb)) hb.0 f.most (decide x) (spends_decide x x)
      (λ b r. if b then here (pc + length ca + 1) st r else here (pc + length ca + 1 + length cb) (x ∷ st) r)
      (λ k. chosen_after (decide x q) (λ j. Exec j (pc + length ca + 1) st) (λ j. Exec j (pc + length ca + 1 + length cb) (x ∷ st)) k))
      (λ b r g. and_ways (1 + p.steps) (pc + length ca) _ cb mb x st rb hb.1 end b r
      (lower _ _ r (omega (arith, f.least)) g) (omega (arith, left, f.least, g.least))))

  pub or_does : (ca cb : Instructions) (ma mb : Run Datum) → Puts ca ma → Puts cb mb
      → Puts (ca ++ (Or (length cb) ∷ cb)) (ma >>= λ x. decide x >>= λ holds. if holds then give x else mb)
  or_does ca cb ma mb ra rb pc st p has most left =
      let hb = has_back code pc ca (Or (length cb) ∷ cb) has in
      let end : pc + length ca + 1 + length cb ≡ pc + length (ca ++ (Or (length cb) ∷ cb)) = omega (arith, length-append ca (Or (length cb) ∷ cb)) in
      does_then _ _ _ _ _ (ma p) _ (ra pc st p (has_front code pc ca _ has) most left) (λ x q f.
      does_then _ _ _ _ _ (decide x q) _
      (prim w.request functions code fs (pc + length ca) (x ∷ st) (values vs) q 1 (Or (length cb)) hb.0 f.most (decide x) (spends_decide x x)
      (λ b r. if b then here (pc + length ca + 1 + length cb) (x ∷ st) r else here (pc + length ca + 1) st r)
      (λ k. chosen_after (decide x q) (λ j. Exec j (pc + length ca + 1 + length cb) (x ∷ st)) (λ j. Exec j (pc + length ca + 1) st) k))
      (λ b r g. or_ways (1 + p.steps) (pc + length ca) _ cb mb x st rb hb.1 end b r
      (lower _ _ r (omega (arith, f.least)) g) (omega (arith, left, f.least, g.least))))

  -- ---- many values: those of what m gives, of which P holds

  abbrev pub PutsAll : {A : Type 0} → (A → List Datum) → (A → Type 0) → Instructions → Run A → Type 0
  PutsAll vals P is m = (pc : ℕ) (st : List Datum) (p : Progress) → HasAt code pc is → p.steps ≤ MOST_STEPS → MOST_STEPS ≤ n + p.steps
      → Does (here pc st p) (λ a q. Fine p.steps q × P a) (λ a q. here (pc + length is) (onto (vals a) st) q) (m p)

  pub none_do : {A : Type 0} (vals : A → List Datum) (P : A → Type 0) (a : A) → vals a ≡ [] → P a → PutsAll vals P [] (give a)
  none_do vals P a none h pc st p has most left =
      ((record { least = omega arith; most = most }, h), leads_same _ _ (λ k. (let e : pc ≡ pc + 0 = omega arith in ap (λ i. Exec k i st p) e) ∙ ap (λ ds. Exec k (pc + 0) (onto ds st) p) (sym none)))

  pub both_do : {A B C : Type 0} (va : A → List Datum) (vb : B → List Datum) (vc : C → List Datum) (P : A → Type 0)
      (Q : B → Type 0) (R : C → Type 0) (is js : Instructions) (m : Run A) (m' : Run B) (g : A → B → C)
      → ((a : A) (b : B) → vc (g a b) ≡ va a ++ vb b) → ((a : A) (b : B) → P a → Q b → R (g a b)) → PutsAll va P is m
      → PutsAll vb Q js m' → PutsAll vc R (is ++ js) (m >>= λ a. m' >>= λ b. give (g a b))
  both_do va vb vc P Q R is js m m' g vals h ra rb pc st p has most left =
      let end : pc + length is + length js ≡ pc + length (is ++ js) = omega (arith, length-append is js) in
      does_then _ _ _ _ _ (m p) _ (ra pc st p (has_front code pc is js has) most left) (λ a q f.
      does_then _ _ _ _ _ (m' q) _ (rb (pc + length is) (onto (va a) st) q (has_back code pc is js has) f.0.most (omega (arith, left, f.0.least))) (λ b r k. (
        (lower q.steps p.steps r f.0.least k.0, h a b f.1 k.1),
        leads_same _ _ (λ j. ap (λ i. Exec j i (onto (vb b) (onto (va a) st)) r) end
            ∙ ap (λ ds. Exec j (pc + length (is ++ js)) ds r)
            (sym (onto_more (va a) (vb b) st) ∙ ap (λ ds. onto ds st) (sym (vals a b)))),
      )))

  pub map_does : {A B : Type 0} (va : A → List Datum) (vb : B → List Datum) (P : A → Type 0) (Q : B → Type 0) (is : Instructions) (m : Run A) (g : A → B)
      → ((a : A) → vb (g a) ≡ va a) → ((a : A) → P a → Q (g a)) → PutsAll va P is m → PutsAll vb Q is (m >>= λ a. give (g a))
  map_does va vb P Q is m g vals h ra pc st p has most left =
      does_then _ _ _ _ _ (m p) _ (ra pc st p has most left) (λ a q f. ((f.0, h a f.1), leads_same _ _ (λ j. ap (λ ds. Exec j (pc + length is) (onto ds st) q) (sym (vals a)))))

  pub alone_does : (is : Instructions) (m : Run Datum) → Puts is m → PutsAll alone Anything is m
  alone_does is m r pc st p has most left =
      does_to _ _ _ _ _ (m p) (r pc st p has most left) (λ d q f. ((lower (1 + p.steps) p.steps q (omega arith) f, tt), leads_same _ _ (λ k. refl)))

  -- a node of many values
  pub many_does : {A : Type 0} (va : A → List Datum) (P : A → Type 0) (i : Instruction) (m : A → Run Datum) → ((a : A) → Spends 1 (m a))
      → ((k pc : ℕ) (a : A) (st : List Datum) (p : Progress) → P a → Step i k pc (onto (va a) st) p ≡ after (m a p) (λ d q. Exec k (pc + 1) (d ∷ st) q))
      → (ca : Instructions) (ma : Run A) → PutsAll va P ca ma → Puts (ca ++ i ∷ []) (ma >>= m)
  many_does va P i m s h ca ma ra pc st p has most left =
      does_then _ _ _ _ _ (ma p) m (ra pc st p (has_front code pc ca _ has) most left) (λ a q f.
      node_does (pc + length ca) _ _ (onto (va a) st) st q i (has_back code pc ca _ has).0 f.0.most
      (omega (arith, length-append ca (i ∷ []))) (omega (arith, f.0.least)) (m a) (s a)
      (λ k. h k (pc + length ca) a st q f.1))
