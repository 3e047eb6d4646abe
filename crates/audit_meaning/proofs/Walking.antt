-- The walk finds the cycle that the verdict names.
use Rattle.std.proofs.Common.{◌≡◌, ℕ, zero, suc, ◌+◌, ◌<◌, ◌≤◌, Bool, true, false, cond, ◌&&◌, List, [], ◌∷◌, ◌++◌, length, Option, Some, None, ◌⊎◌, inl, inr, refl, sym, ap, subst, ◌∙◌, arith, append_assoc, append-nil, true≢false}
use Rattle.std.specs.Prelude.{reverse}
use Rattle.std.specs.List.{list_any}
use Rattle.std.proofs.lemmas.Bool.{cases_Bool, and_from}
use Rattle.std.proofs.lemmas.List.{reverse-append}
use Rattle.basis.specs.Lists.{nth, or_else, first_answer}
use Rattle.basis.proofs.Options.{some_is, none_is_not}
use Rattle.basis.proofs.Places.{In, any_false}
use Rattle.audit_meaning.specs.Cycles.{left_over, predecessor, until, since, walked, turned, direct_edges, cycle_of}
use Rattle.audit_meaning.specs.Edges.{Edge, edges}
use Rattle.audit_meaning.specs.Lists.{answer_if, last}
use Rattle.audit_meaning.specs.Nodes.{Node, same_node, nodes}
use Rattle.audit_meaning.specs.Orders.{least_free, without}
use Rattle.audit_meaning.specs.Walked.{HoldsBack, IsCycle, CycleIsWalked}
use Rattle.audit_meaning.proofs.Places.{in_left, in_right, in_either, false_any, Apart, apart_rest, apart_head, apart_more}
use Rattle.audit_meaning.proofs.Orders.{same_node_is, same_node_itself, any_node, without_length, without_rest, without_apart}
use Rattle.audit_meaning.proofs.GraphOrder.{apart_nodes}

-- ---- first answers, and tests that pass

first_at : {A B : Type 0} (f : A → Option B) (xs : List A) (i : ℕ) (x : A) (y : B) → nth xs i ≡ Some x → f x ≡ Some y
    → ((j : ℕ) (z : A) → j < i → nth xs j ≡ Some z → f z ≡ None) → first_answer f xs ≡ Some y
unfolding first_answer or_else
first_at f [] i x y at_x gives none = absurd (none_is_not at_x)
first_at f (z ∷ xs) zero x y at_x gives none = ap (λ o. or_else o (first_answer f xs)) (ap f (some_is at_x) ∙ gives)
first_at f (z ∷ xs) (suc i) x y at_x gives none =
    ap (λ o. or_else o (first_answer f xs)) (none 0 z (omega arith) refl) ∙ first_at f xs i x y at_x gives (λ j w l h. none (suc j) w (omega arith) h)

pub passes : {A : Type 0} (p : A → Bool) (xs : List A) (x : A) → In xs x → p x ≡ true → list_any p xs ≡ true
passes p xs x m e = elim (cases_Bool (list_any p xs)) [
  | inl h ↦ h
  | inr h ↦ absurd (true≢false (sym e ∙ any_false p xs m.0 x h m.1))
]

-- ---- the ends of lists

last_of : {A : Type 0} (f : List A) → (f ≡ []) ⊎ ((g : List A) × (y : A) × (f ≡ g ++ y ∷ []))
last_of [] = inl refl
last_of (x ∷ f) = elim (last_of f) [
  | inl e ↦ inr ([], x, ap (λ g. x ∷ g) e)
  | inr h ↦ inr (x ∷ h.0, h.1, ap (λ g. x ∷ g) h.2)
]

abbrev tail_of : {A : Type 0} → List A → List A
tail_of [] = []
tail_of (x ∷ xs) = xs

-- two lists with one member more
same_end : {A : Type 0} (r s : List A) (x y : A) → r ++ x ∷ [] ≡ s ++ y ∷ [] → (r ≡ s) × (x ≡ y)
same_end [] [] x y e = (refl, some_is (ap (λ l. nth l 0) e))
same_end [] (z ∷ []) x y e = absurd (none_is_not (ap (λ l. nth l 1) e))
same_end [] (z ∷ w ∷ s) x y e = absurd (none_is_not (ap (λ l. nth l 1) e))
same_end (z ∷ []) [] x y e = absurd (none_is_not (sym (ap (λ l. nth l 1) e)))
same_end (z ∷ w ∷ r) [] x y e = absurd (none_is_not (sym (ap (λ l. nth l 1) e)))
same_end (z ∷ r) (w ∷ s) x y e =
    let more = same_end r s x y (ap tail_of e) in
    let head : z ≡ w = some_is (ap (λ l. nth l 0) e) in
    ((λ i. head i ∷ more.0 i), more.1)

-- ---- the newest first

abbrev onto : List Node → List Node → List Node
onto [] t = t
onto (x ∷ xs) t = onto xs (x ∷ t)

onto_is : (xs t : List Node) → onto xs t ≡ reverse xs ++ t
onto_is [] t = refl
onto_is (x ∷ xs) t = onto_is xs (x ∷ t) ∙ sym (append_assoc (reverse xs) (x ∷ []) t) ∙ ap (λ l. l ++ t) (sym (reverse-append (x ∷ []) xs))

onto_split : (a : List Node) (y : Node) (b t : List Node) → onto (a ++ y ∷ b) t ≡ onto b (y ∷ onto a t)
onto_split [] y b t = refl
onto_split (x ∷ a) y b t = onto_split a y b (x ∷ t)

onto_in : (xs t : List Node) (z : Node) → In (onto xs t) z → In xs z ⊎ In t z
onto_in [] t z m = inr m
onto_in (x ∷ xs) t z m = elim (onto_in xs (x ∷ t) z m) [
  | inl h ↦ inl (suc h.0, h.1)
  | inr h ↦ either h.0 h.1
]
  where
    either : (i : ℕ) → nth (x ∷ t) i ≡ Some z → In (x ∷ xs) z ⊎ In t z
    either zero e = inl (0, e)
    either (suc i) e = inr (i, e)

onto_apart : (xs t : List Node) → Apart xs → Apart t → ((z : Node) → In xs z → In t z → ⊥) → Apart (onto xs t)
onto_apart [] t a b n = b
onto_apart (x ∷ xs) t a b n = onto_apart xs (x ∷ t) (apart_rest x xs a) (apart_more x t (n x (0, refl)) b) (λ z m k. by z m k.0 k.1)
  where
    by : (z : Node) → In xs z → (i : ℕ) → nth (x ∷ t) i ≡ Some z → ⊥
    by z m zero e = apart_head x xs a (m.0, m.1 ∙ ap (λ w. Some w) (sym (some_is e)))
    by z m (suc i) e = n z (suc m.0, m.1) (i, e)

-- ---- until and since

other : (x y : Node) → (x ≡ y → ⊥) → same_node x y ≡ false
other x y n = elim (cases_Bool (same_node x y)) [ inl e ↦ absurd (n (same_node_is x y e)) | inr e ↦ e ]

until_is : (x : Node) (a b : List Node) → (In a x → ⊥) → until x (a ++ x ∷ b) ≡ a
until_is x [] b n = ap (λ c. cond c [] (x ∷ until x b)) (same_node_itself x)
until_is x (z ∷ a) b n =
    ap (λ c. cond c [] (z ∷ until x (a ++ x ∷ b))) (other x z (λ e. n (0, ap (λ w. Some w) (sym e))))
    ∙ ap (λ l. z ∷ l) (until_is x a b (λ m. n (suc m.0, m.1)))

since_is : (x : Node) (a b : List Node) → (In a x → ⊥) → since x (a ++ x ∷ b) ≡ x ∷ b
since_is x [] b n = ap (λ c. cond c (x ∷ b) (since x b)) (same_node_itself x)
since_is x (z ∷ a) b n =
    ap (λ c. cond c (z ∷ a ++ x ∷ b) (since x (a ++ x ∷ b))) (other x z (λ e. n (0, ap (λ w. Some w) (sym e))))
    ∙ since_is x a b (λ m. n (suc m.0, m.1))

-- ---- a ring of nodes, turned

record Split (y : Node) (r cycle : List Node) (m : Node) : Type 0 where
  a : List Node
  d : List Node
  ring : y ∷ r ≡ a ++ m ∷ d
  is : cycle ≡ m ∷ d ++ a

split : (y : Node) (r cycle : List Node) (m : Node) (front back : List Node) → r ++ y ∷ [] ≡ back ++ front
    → cycle ≡ front ++ back → nth cycle 0 ≡ Some m → Split y r cycle m
split y r cycle m [] back whole is begins = whole_back r (whole ∙ append-nil back)
  where
    whole_back : (s : List Node) → s ++ y ∷ [] ≡ back → Split y s cycle m
    whole_back [] e =
        let c : cycle ≡ y ∷ [] = is ∙ sym e in
        let h : y ≡ m = some_is (sym (ap (λ l. nth l 0) c) ∙ begins) in
        record { a = []; d = []; ring = ap (λ w. w ∷ []) h; is = c ∙ ap (λ w. w ∷ []) h }
    whole_back (z ∷ s) e =
        let c : cycle ≡ z ∷ s ++ y ∷ [] = is ∙ sym e in
        let h : z ≡ m = some_is (sym (ap (λ l. nth l 0) c) ∙ begins) in
        record { a = y ∷ []; d = s; ring = ap (λ w. y ∷ w ∷ s) h; is = c ∙ ap (λ w. w ∷ s ++ y ∷ []) h }
split y r cycle m (x ∷ f) back whole is begins = elim (last_of f) [
  | inl e ↦
      let s = same_end r back y x (whole ∙ ap (λ g. back ++ x ∷ g) e) in
      record {
        a = [];
        d = r;
        ring = ap (λ w. w ∷ r) (s.1 ∙ head);
        is = is ∙ (λ i. head i ∷ (e i) ++ sym s.0 i) ∙ ap (λ l. m ∷ l) (sym (append-nil r));
      }
  | inr h ↦
      let g = h.0 in
      let s = same_end r (back ++ x ∷ g) y h.1 (whole ∙ ap (λ k. back ++ x ∷ k) h.2 ∙ sym (append_assoc back (x ∷ g) (h.1 ∷ []))) in
      record {
        a = y ∷ back;
        d = g;
        ring = ap (λ l. y ∷ l) s.0 ∙ ap (λ w. y ∷ back ++ w ∷ g) head;
        is = is ∙ ap (λ k. x ∷ k ++ back) (h.2 ∙ ap (λ w. g ++ w ∷ []) (sym s.1))
            ∙ ap (λ w. w ∷ (g ++ y ∷ []) ++ back) head ∙ ap (λ l. m ∷ l) (append_assoc g (y ∷ []) back);
      }
]
  where
    head : x ≡ m
    head = some_is (sym (ap (λ l. nth l 0) is) ∙ begins)

-- ---- fewer nodes

fewer : (xs ys : List Node) → Apart xs → ((x : Node) → In xs x → In ys x) → length xs ≤ length ys
fewer [] ys a h = omega arith
fewer (x ∷ xs) ys a h =
    let here = h x (0, refl) in
    let size : suc (length (without x ys)) ≡ length ys = without_length x ys here.0 here.1 in
    let rest = fewer xs (without x ys) (apart_rest x xs a) (λ z m.
    let there = h z (suc m.0, m.1) in
    elim (without_rest x ys z there.0 there.1) [
      | inl e ↦ absurd (apart_head x xs a (m.0, m.1 ∙ ap (λ w. Some w) (sym e)))
      | inr k ↦ k
    ]) in
    omega (arith, size, rest)

-- ---- the walk

module _ (direct : List Edge) (left : List Node) where
  abbrev before : Node → Option Node
  before x = predecessor direct left x

  before_is : (x y : Node) → HoldsBack direct left x y → before x ≡ Some y
  unfolding answer_if
  before_is x y h = first_at (λ z. answer_if (list_any (λ e. same_node e.0 z && same_node e.1 x) direct) z) left h.place y y h.there
      (ap (λ b. cond b (Some y) None) (passes (λ e. same_node e.0 y && same_node e.1 x) direct (y, x) h.edge (and_from (same_node y y) (same_node x x) (same_node_itself y) (same_node_itself x))))
      (λ j z low at_z. ap (λ b. cond b (Some z) None)
      (false_any (λ e. same_node e.0 z && same_node e.1 x) direct
      (λ i e at_e. no j z low at_z i e at_e (same_node e.0 z) refl (same_node e.1 x) refl)))
    where
      no : (j : ℕ) (z : Node) → j < h.place → nth left j ≡ Some z → (i : ℕ) (e : Edge) → nth direct i ≡ Some e
          → (a : Bool) → same_node e.0 z ≡ a → (b : Bool) → same_node e.1 x ≡ b → (a && b) ≡ false
      no j z low at_z i e at_e false p b q = refl
      no j z low at_z i e at_e true p false q = refl
      no j z low at_z i e at_e true p true q =
          let l = h.least z j at_z (i, at_e ∙ (λ k. Some (same_node_is e.0 z p k, same_node_is e.1 x q k))) in
          absurd (omega (arith, l))

  -- each stands for the first time
  abbrev Fresh : List Node → List Node → Type 0
  Fresh trail [] = Unit {0}
  Fresh trail (x ∷ rest) = (list_any (same_node x) trail ≡ false) × Fresh (x ∷ trail) rest

  abbrev Linked : Node → List Node → Node → Type 0
  Linked x [] y = before x ≡ Some y
  Linked x (z ∷ rest) y = (before x ≡ Some z) × Linked z rest y

  fresh : (trail rest : List Node) → Apart rest → ((z : Node) → In rest z → In trail z → ⊥) → Fresh trail rest
  fresh trail [] a n = tt
  fresh trail (x ∷ rest) a n = (
    false_any (same_node x) trail (λ i z at_z. other x z (λ e. n x (0, refl) (i, at_z ∙ ap (λ w. Some w) (sym e)))),
    fresh (x ∷ trail) rest (apart_rest x rest a) (λ z m k. by z m k.0 k.1),
  )
    where
      by : (z : Node) → In rest z → (i : ℕ) → nth (x ∷ trail) i ≡ Some z → ⊥
      by z m zero e = apart_head x rest a (m.0, m.1 ∙ ap (λ w. Some w) (sym (some_is e)))
      by z m (suc i) e = n z (suc m.0, m.1) (i, e)

  linked : (x : Node) (rest : List Node) (end y : Node)
      → ((k : ℕ) (a b : Node) → nth (x ∷ rest) k ≡ Some a → nth (x ∷ rest) (suc k) ≡ Some b
      → HoldsBack direct left a b)
      → last (x ∷ rest) ≡ Some end → HoldsBack direct left end y → Linked x rest y
  linked x [] end y steps ends closes = ap before (some_is ends) ∙ before_is end y closes
  linked x (z ∷ rest) end y steps ends closes = (before_is x z (steps 0 x z refl refl), linked z rest end y (λ k a b p q. steps (suc k) a b p q) ends closes)

  walked_on : (x : Node) (rest trail : List Node) (n : ℕ) (y : Node) → Fresh trail (x ∷ rest) → Linked x rest y
      → suc (length rest) < n → In (onto (x ∷ rest) trail) y
      → walked direct left n trail (Some x) ≡ y ∷ until y (onto (x ∷ rest) trail)
  walked_on x rest trail zero y new links l m = absurd (omega (arith, l))
  walked_on x [] trail (suc zero) y new links l m = absurd (omega (arith, l))
  walked_on x [] trail (suc (suc n)) y new links l m =
      ap (λ b. cond b (x ∷ until x trail) (walked direct left (suc n) (x ∷ trail) (before x))) new.0
      ∙ ap (walked direct left (suc n) (x ∷ trail)) links
      ∙ ap (λ b. cond b (y ∷ until y (x ∷ trail)) (walked direct left n (y ∷ x ∷ trail) (before y))) (any_node y (x ∷ trail) m.0 m.1)
  walked_on x (z ∷ rest) trail (suc n) y new links l m =
      ap (λ b. cond b (x ∷ until x trail) (walked direct left n (x ∷ trail) (before x))) new.0
      ∙ ap (walked direct left n (x ∷ trail)) links.0
      ∙ walked_on z rest (x ∷ trail) n y new.1 links.1 (omega (arith, l)) m

  module _ (apart : Apart left) (cycle : List Node) (c : IsCycle direct left cycle) where
    walk : List Node
    walk = c.before ++ c.again ∷ c.after

    -- all of the walk is left
    all_left : (i : ℕ) (x : Node) → nth (c.before ++ c.again ∷ c.after) i ≡ Some x → In left x
    all_left zero x e = (0, sym c.walk.starts ∙ e)
    all_left (suc i) x e = by i (c.before ++ c.again ∷ c.after) (λ a b p q. c.walk.steps i a b p q) e
      where
        by : (i : ℕ) (xs : List Node) → ((a b : Node) → nth xs i ≡ Some a → nth xs (suc i) ≡ Some b
            → HoldsBack direct left a b) → nth xs (suc i) ≡ Some x → In left x
        by i [] steps e = absurd (none_is_not e)
        by zero (z ∷ xs) steps e = let h = steps z x refl e in (h.place, h.there)
        by (suc i) (z ∷ xs) steps e = by i xs steps e

    walk_from : (xs : List Node) → xs ≡ c.before ++ c.again ∷ c.after
        → walked direct left (length left + 1) [] (nth xs 0) ≡ c.again ∷ until c.again (onto xs [])
    walk_from [] e = absurd (no c.before e)
      where
        no : (a : List Node) → [] ≡ a ++ c.again ∷ c.after → ⊥
        no [] e = none_is_not (ap (λ l. nth l 0) e)
        no (z ∷ a) e = none_is_not (ap (λ l. nth l 0) e)
    walk_from (x ∷ rest) e =
        let once : Apart (x ∷ rest) = subst (λ l. Apart l) (sym e) c.walk.once in
        let size = fewer (x ∷ rest) left once (λ z m. all_left m.0 z (ap (λ l. nth l m.0) (sym e) ∙ m.1)) in
        let there : In (onto (x ∷ rest) []) c.again = subst (λ l. In l c.again) (sym (ap (λ l. onto l []) e ∙ onto_split c.before c.again c.after [] ∙ onto_is c.after (c.again ∷ onto c.before []))) (in_right (reverse c.after) (c.again ∷ onto c.before []) c.again (0, refl)) in
        walked_on x rest [] (length left + 1) c.again (fresh [] (x ∷ rest) once (λ z m k. none_is_not k.1))
        (linked x rest c.end c.again (subst (λ l. (k : ℕ) (a b : Node) → nth l k ≡ Some a → nth l (suc k) ≡ Some b → HoldsBack direct left a b) (sym e) c.walk.steps) (ap last e ∙ c.ends) c.closes)
        (omega (arith, size)) there

    again_after : In c.after c.again → ⊥
    again_after m = by c.before c.walk.once
      where
        by : (a : List Node) → Apart (a ++ c.again ∷ c.after) → ⊥
        by [] h = apart_head c.again c.after h m
        by (z ∷ a) h = by a (apart_rest z (a ++ c.again ∷ c.after) h)

    after_apart : Apart c.after
    after_apart = by c.before c.walk.once
      where
        by : (a : List Node) → Apart (a ++ c.again ∷ c.after) → Apart c.after
        by [] h = apart_rest c.again c.after h
        by (z ∷ a) h = by a (apart_rest z (a ++ c.again ∷ c.after) h)

    in_after : (z : Node) → In (onto c.after []) z → In c.after z
    in_after z m = elim (onto_in c.after [] z m) [ inl h ↦ h | inr h ↦ absurd (none_is_not h.1) ]

    abbrev ring : List Node
    ring = c.again ∷ onto c.after []

    until_again : until c.again (onto (c.before ++ c.again ∷ c.after) []) ≡ onto c.after []
    until_again =
        ap (until c.again) (onto_split c.before c.again c.after [] ∙ onto_is c.after (c.again ∷ onto c.before []))
        ∙ until_is c.again (reverse c.after) (onto c.before []) (λ m. again_after (in_after c.again (subst (λ l. In l c.again) (sym (onto_is c.after [] ∙ append-nil (reverse c.after))) m)))
        ∙ sym (onto_is c.after [] ∙ append-nil (reverse c.after))

    walked_is : walked direct left (length left + 1) [] (nth left 0) ≡ ring
    walked_is = ap (walked direct left (length left + 1) []) (sym c.walk.starts)
        ∙ walk_from (c.before ++ c.again ∷ c.after) refl ∙ ap (λ l. c.again ∷ l) until_again

    ring_apart : Apart ring
    ring_apart = apart_more c.again (onto c.after []) (λ m. again_after (in_after c.again m))
        (onto_apart c.after [] after_apart (λ x i j a b. absurd (none_is_not a)) (λ z m k. none_is_not k.1))

    parts : Split c.again (onto c.after []) cycle c.first
    parts = split c.again (onto c.after []) cycle c.first c.turned.0 c.turned.1
        (ap (λ l. l ++ c.again ∷ []) (onto_is c.after [] ∙ append-nil (reverse c.after))
        ∙ sym (reverse-append (c.again ∷ []) c.after) ∙ c.turned.2) c.turned.3 c.begins

    -- the least node stands once
    first_once : In parts.a c.first → ⊥
    first_once m =
        let h : Apart (parts.a ++ c.first ∷ parts.d) = subst (λ l. Apart l) parts.ring ring_apart in
        by parts.a m h
      where
        by : (a : List Node) → In a c.first → Apart (a ++ c.first ∷ parts.d) → ⊥
        by [] m h = none_is_not m.1
        by (z ∷ a) (zero, e) h = apart_head z (a ++ c.first ∷ parts.d) h
            (subst (λ w. In (a ++ c.first ∷ parts.d) w) (sym (some_is e))
            (in_right a (c.first ∷ parts.d) c.first (0, refl)))
        by (z ∷ a) (suc i, e) h = by a (i, e) (apart_rest z (a ++ c.first ∷ parts.d) h)

    ring_in_cycle : (z : Node) → In ring z → In cycle z
    ring_in_cycle z m = subst (λ l. In l z) (sym parts.is)
        (elim (in_either parts.a (c.first ∷ parts.d) z m.0 (ap (λ l. nth l m.0) (sym parts.ring) ∙ m.1)) [
          | inl h ↦ in_right (c.first ∷ parts.d) parts.a z h
          | inr h ↦ in_left (c.first ∷ parts.d) parts.a z h
        ])

    ring_in_walk : (z : Node) → In ring z → In (c.before ++ c.again ∷ c.after) z
    ring_in_walk z m = in_right c.before (c.again ∷ c.after) z (by m.0 m.1)
      where
        by : (i : ℕ) → nth ring i ≡ Some z → In (c.again ∷ c.after) z
        by zero e = (0, e)
        by (suc i) e = let h = in_after z (i, e) in (suc h.0, h.1)

    first_in_ring : In ring c.first
    first_in_ring = subst (λ l. In l c.first) (sym parts.ring) (in_right parts.a (c.first ∷ parts.d) c.first (0, refl))

    first_left : In left c.first
    first_left = let m = ring_in_walk c.first first_in_ring in all_left m.0 c.first m.1

    abbrev turned_by : Option Node → List Node
    turned_by o = elim o [ None ↦ ring | Some y ↦ since y ring ++ until y ring ]

    turned_is : turned left ring ≡ cycle
    unfolding answer_if
    turned_is =
        ap turned_by (first_at (λ y. answer_if (list_any (same_node y) ring) y) left first_left.0 c.first c.first first_left.1
        (ap (λ b. cond b (Some c.first) None) (any_node c.first ring first_in_ring.0 first_in_ring.1))
        (λ j z low at_z. ap (λ b. cond b (Some z) None) (false_any (same_node z) ring (λ i w at_w. other z w (λ e.
        let l = c.least z first_left.0 j (ring_in_cycle z (i, at_w ∙ ap (λ v. Some v) (sym e))) first_left.1 at_z in
        omega (arith, l, low))))))
        ∙ (λ i. since c.first (parts.ring i) ++ until c.first (parts.ring i))
        ∙ (λ i. since_is c.first parts.a parts.d first_once i ++ until_is c.first parts.a parts.d first_once i)
        ∙ sym parts.is

    pub cycle_is : turned left (walked direct left (length left + 1) [] (nth left 0)) ≡ cycle
    cycle_is = ap (turned left) walked_is ∙ turned_is

over_apart : (all : List Edge) (n : ℕ) (left : List Node) → Apart left → Apart (left_over all n left)
over_apart all zero left a = λ x i j p q. absurd (none_is_not p)
over_apart all (suc n) left a = by (least_free all left) (λ x. over_apart all n (without x left) (without_apart x left a))
  where
    by : (o : Option Node) → ((x : Node) → Apart (left_over all n (without x left)))
        → Apart (elim o [ None ↦ left | Some x ↦ left_over all n (without x left) ])
    by None rest = a
    by (Some x) rest = rest x

pub cycle_is_walked : CycleIsWalked
unfolding cycle_of nodes
cycle_is_walked trace report cycle balanced c =
    cycle_is (direct_edges trace report) (left_over (edges trace report) (length (nodes trace report)) (nodes trace report))
    (over_apart (edges trace report) (length (nodes trace report)) (nodes trace report) (apart_nodes report trace balanced.asked_once)) cycle c
