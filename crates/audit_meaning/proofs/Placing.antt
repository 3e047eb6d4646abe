-- A list in which each next node is the least that may come is the order.
use Rattle.std.proofs.Common.{◌≡◌, ℕ, zero, suc, ◌<◌, Bool, true, false, not, cond, ◌&&◌, ◌||◌, List, [], ◌∷◌, ◌++◌, filter, length, take, Option, Some, None, inl, inr, refl, sym, ap, subst, ◌∙◌, arith, append_assoc, append-nil, true≢false}
use Rattle.std.specs.List.{list_any}
use Rattle.std.proofs.lemmas.Bool.{cases_Bool, and_from, not-true}
use Rattle.basis.specs.Lists.{nth, or_else, first_answer}
use Rattle.basis.proofs.Options.{some_is, none_is_not}
use Rattle.basis.proofs.Places.{In, any_true, any_false}
use Rattle.audit_meaning.specs.Cycles.{left_over}
use Rattle.audit_meaning.specs.Edges.{Edge, edges}
use Rattle.audit_meaning.specs.Lists.{answer_if}
use Rattle.audit_meaning.specs.Nodes.{Node, same_node, nodes}
use Rattle.audit_meaning.specs.Orders.{is_free, least_free, without, with_first, ordered, order_of}
use Rattle.audit_meaning.specs.Placed.{MayComeNext, ComesNext, is_left, OrderIsPlaced}
use Rattle.audit_meaning.proofs.Places.{false_any, none_first, none_answer, Apart, apart_rest, apart_head}
use Rattle.audit_meaning.proofs.Filters.{filter_in, in_filtered}
use Rattle.audit_meaning.proofs.Orders.{same_node_is, same_node_itself, any_node}
use Rattle.audit_meaning.proofs.GraphOrder.{apart_nodes}

-- ---- among these, and not

among : (xs : List Node) (x : Node) → In xs x → is_left xs x ≡ false
among xs x m = ap not (any_node x xs m.0 m.1)

not_among : (xs : List Node) (x : Node) → is_left xs x ≡ true → In xs x → ⊥
not_among xs x e m = true≢false (sym e ∙ among xs x m)

left_or_in : (xs : List Node) (x : Node) → (In xs x → ⊥) → is_left xs x ≡ true
left_or_in xs x n = elim (cases_Bool (list_any (same_node x) xs)) [
  | inl e ↦ let m = any_true (same_node x) xs e in absurd (n (m.1.0, m.1.1 ∙ ap (λ y. Some y) (sym (same_node_is x m.0 m.2))))
  | inr e ↦ ap not e
]

in_or_left : (xs : List Node) (x : Node) → (is_left xs x ≡ true → ⊥) → In xs x
in_or_left xs x n = elim (cases_Bool (list_any (same_node x) xs)) [
  | inl e ↦ let m = any_true (same_node x) xs e in (m.1.0, m.1.1 ∙ ap (λ y. Some y) (sym (same_node_is x m.0 m.2)))
  | inr e ↦ absurd (n (ap not e))
]

-- one more among them
left_more : (xs : List Node) (x y : Node) → is_left (xs ++ x ∷ []) y ≡ (is_left xs y && not (same_node y x))
left_more [] x y = by (same_node y x)
  where
    by : (b : Bool) → not (b || false) ≡ (true && not b)
    by true = refl
    by false = refl
left_more (z ∷ xs) x y = by (same_node y z) (left_more xs x y)
  where
    by : (b : Bool) → is_left (xs ++ x ∷ []) y ≡ (is_left xs y && not (same_node y x))
        → not (b || list_any (same_node y) (xs ++ x ∷ []))
        ≡ (not (b || list_any (same_node y) xs) && not (same_node y x))
    by true h = refl
    by false h = h

-- where x doesn't stand, nothing more is left out
same_filter : (xs ns : List Node) (x : Node) → (In ns x → ⊥) → filter (is_left (xs ++ x ∷ [])) ns ≡ filter (is_left xs) ns
same_filter xs [] x n = refl
same_filter xs (z ∷ ns) x n = go (is_left (xs ++ x ∷ []) z) (is_left xs z) same (same_filter xs ns x (λ m. n (suc m.0, m.1)))
  where
    other : same_node z x ≡ false
    other = elim (cases_Bool (same_node z x)) [ inl e ↦ absurd (n (0, ap (λ y. Some y) (same_node_is z x e))) | inr e ↦ e ]

    and_true : (b : Bool) → (b && true) ≡ b
    and_true true = refl
    and_true false = refl

    same : is_left (xs ++ x ∷ []) z ≡ is_left xs z
    same = left_more xs x z ∙ ap (λ b. is_left xs z && not b) other ∙ and_true (is_left xs z)

    go : (a b : Bool) → a ≡ b → filter (is_left (xs ++ x ∷ [])) ns ≡ filter (is_left xs) ns
        → cond a (z ∷ filter (is_left (xs ++ x ∷ [])) ns) (filter (is_left (xs ++ x ∷ [])) ns)
        ≡ cond b (z ∷ filter (is_left xs) ns) (filter (is_left xs) ns)
    go a b e h i = cond (e i) (z ∷ h i) (h i)

without_left : (xs ns : List Node) (x : Node) → Apart ns → is_left xs x ≡ true → In ns x
    → without x (filter (is_left xs) ns) ≡ filter (is_left (xs ++ x ∷ [])) ns
without_left xs [] x apart left m = absurd (none_is_not m.1)
without_left xs (z ∷ ns) x apart left m = go (is_left xs z) refl (same_node x z) refl (λ h. without_left xs ns x (apart_rest z ns apart) left h)
  where
    more : (b : Bool) → is_left (xs ++ x ∷ []) z ≡ b
        → filter (is_left (xs ++ x ∷ [])) (z ∷ ns)
        ≡ cond b (z ∷ filter (is_left (xs ++ x ∷ [])) ns) (filter (is_left (xs ++ x ∷ [])) ns)
    more b e = ap (λ c. cond c (z ∷ filter (is_left (xs ++ x ∷ [])) ns) (filter (is_left (xs ++ x ∷ [])) ns)) e

    later : (same_node x z ≡ false) → In ns x
    later e = by m.0 m.1
      where
        by : (i : ℕ) → nth (z ∷ ns) i ≡ Some x → In ns x
        by zero h = absurd (true≢false (sym (same_node_itself x) ∙ ap (same_node x) (sym (some_is h)) ∙ e))
        by (suc i) h = (i, h)

    back : (b : Bool) → same_node x z ≡ b → same_node z x ≡ b
    back true e = subst (λ y. same_node y x ≡ true) (same_node_is x z e) (same_node_itself x)
    back false e = elim (cases_Bool (same_node z x)) [
      | inl h ↦ absurd (true≢false (sym (subst (λ y. same_node y z ≡ true) (same_node_is z x h) (same_node_itself z)) ∙ e))
      | inr h ↦ h
    ]

    go : (a : Bool) → is_left xs z ≡ a → (b : Bool) → same_node x z ≡ b
        → (In ns x → without x (filter (is_left xs) ns) ≡ filter (is_left (xs ++ x ∷ [])) ns)
        → without x (cond a (z ∷ filter (is_left xs) ns) (filter (is_left xs) ns))
        ≡ filter (is_left (xs ++ x ∷ [])) (z ∷ ns)
    go true e true f rest =
        ap (λ c. cond c (filter (is_left xs) ns) (z ∷ without x (filter (is_left xs) ns))) f
        ∙ sym (same_filter xs ns x (λ h. apart_head z ns apart (h.0, h.1 ∙ ap (λ y. Some y) (same_node_is x z f))))
        ∙ sym (more false (left_more xs x z ∙ ap (λ c. is_left xs z && not c) (back true f) ∙ and_false (is_left xs z)))
      where
        and_false : (c : Bool) → (c && false) ≡ false
        and_false true = refl
        and_false false = refl
    go true e false f rest =
        ap (λ c. cond c (filter (is_left xs) ns) (z ∷ without x (filter (is_left xs) ns))) f
        ∙ ap (λ ys. z ∷ ys) (rest (later f))
        ∙ sym (more true (left_more xs x z ∙ ap (λ c. c && not (same_node z x)) e ∙ ap not (back false f)))
    go false e true f rest = absurd (true≢false (sym left ∙ ap (is_left xs) (same_node_is x z f) ∙ e))
    go false e false f rest =
        rest (later f)
        ∙ sym (more false (left_more xs x z ∙ ap (λ c. c && not (same_node z x)) e))

-- ---- the least

-- the first answer of those that a test leaves
first_left : {A B : Type 0} (f : A → Option B) (p : A → Bool) (ns : List A) (i : ℕ) (x : A) (y : B) → nth ns i ≡ Some x → p x ≡ true → f x ≡ Some y
    → ((j : ℕ) (z : A) → j < i → nth ns j ≡ Some z → p z ≡ true → f z ≡ None) → first_answer f (filter p ns) ≡ Some y
unfolding first_answer or_else
first_left f p [] i x y at_x left gives none = absurd (none_is_not at_x)
first_left {A} {B} f p (z ∷ ns) zero x y at_x left gives none =
    ap (λ b. first_answer f (cond b (z ∷ filter p ns) (filter p ns))) (ap p (some_is at_x) ∙ left)
    ∙ ap (λ o. or_else o (first_answer f (filter p ns))) (ap f (some_is at_x) ∙ gives)
first_left {A} {B} f p (z ∷ ns) (suc i) x y at_x left gives none =
    go (p z) refl (first_left f p ns i x y at_x left gives (λ j w l h k. none (suc j) w (omega arith) h k))
  where
    go : (b : Bool) → p z ≡ b → first_answer f (filter p ns) ≡ Some y → first_answer f (cond b (z ∷ filter p ns) (filter p ns)) ≡ Some y
    go true e h = ap (λ o. or_else o (first_answer f (filter p ns))) (none 0 z (omega arith) refl e) ∙ h
    go false e h = h

-- one more than these, and n
beyond : List Node → ℕ → ℕ
beyond [] n = suc n
beyond (x ∷ xs) n = suc (beyond xs n)

module _ (all : List Edge) (ns : List Node) (apart : Apart ns) where
  abbrev left : List Node → List Node
  left xs = filter (is_left xs) ns

  free_if : (xs : List Node) (x : Node) → MayComeNext all ns xs x → is_free all (left xs) x ≡ true
  free_if xs x may = ap not (false_any (λ e. same_node x e.1 && list_any (same_node e.0) (left xs)) all
      (λ i e at_e. by e (same_node x e.1) refl (list_any (same_node e.0) (left xs)) refl (i, at_e)))
    where
      by : (e : Edge) (a : Bool) → same_node x e.1 ≡ a → (b : Bool) → list_any (same_node e.0) (left xs) ≡ b → In all e → (a && b) ≡ false
      by e false p b q m = refl
      by e true p false q m = refl
      by e true p true q m =
          let y = any_true (same_node e.0) (left xs) q in
          let f = filter_in (is_left xs) ns y.0 y.1.0 y.1.1 in
          let is : e.0 ≡ y.0 = same_node_is e.0 y.0 y.2 in
          let to : x ≡ e.1 = same_node_is x e.1 p in
          let edge : In {A = Edge} all (y.0, x) = subst (λ d. In {A = Edge} all d) (λ k. (is k, sym to k)) m in
          absurd (not_among xs y.0 f.1 (may.ready y.0 f.0 edge))

  may_if : (xs : List Node) (x : Node) → In ns x → is_left xs x ≡ true → is_free all (left xs) x ≡ true → MayComeNext all ns xs x
  may_if xs x there is free = record {
    there = there;
    left = not_among xs x is;
    ready = λ y in_ns edge. in_or_left xs y (λ out.
        let m = in_filtered (is_left xs) ns y in_ns.0 in_ns.1 out in
        let no = any_false (λ e. same_node x e.1 && list_any (same_node e.0) (left xs)) all edge.0 (y, x) (not-true _ free) edge.1 in
        true≢false (sym (and_from (same_node x x) (list_any (same_node y) (left xs)) (same_node_itself x) (any_node y (left xs) m.0 m.1)) ∙ no));
  }

  least_is : (xs : List Node) (x : Node) → ComesNext all ns xs x → least_free all (left xs) ≡ Some x
  unfolding answer_if
  least_is xs x next = first_left (λ y. answer_if (is_free all (left xs) y) y)
      (is_left xs) ns next.may.there.0 x x next.may.there.1 (left_or_in xs x next.may.left)
      (ap (λ b. cond b (Some x) None) (free_if xs x next.may))
      (λ j z low at_z out. elim (cases_Bool (is_free all (left xs) z)) [
        | inl e ↦ let h = next.least z next.may.there.0 j (may_if xs z (j, at_z) out e) next.may.there.1 at_z in absurd (omega (arith, low))
        | inr e ↦ ap (λ b. cond b (Some z) None) e
      ])

  none_is : (xs : List Node) → ((x : Node) → MayComeNext all ns xs x → ⊥) → least_free all (left xs) ≡ None
  none_is xs none = none_first _ (left xs) (λ i x at_x.
      let f = filter_in (is_left xs) ns x i at_x in
      none_answer _ _ (elim (cases_Bool (is_free all (left xs) x)) [ inl e ↦ absurd (none x (may_if xs x f.0 f.1 e)) | inr e ↦ e ]))

  step_left : (xs : List Node) (x : Node) → ComesNext all ns xs x → without x (left xs) ≡ left (xs ++ x ∷ [])
  step_left xs x next = without_left xs ns x apart (left_or_in xs x next.may.left) next.may.there

  abbrev Goes : List Node → List Node → Type 0
  Goes xs rest = (k : ℕ) (x : Node) → nth rest k ≡ Some x → ComesNext all ns (xs ++ take k rest) x

  first_goes : (xs : List Node) (x : Node) (rest : List Node) → Goes xs (x ∷ rest) → ComesNext all ns xs x
  first_goes xs x rest goes = subst (λ ys. ComesNext all ns ys x) (append-nil xs) (goes 0 x refl)

  rest_goes : (xs : List Node) (x : Node) (rest : List Node) → Goes xs (x ∷ rest) → Goes (xs ++ x ∷ []) rest
  rest_goes xs x rest goes k y at_y = subst (λ ys. ComesNext all ns ys y) (sym (append_assoc xs (x ∷ []) (take k rest))) (goes (suc k) y at_y)

  -- one node, and then the others
  abbrev next_of : ℕ → List Node → Option Node → Option (List Node)
  next_of n l o = elim o [ None ↦ None | Some x ↦ with_first x (ordered all n (without x l)) ]

  all_placed : (rest xs : List Node) → Goes xs rest → ordered all (length rest) (left xs) ≡ Some rest
  all_placed [] xs goes = refl
  all_placed (x ∷ rest) xs goes =
      let next = first_goes xs x rest goes in
      ap (next_of (length rest) (left xs)) (least_is xs x next)
      ∙ ap (λ l. with_first x (ordered all (length rest) l)) (step_left xs x next)
      ∙ ap (with_first x) (all_placed rest (xs ++ x ∷ []) (rest_goes xs x rest goes))

  none_placed : (rest xs : List Node) (n : ℕ) → Goes xs rest → ((x : Node) → MayComeNext all ns (xs ++ rest) x → ⊥)
      → ordered all (beyond rest n) (left xs) ≡ None
  unfolding beyond
  none_placed [] xs n goes none = ap (next_of n (left xs)) (none_is xs (subst (λ ys. (x : Node) → MayComeNext all ns ys x → ⊥) (append-nil xs) none))
  none_placed (x ∷ rest) xs n goes none =
      let next = first_goes xs x rest goes in
      ap (next_of (beyond rest n) (left xs)) (least_is xs x next)
      ∙ ap (λ l. with_first x (ordered all (beyond rest n) l)) (step_left xs x next)
      ∙ ap (with_first x) (none_placed rest (xs ++ x ∷ []) n (rest_goes xs x rest goes)
      (subst (λ ys. (x : Node) → MayComeNext all ns ys x → ⊥) (sym (append_assoc xs (x ∷ []) rest)) none))

  abbrev over_of : ℕ → List Node → Option Node → List Node
  over_of n l o = elim o [ None ↦ l | Some x ↦ left_over all n (without x l) ]

  others_left : (rest xs : List Node) (n : ℕ) → Goes xs rest → ((x : Node) → MayComeNext all ns (xs ++ rest) x → ⊥)
      → left_over all (beyond rest n) (left xs) ≡ left (xs ++ rest)
  unfolding beyond
  others_left [] xs n goes none = ap (over_of n (left xs))
      (none_is xs (subst (λ ys. (x : Node) → MayComeNext all ns ys x → ⊥) (append-nil xs) none))
      ∙ ap left (sym (append-nil xs))
  others_left (x ∷ rest) xs n goes none =
      let next = first_goes xs x rest goes in
      ap (over_of (beyond rest n) (left xs)) (least_is xs x next)
      ∙ ap (left_over all (beyond rest n)) (step_left xs x next)
      ∙ others_left rest (xs ++ x ∷ []) n (rest_goes xs x rest goes)
      (subst (λ ys. (x : Node) → MayComeNext all ns ys x → ⊥) (sym (append_assoc xs (x ∷ []) rest)) none)
      ∙ ap left (append_assoc xs (x ∷ []) rest)

all_left : (ns : List Node) → filter (is_left []) ns ≡ ns
all_left [] = refl
all_left (x ∷ ns) = ap (λ ys. x ∷ ys) (all_left ns)

gap : (xs : List Node) (b : ℕ) → length xs < b → (n : ℕ) × (b ≡ beyond xs n)
unfolding beyond
gap [] zero l = absurd (omega (arith, l))
gap [] (suc b) l = (b, refl)
gap (x ∷ xs) zero l = absurd (omega (arith, l))
gap (x ∷ xs) (suc b) l = let h = gap xs b (omega (arith, l)) in (h.0, ap suc h.1)

pub order_is_placed : OrderIsPlaced
unfolding order_of nodes
order_is_placed trace report xs balanced order = (
  λ same. ap (λ n. ordered E n N) (sym same) ∙ ap (ordered E (length xs)) (sym (all_left N)) ∙ all_placed E N apart xs [] order.placed,
  λ fewer.
      let n = gap xs (length N) fewer in (
        ap (λ k. ordered E k N) n.1 ∙ ap (ordered E (beyond xs n.0)) (sym (all_left N)) ∙ none_placed E N apart xs [] n.0 order.placed order.ended,
        ap (λ k. left_over E k N) n.1 ∙ ap (left_over E (beyond xs n.0)) (sym (all_left N)) ∙ others_left E N apart xs [] n.0 order.placed order.ended,
      ),
)
  where
    E : List Edge
    E = edges trace report

    N : List Node
    N = nodes trace report

    apart : Apart N
    apart = apart_nodes report trace balanced.asked_once
