-- The cycle of a graph's numbers is that of the nodes which they name.
use Rattle.std.proofs.Common.{◌≡◌, ◌∙◌, ℕ, zero, suc, ◌<◌, ◌≤◌, ◌+◌, ◌-◌, List, [], ◌∷◌, ◌++◌, length, take, drop, reverse, filter, Some, Bool, true, false, not, nat_eq, inl, inr, refl, ap, sym, subst, arith, true≢false}
use Rattle.std.specs.Prelude.{slice_index, All}
use Rattle.std.specs.List.{list_any}
use Rattle.std.proofs.lemmas.Bool.{cases_order, eq-eqb}
use Rattle.std.proofs.lemmas.List.{reverse-append, length-reverse, length-append, length-take, length-drop}
use Rattle.std.proofs.lemmas.Map.Keys.{apart_from_distinct}
use Rattle.basis.specs.Lists.{nth}
use Rattle.audit_meaning.proofs.Filters.{filter_in, in_filtered}
use Rattle.audit_meaning.proofs.Orders.{same_node_is, any_node}
use Rattle.audit_meaning.proofs.Places.{Apart, in_either}
use Rattle.audit_meaning.proofs.Words.{nth_there}
use Rattle.basis.proofs.Options.{some_is, none_is_not}
use Rattle.basis.proofs.Places.{any_true, In, nth_within, take_nth}
use Rattle.audit_meaning.specs.Edges.{Edge}
use Rattle.audit_meaning.specs.Lists.{last}
use Rattle.audit_meaning.specs.declared.node.Node.{Node}
use Rattle.audit_meaning.specs.Nodes.{same_node}
use Rattle.audit_meaning.specs.Placed.{is_left}
use Rattle.audit_meaning.specs.Walked as walked
use Rattle.audit_meaning.specs.Walked.{IsTurned}
use Rattle.event_order.specs.Cycle.{IsLeast, HoldsBack, IsWalk, IsCycle}
use Rattle.event_order.specs.Order.{has}
use Rattle.event_order.specs.declared.graph.Graph.{Graph}
use Rattle.audit_order.specs.Mirrors.{at, named, Mirrors}
use Rattle.audit_order.proofs.Images.{nth_index, index_nth, in_has, not_has, AreBelow, at_there, in_named, named_in, named_both, length_named, in_turn}

-- ---- lists

reverse_named : (ns : List Node) (xs : List ℕ) → reverse (named ns xs) ≡ named ns (reverse xs)
reverse_named ns [] = refl
reverse_named ns (x ∷ xs) =
    reverse-append (at ns x ∷ []) (named ns xs)
    ∙ ap (λ ys. ys ++ at ns x ∷ []) (reverse_named ns xs)
    ∙ sym (named_both ns (reverse xs) (x ∷ []))
    ∙ ap (named ns) (sym (reverse-append (x ∷ []) xs))

in_reverse : (xs : List ℕ) (i x : ℕ) → nth (reverse xs) i ≡ Some x → In xs x
in_reverse [] i x e = absurd (none_is_not e)
in_reverse (y ∷ xs) i x e =
    elim (in_either (reverse xs) (y ∷ []) x i (ap (λ l. nth l i) (sym (reverse-append (y ∷ []) xs)) ∙ e)) [
      | inl h ↦ let m = in_reverse xs h.0 x h.1 in (suc m.0, m.1)
      | inr h ↦ first h.0 h.1
    ]
  where
    first : (j : ℕ) → nth (y ∷ []) j ≡ Some x → In (y ∷ xs) x
    first zero h = (0, h)
    first (suc j) h = absurd (none_is_not h)

in_drop : (xs : List ℕ) (n i x : ℕ) → nth (drop n xs) i ≡ Some x → In xs x
in_drop [] zero i x e = absurd (none_is_not e)
in_drop [] (suc n) i x e = absurd (none_is_not e)
in_drop (y ∷ xs) zero i x e = (i, e)
in_drop (y ∷ xs) (suc n) i x e = let m = in_drop xs n i x e in (suc m.0, m.1)

parts : (xs : List ℕ) (n : ℕ) → take n xs ++ drop n xs ≡ xs
parts [] zero = refl
parts [] (suc n) = refl
parts (x ∷ xs) zero = refl
parts (x ∷ xs) (suc n) = ap (λ ys. x ∷ ys) (parts xs n)

cut : (xs : List ℕ) (n x : ℕ) → nth xs n ≡ Some x → (rest : List ℕ) × (drop n xs ≡ x ∷ rest)
cut [] n x e = absurd (none_is_not e)
cut (y ∷ xs) zero x e = (xs, ap (λ z. z ∷ xs) (some_is e))
cut (y ∷ xs) (suc n) x e = cut xs n x e

last_nth : {A : Type 0} (xs : List A) (x : A) → 0 < length xs → nth xs (length xs - 1) ≡ Some x → last xs ≡ Some x
last_nth [] x lt e = absurd (omega arith)
last_nth (y ∷ []) x lt e = e
last_nth (y ∷ z ∷ zs) x lt e = last_nth (z ∷ zs) x (omega arith) (ap (nth (y ∷ z ∷ zs)) (let q : suc (length (z ∷ zs) - 1) ≡ length (y ∷ z ∷ zs) - 1 = omega arith in q) ∙ e)

-- ---- what is left

module _ (all direct : List Edge) (ns : List Node) (g : Graph) (xs : List ℕ) (apart : Apart ns)
    (m : Mirrors all direct ns g) (below : AreBelow (length ns) xs) where
  abbrev pub left : List Node
  left = filter (is_left (named ns xs)) ns

  left_true : (x : ℕ) (b : Node) → nth ns x ≡ Some b → has xs x ≡ false → is_left (named ns xs) b ≡ true
  left_true x b e none = ap not (go (list_any (same_node b) (named ns xs)) refl)
    where
      go : (t : Bool) → list_any (same_node b) (named ns xs) ≡ t → list_any (same_node b) (named ns xs) ≡ false
      go false h = h
      go true h =
          let f = any_true (same_node b) (named ns xs) h in
          let q = named_in ns xs f.1.0 f.0 below f.1.1 in
          let same : q.0 ≡ x = apart b q.0 x (q.2 ∙ ap (λ n. Some n) (sym (same_node_is b f.0 f.2))) e in
          absurd (true≢false (sym (in_has xs f.1.0 x (q.1 ∙ ap (λ n. Some n) same)) ∙ none))

  left_false : (x : ℕ) (b : Node) → nth ns x ≡ Some b → is_left (named ns xs) b ≡ true → has xs x ≡ false
  left_false x b e t = not_has xs x (λ i f. true≢false (sym t ∙ ap not (any_node b (named ns xs) i (in_named ns xs i x b f e))))

  -- its number, and that it isn't placed
  left_number : (b : Node) (i : ℕ) → nth left i ≡ Some b → (x : ℕ) × (nth ns x ≡ Some b) × (has xs x ≡ false)
  left_number b i e = let f = filter_in (is_left (named ns xs)) ns b i e in (f.0.0, f.0.1, left_false f.0.0 b f.0.1 f.1)

  in_order : (x y i j : ℕ) (a b : Node) → nth ns x ≡ Some a → nth ns y ≡ Some b → nth left i ≡ Some a → nth left j ≡ Some b → x ≤ y → i ≤ j
  in_order x y i j a b ex ey ei ej le = in_turn (is_left (named ns xs)) ns apart x y i j a b ex ey ei ej le

  holds : (x y : ℕ) (a b : Node) → nth ns x ≡ Some a → nth ns y ≡ Some b → IsLeast (HoldsBack g xs x) (Some y) → walked.HoldsBack direct left a b
  holds x y a b ex ey h =
      let here = in_filtered (is_left (named ns xs)) ns b y ey (left_true y b ey h.0.1) in
      record {
        place = here.0;
        there = here.1;
        edge = m.direct_edge y x b a ey ex h.0.0;
        least = λ z j ej edge.
            let q = left_number z j ej in
            in_order y q.0 here.0 j b z ey q.1 here.1 ej (h.1 q.0 (m.direct_back q.0 x z a q.1 ex edge, q.2));
      }

  module _ (walk : List ℕ) (w : IsWalk g xs walk) where
    step_at : (k : ℕ) → suc k < length walk → IsLeast (HoldsBack g xs (slice_index walk k)) (Some (slice_index walk (suc k)))
    step_at k lt = subst (λ n. IsLeast (HoldsBack g xs (slice_index walk k)) (Some (slice_index walk n))) (let e : k + 1 ≡ suc k = omega arith in e) (w.steps k (omega arith))

    below_walk : AreBelow (length ns) walk
    below_walk zero x e =
        let lt = nth_within walk 0 x e in
        let q = (w.starts lt).0.0 in
        let same : slice_index walk 0 ≡ x = index_nth walk 0 x e in
        omega (arith, q, same, m.count)
    below_walk (suc k) x e =
        let lt = nth_within walk (suc k) x e in
        subst (λ y. y < length ns) (index_nth walk (suc k) x e) (m.direct_inside (slice_index walk (suc k)) (slice_index walk k) (step_at k lt).0.0)

    names : (k : ℕ) → k < length walk → nth ns (slice_index walk k) ≡ Some (at ns (slice_index walk k))
    names k lt = at_there ns (slice_index walk k) (below_walk k (slice_index walk k) (nth_index walk k lt))

    starts : 0 < length walk → nth (named ns walk) 0 ≡ nth left 0
    starts lt =
        let x = slice_index walk 0 in
        let least = w.starts lt in
        let here = in_filtered (is_left (named ns xs)) ns (at ns x) x (names 0 lt) (left_true x (at ns x) (names 0 lt) least.0.1) in
        let some = nth_there left 0 (let l = nth_within left here.0 (at ns x) here.1 in omega arith) in
        let q = left_number some.0 0 some.1 in
        let le = least.1 q.0 (let l = nth_within ns q.0 some.0 q.1 in omega (arith, l, m.count), q.2) in
        let zero_is : here.0 ≡ 0 = let p = in_order x q.0 here.0 0 (at ns x) some.0 (names 0 lt) q.1 here.1 some.1 le in omega (arith, p) in
        in_named ns walk 0 x (at ns x) (nth_index walk 0 lt) (names 0 lt) ∙ sym here.1 ∙ ap (nth left) zero_is

    once_walk : (i j x : ℕ) → nth walk i ≡ Some x → nth walk j ≡ Some x → i ≡ j
    once_walk i j x ei ej = elim (cases_order i j) [
      | inl same ↦ same
      | inr (inl less) ↦ absurd (differ i j less ei ej)
      | inr (inr more) ↦ absurd (differ j i more ej ei)
    ]
      where
        differ : (i j : ℕ) → i < j → nth walk i ≡ Some x → nth walk j ≡ Some x → ⊥
        differ i j lt ei ej =
            let same : slice_index walk i ≡ slice_index walk j = index_nth walk i x ei ∙ sym (index_nth walk j x ej) in
            true≢false (sym (eq-eqb (slice_index walk i) (slice_index walk j) same) ∙ apart_from_distinct nat_eq walk i j 0 w.once lt (nth_within walk j x ej))

    walk_named : 0 < length walk → walked.IsWalk direct left (named ns walk)
    walk_named lt = record {
      starts = starts lt;
      steps = λ k a b ea eb.
          let x = named_in ns walk k a below_walk ea in
          let y = named_in ns walk (suc k) b below_walk eb in
          holds x.0 y.0 a b x.2 y.2
          (subst (λ n. IsLeast (HoldsBack g xs n) (Some y.0)) (index_nth walk k x.0 x.1)
          (subst (λ n. IsLeast (HoldsBack g xs (slice_index walk k)) (Some n)) (index_nth walk (suc k) y.0 y.1)
          (step_at k (nth_within walk (suc k) y.0 y.1))));
      once = λ a i j ei ej.
          let x = named_in ns walk i a below_walk ei in
          let y = named_in ns walk j a below_walk ej in
          once_walk i j x.0 x.1 (y.1 ∙ ap (λ n. Some n) (apart a y.0 x.0 y.2 x.2));
    }

  pub cycle_named : (cycle : List ℕ) → IsCycle g xs cycle → walked.IsCycle direct left (named ns cycle)
  cycle_named cycle c =
      let walk = c.walk in
      let s = slice_index walk c.start in
      let back = cut walk c.start s (nth_index walk c.start c.inside) in
      let whole : named ns (take c.start walk) ++ at ns s ∷ named ns back.0 ≡ named ns walk =
      sym (named_both ns (take c.start walk) (s ∷ back.0)) ∙ ap (named ns) (ap (λ ys. take c.start walk ++ ys) (sym back.1) ∙ parts walk c.start) in
      let e = slice_index walk (length walk - 1) in
      let some : 0 < length walk = let l = c.inside in omega arith in
      let at_end : length walk - 1 < length walk = omega arith in
      let R = reverse (drop c.start walk) in
      let long : 0 < length cycle = omega (arith, ap length c.is, length-append (drop c.turn R) (take c.turn R), length-drop c.turn R, length-take c.turn R, length-reverse (drop c.start walk), length-drop c.start walk, c.inside) in
      let f = slice_index cycle 0 in
      let inside : AreBelow (length ns) cycle = λ i x ex.
      let of : In R x = elim (in_either (drop c.turn R) (take c.turn R) x i (ap (λ l. nth l i) (sym c.is) ∙ ex)) [
        | inl h ↦ in_drop R c.turn h.0 x h.1
        | inr h ↦ (h.0, (take_nth R c.turn h.0 x h.1).1)
      ] in
      let dropped = in_reverse (drop c.start walk) of.0 x of.1 in
      let stands = in_drop walk c.start dropped.0 x dropped.1 in
      below_walk walk c.is_walk stands.0 x stands.1 in
      record {
        before = named ns (take c.start walk);
        again = at ns s;
        after = named ns back.0;
        end = at ns e;
        walk = subst (walked.IsWalk direct left) (sym whole) (walk_named walk c.is_walk some);
        ends = ap last whole ∙ last_nth (named ns walk) (at ns e) (omega (arith, length_named ns walk))
            (ap (λ n. nth (named ns walk) (n - 1)) (length_named ns walk)
            ∙ in_named ns walk (length walk - 1) e (at ns e) (nth_index walk (length walk - 1) at_end)
            (names walk c.is_walk (length walk - 1) at_end));
        closes = holds e s (at ns e) (at ns s) (names walk c.is_walk (length walk - 1) at_end) (names walk c.is_walk c.start c.inside) c.closes;
        turned = (
          named ns (drop c.turn R),
          named ns (take c.turn R),
          ap (λ l. reverse (named ns l)) (sym back.1) ∙ reverse_named ns (drop c.start walk)
              ∙ ap (named ns) (sym (parts R c.turn)) ∙ named_both ns (take c.turn R) (drop c.turn R),
          ap (named ns) c.is ∙ named_both ns (drop c.turn R) (take c.turn R),
        );
        first = at ns f;
        begins = in_named ns cycle 0 f (at ns f) (nth_index cycle 0 long) (at_there ns f (inside 0 f (nth_index cycle 0 long)));
        least = λ b i j (k, ek) ei ej.
            let q = named_in ns cycle k b inside ek in
            in_order f q.0 i j (at ns f) b (at_there ns f (inside 0 f (nth_index cycle 0 long))) q.2 ei ej (all_at cycle c.least_first k q.0 q.1);
      }
    where
      all_at : (zs : List ℕ) {f : ℕ} → All (λ y. f ≤ y) zs → (k q : ℕ) → nth zs k ≡ Some q → f ≤ q
      all_at zs {f} h k q e = subst (λ y. f ≤ y) (index_nth zs k q e) (h k 0 (nth_within zs k q e))
