-- The steps of a walk.
use Rattle.std.proofs.Common.{◌≡◌, ℕ, ◌+◌, ◌-◌, ◌<◌, ◌≤◌, Bool, true, false, List, [], ◌∷◌, ◌++◌, length, take, drop, reverse, get_or, slice_set}
use Rattle.std.proofs.Common.{replicate, Some, None, Option, inl, inr, refl, sym, ap, subst, ◌∙◌, arith, true≢false, All}
use Rattle.std.specs.List.{IsDistinct}
use Rattle.std.specs.Option.{is_some}
use Rattle.std.proofs.lemmas.Bool.{cases_eq}
use Rattle.std.proofs.lemmas.Cmp.{nat_eq_equiv}
use Rattle.std.proofs.lemmas.List.{get_or_append_left, get_or_push, length_push, length-set, get_or-set_same, get_or-set_other}
use Rattle.std.proofs.lemmas.List.{get_or_default, get_or-replicate, length-replicate}
use Rattle.std.proofs.lemmas.Option.{slice_get_within}
use Rattle.std.proofs.lemmas.Map.Keys.{IsDistinct-push}
use Rattle.std.proofs.lemmas.Map.Steps.{length-le_from_distinct_below}
use Rattle.event_order.specs.declared.graph.Graph.{Graph}
use Rattle.event_order.specs.Order.{has, IsEventGraph}
use Rattle.event_order.specs.Standing.{Standing}
use Rattle.event_order.specs.Cycle.{IsDirect, by_request, by_log, by_time, IsLeast, IsLeft, IsUnmarked, HoldsBack, IsWalk, NoWalk, IsCycle}
use Rattle.event_order.proofs.Members.{has_push_new, has_push_cases, has_push_other}
use Rattle.event_order.proofs.Steps.{log_inside, has_from_place}
use Rattle.event_order.proofs.Walks.{unmarked_left}

-- what comes next: the least node left, or the least one that holds the last one back
pub record IsNext (g : Graph) (xs walk : List ℕ) (next : Option ℕ) : Type 0 where
  pub first : length walk ≡ 0 → IsLeast (IsLeft g xs) next
  pub later : 0 < length walk → IsLeast (HoldsBack g xs (get_or walk (length walk - 1) 0)) next

-- what holds while the walk goes on
pub record Walking (g : Graph) (xs walk : List ℕ) (seen : List Bool) (next : Option ℕ) : Type 0 where
  pub seen_all : length seen ≡ length g.nodes.items
  pub seen_is : (q : ℕ) → q < length g.nodes.items → get_or seen q false ≡ has walk q
  pub is_walk : IsWalk g xs walk
  pub left : (q : ℕ) → has walk q ≡ true → IsLeft g xs q
  pub is_next : IsNext g xs walk next

-- an edge begins at a node
direct_inside : (g : Graph) → IsEventGraph g → (y x : ℕ) → IsDirect g y x → y < length g.nodes.items
direct_inside g graph y x (by_request node is later e) = let l = slice_get_within g.nodes.items x node is in omega (arith, l)
direct_inside g graph y x (by_log node is later e) = log_inside g graph x y node is e
direct_inside g graph y x (by_time i j l at_i at_j direct) = graph.departure i y at_i

module _ (g : Graph) (xs walk : List ℕ) (seen : List Bool) (next : Option ℕ) (w : Walking g xs walk seen next) where
  -- it is left, what comes next
  pub next_left : IsEventGraph g → (x : ℕ) → next ≡ Some x → IsLeft g xs x
  next_left graph x e = elim (cases_eq (length walk) 0) [
    | inl none ↦ (subst (IsLeast (IsLeft g xs)) e (w.is_next.first none)).0
    | inr some ↦
        let held = (subst (IsLeast (HoldsBack g xs (get_or walk (length walk - 1) 0))) e (w.is_next.later (omega (arith, some)))).0 in
        (direct_inside g graph x (get_or walk (length walk - 1) 0) held.0, held.1)
  ]

  -- and within the marks
  pub next_inside : IsEventGraph g → (x : ℕ) → next ≡ Some x → x < length seen
  next_inside graph x e = let l = (next_left graph x e).0 in omega (arith, l, w.seen_all)

  -- its mark says whether the walk has been there
  pub seen_read : IsEventGraph g → (x : ℕ) (v : Bool) → next ≡ Some x → v ≡ get_or seen x v → has walk x ≡ v
  seen_read graph x v e read =
      sym (w.seen_is x (next_left graph x e).0) ∙ get_or_default seen x false v (next_inside graph x e) ∙ sym read

  -- the walk goes on by it
  is_walk_more : (x : ℕ) → next ≡ Some x → has walk x ≡ false → IsWalk g xs (walk ++ x ∷ [])
  is_walk_more x e out = record {
    starts = λ l. elim (cases_eq (length walk) 0) [
      | inl none ↦
          let first : get_or (walk ++ x ∷ []) 0 0 ≡ x = get_or_push walk x 0 0 none in
          subst (IsLeast (IsLeft g xs)) (e ∙ ap (λ n. Some n) (sym first)) (w.is_next.first none)
      | inr some ↦
          let m : 0 < length walk = omega (arith, some) in
          subst (λ n. IsLeast (IsLeft g xs) (Some n)) (sym (get_or_append_left walk (x ∷ []) 0 0 m)) (w.is_walk.starts m)
    ];
    steps = λ k l.
        let more : length (walk ++ x ∷ []) ≡ length walk + 1 = length_push walk x in
        let m : k < length walk = omega arith in
        let here : get_or (walk ++ x ∷ []) k 0 ≡ get_or walk k 0 = get_or_append_left walk (x ∷ []) 0 k m in
        subst (λ n. IsLeast (HoldsBack g xs n) (Some (get_or (walk ++ x ∷ []) (k + 1) 0))) (sym here) (elim (cases_eq (k + 1) (length walk)) [
          | inl end ↦
              let last : length walk - 1 ≡ k = omega arith in
              let new : get_or (walk ++ x ∷ []) (k + 1) 0 ≡ x = get_or_push walk x 0 (k + 1) (sym end) in
              subst (IsLeast (HoldsBack g xs (get_or walk k 0))) (e ∙ ap (λ n. Some n) (sym new))
              (subst (λ i. IsLeast (HoldsBack g xs (get_or walk i 0)) next) last (w.is_next.later (omega arith)))
          | inr ne ↦
              let n : k + 1 < length walk = omega (arith, ne) in
              subst (λ v. IsLeast (HoldsBack g xs (get_or walk k 0)) (Some v)) (sym (get_or_append_left walk (x ∷ []) 0 (k + 1) n)) (w.is_walk.steps k n)
        ]);
    once = IsDistinct-push nat_eq_equiv walk x w.is_walk.once out;
  }

  -- so does all that holds of the walk
  paces : IsEventGraph g → (x : ℕ) (then : Option ℕ) → next ≡ Some x → has walk x ≡ false
      → IsLeast (HoldsBack g xs x) then → Walking g xs (walk ++ x ∷ []) (slice_set seen x true) then
  paces graph x then e out least = record {
    seen_all = length-set seen x true ∙ w.seen_all;
    seen_is = λ q l. elim (cases_eq q x) [
      | inl s ↦
          ap (λ k. get_or (slice_set seen x true) k false) s ∙ get_or-set_same seen x true false (next_inside graph x e)
          ∙ sym (ap (has (walk ++ x ∷ [])) s ∙ has_push_new walk x)
      | inr ne ↦ get_or-set_other seen x q true false ne ∙ w.seen_is q l ∙ sym (has_push_other walk x q ne)
    ];
    is_walk = is_walk_more x e out;
    left = λ q t. elim (has_push_cases walk x q t) [ inl old ↦ w.left q old | inr s ↦ subst (IsLeft g xs) (sym s) (next_left graph x e) ];
    is_next = record {
      first = λ none. absurd (omega (arith, length_push walk x, none));
      later = λ l.
          let more : length (walk ++ x ∷ []) ≡ length walk + 1 = length_push walk x in
          let last : length (walk ++ x ∷ []) - 1 ≡ length walk = omega arith in
          let end : get_or (walk ++ x ∷ []) (length (walk ++ x ∷ []) - 1) 0 ≡ x =
          ap (λ i. get_or (walk ++ x ∷ []) i 0) last ∙ get_or_push walk x 0 (length walk) refl in
          subst (λ n. IsLeast (HoldsBack g xs n) then) (sym end) least;
    };
  }

  -- the same of the list that was pushed
  pub paces_to : IsEventGraph g → (x : ℕ) (then : Option ℕ) (ys : List ℕ) → ys ≡ walk ++ x ∷ [] → next ≡ Some x → has walk x ≡ false
      → IsLeast (HoldsBack g xs x) then → Walking g xs ys (slice_set seen x true) then
  paces_to graph x then ys pushed e out least =
      subst (λ zs. Walking g xs zs (slice_set seen x true) then) (sym pushed) (paces graph x then e out least)

  -- where nothing comes next, nothing holds back the last node
  pub ends_nowhere : next ≡ None → NoWalk g xs
  ends_nowhere e = elim (cases_eq (length walk) 0) [
    | inl none ↦ inl (subst (IsLeast (IsLeft g xs)) e (w.is_next.first none))
    | inr some ↦
        let m : 0 < length walk = omega (arith, some) in
        let k : length walk - 1 < length walk = omega arith in
        let held = subst (IsLeast (HoldsBack g xs (get_or walk (length walk - 1) 0))) e (w.is_next.later m) in
        inr (get_or walk (length walk - 1) 0, w.left _ (has_from_place walk (length walk - 1) k), held)
  ]

  -- where a node of the walk comes next, there is a cycle
  pub closes : (x start turn : ℕ) (cycle : List ℕ) → next ≡ Some x → start < length walk → get_or walk start 0 ≡ x
      → cycle ≡ drop turn (reverse (drop start walk)) ++ take turn (reverse (drop start walk))
      → All (λ y. get_or cycle 0 0 ≤ y) cycle → IsCycle g xs cycle
  closes x start turn cycle e l at is least = record {
    walk = walk;
    is_walk = w.is_walk;
    start = start;
    inside = l;
    closes = subst (IsLeast (HoldsBack g xs (get_or walk (length walk - 1) 0))) (e ∙ ap (λ n. Some n) (sym at)) (w.is_next.later (omega arith));
    turn = turn;
    is = is;
    least_first = least;
  }

-- the nodes of a walk are few
walk_few : (g : Graph) (xs walk : List ℕ) (seen : List Bool) (next : Option ℕ) → Walking g xs walk seen next → length walk ≤ length g.nodes.items
walk_few g xs walk seen next w = length-le_from_distinct_below walk (length g.nodes.items) w.is_walk.once (λ q t. (w.left q t).0)

-- so it ends
pub paces_closer : (g : Graph) (xs walk : List ℕ) (seen : List Bool) (next : Option ℕ) → Walking g xs walk seen next
    → (x : ℕ) (more : List ℕ) (marks : List Bool) (then : Option ℕ) → more ≡ walk ++ x ∷ [] → Walking g xs more marks then
    → length g.nodes.items - length more < length g.nodes.items - length walk
paces_closer g xs walk seen next w x more marks then pushed on =
    let longer : length more ≡ length walk + 1 = ap length pushed ∙ length_push walk x in
    omega (arith, walk_few g xs more marks then on)

-- the start
pub starts : (g : Graph) (xs : List ℕ) (seen : List Bool) (next : Option ℕ) → seen ≡ replicate (length g.nodes.items) false
    → IsLeast (IsLeft g xs) next → Walking g xs [] seen next
unfolding IsDistinct
starts g xs seen next all least = record {
  seen_all = ap length all ∙ length-replicate (length g.nodes.items) false;
  seen_is = λ q l. ap (λ ms. get_or ms q false) all ∙ get_or-replicate (length g.nodes.items) q false false l;
  is_walk = record { starts = λ l. absurd (omega arith); steps = λ k l. absurd (omega arith); once = tt };
  left = λ q t. absurd (true≢false (sym t));
  is_next = record { first = λ e. least; later = λ l. absurd (omega arith) };
}

-- no walk begins where no node is left
pub nothing_left : (g : Graph) (xs : List ℕ) (marks : List Bool) (f : ℕ → Bool) (p : ℕ) → Standing g xs marks f p
    → (least : Option ℕ) → IsLeast (IsUnmarked marks) least → is_some least ≡ false → NoWalk g xs
nothing_left g xs marks f p holds None is none = inl (unmarked_left g xs marks f p holds None is)
nothing_left g xs marks f p holds (Some x) is none = absurd (true≢false none)
