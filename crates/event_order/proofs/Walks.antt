-- The least node that holds another back.
use Rattle.std.proofs.Common.{◌≡◌, ℕ, zero, suc, ◌+◌, ◌-◌, ◌<◌, ◌≤◌, min, Bool, true, false, List, length, get_or, Some, None, Option}
use Rattle.std.proofs.Common.{◌⊎◌, inl, inr, refl, sym, ap, subst, ◌∙◌, arith, true≢false}
use Rattle.std.proofs.lemmas.Bool.{cases_lt}
use Rattle.std.proofs.lemmas.List.{get_or_default}
use Rattle.std.proofs.lemmas.Option.{slice_get_within, slice_get-get_or, get_or_from_slice_get}
use Rattle.event_order.specs.declared.graph.Graph.{Graph}
use Rattle.event_order.specs.declared.graph.Node.{Node}
use Rattle.event_order.specs.declared.graph.Event.TheVariants.{Arrival}
use Rattle.event_order.specs.Order.{NodeIs, EventIs, has, IsEventGraph}
use Rattle.event_order.specs.Standing.{Standing}
use Rattle.event_order.specs.Thin.{LiesBetween, IsThin}
use Rattle.event_order.specs.Cycle.{IsDirect, by_request, by_log, by_time, IsLeast, IsLeft, IsUnmarked, HoldsBack, considered}
use Rattle.event_order.specs.Window.{IsDeparted}
use Rattle.event_order.proofs.Steps.{same_node, once, not_later, not_arriving}

-- of the same numbers, the same least
pub least_same : (P Q : ℕ → Type 0) (least : Option ℕ) → IsLeast P least → ((y : ℕ) → P y → Q y) → ((y : ℕ) → Q y → P y) → IsLeast Q least
least_same P Q None h to from = λ y q. h y (from y q)
least_same P Q (Some z) h to from = (to z h.0, λ y q. h.1 y (from y q))

-- one more number, where b is false
consider_more : (P Q : ℕ → Type 0) (b : Bool) (least : Option ℕ) (x : ℕ) → IsLeast P least
    → ((y : ℕ) → P y → Q y) → (b ≡ false → Q x) → ((y : ℕ) → Q y → P y ⊎ ((y ≡ x) × (b ≡ false))) → IsLeast Q (considered b least x)
consider_more P Q true None x h to new from = λ y q. elim (from y q) [ inl p ↦ h y p | inr e ↦ true≢false e.1 ]
consider_more P Q true (Some z) x h to new from = (to z h.0, λ y q. elim (from y q) [ inl p ↦ h.1 y p | inr e ↦ absurd (true≢false e.1) ])
consider_more P Q false None x h to new from = (new refl, λ y q. elim (from y q) [ inl p ↦ absurd (h y p) | inr e ↦ let s : y ≡ x = e.0 in omega arith ])
consider_more P Q false (Some z) x h to new from = (
  elim (cases_lt z x) [
    | inl l ↦ let e : z ≡ min z x = omega arith in subst Q e (to z h.0)
    | inr l ↦ let e : x ≡ min z x = omega arith in subst Q e (new refl)
  ],
  λ y q. elim (from y q) [
    | inl p ↦ let l = h.1 y p in omega (arith, l)
    | inr e ↦ let s : y ≡ x = e.0 in omega arith
  ],
)

-- a mark, read at any default
pub marked_read : (g : Graph) (xs : List ℕ) (marks : List Bool) (f : ℕ → Bool) (p : ℕ) → Standing g xs marks f p
    → (x : ℕ) (d : Bool) → x < length g.nodes.items → get_or marks x d ≡ has xs x
marked_read g xs marks f p holds x d l = get_or_default marks x d false (omega (arith, holds.marks_all)) ∙ holds.marked x l

-- the least without a mark is the least that is left
pub unmarked_left : (g : Graph) (xs : List ℕ) (marks : List Bool) (f : ℕ → Bool) (p : ℕ) → Standing g xs marks f p
    → (least : Option ℕ) → IsLeast (IsUnmarked marks) least → IsLeast (IsLeft g xs) least
unmarked_left g xs marks f p holds least is = least_same (IsUnmarked marks) (IsLeft g xs) least is
    (λ x mark.
    let l : x < length g.nodes.items = omega (arith, holds.marks_all, slice_get_within marks x false mark) in
    (l, sym (holds.marked x l) ∙ get_or_from_slice_get marks x false false mark))
    (λ x left.
    let l : x < length marks = omega (arith, holds.marks_all, left.0) in
    slice_get-get_or marks x false l ∙ ap (λ b. Some b) (holds.marked x left.0 ∙ left.1))

module _ (g : Graph) (xs : List ℕ) (graph : IsEventGraph g) (x : ℕ) (node : Node) (is : NodeIs g x node) where
  -- what holds an arrival back
  pub departed_holds : IsThin g → (least : Option ℕ) → node.is_arrival ≡ true
      → IsLeast (IsDeparted g xs node.since node.at) least → IsLeast (HoldsBack g xs x) least
  departed_holds thin least arrives h = least_same (IsDeparted g xs node.since node.at) (HoldsBack g xs x) least h
      (λ y d. (by_time d.0 node.at d.2 d.3 here (λ between. omega (arith, d.1, thin.kept x node d.0 is arrives between)), d.4))
      (λ y b. back y b.0 b.1)
    where
      here : EventIs g node.at (Arrival x)
      here = graph.arrives x node is arrives

      back : (y : ℕ) → IsDirect g y x → has xs y ≡ false → IsDeparted g xs node.since node.at y
      back y (by_request other o later e) out = absurd (not_later g x node other is arrives o later)
      back y (by_log other o later e) out = absurd (not_later g x node other is arrives o later)
      back y (by_time i j l at_i at_j direct) out =
          let e : node.at ≡ j = once g graph node.at j x here at_j in
          let low : node.since ≤ i = elim (cases_lt i node.since) [
            | inl cut ↦ absurd (direct (subst (λ n. LiesBetween g i n) e (thin.cut x node i y is arrives at_i cut)))
            | inr kept ↦ kept
          ] in
          (i, low, omega arith, at_i, out)

  -- a node that holds it back in its request
  abbrev InRequest : ℕ → Type 0
  InRequest y = (y + 1 ≡ x) × (has xs y ≡ false)

  -- the node before it in its request
  request_holds : (b : Bool) → 1 ≤ x → b ≡ has xs (x - 1) → IsLeast InRequest (considered b None (x - 1))
  request_holds b l mark = consider_more (λ y. ⊥) InRequest b None (x - 1) (λ y bad. bad) (λ y bad. absurd bad)
      (λ out. (omega arith, sym mark ∙ out))
      (λ y q. let e : y ≡ x - 1 = omega (arith, q.0) in inr (e, mark ∙ ap (has xs) (sym e) ∙ q.1))

  -- what holds another node back, with no log
  pub no_log_holds : (b : Bool) → node.is_arrival ≡ false → node.log_before ≡ None → 1 ≤ x → b ≡ has xs (x - 1)
      → IsLeast (HoldsBack g xs x) (considered b None (x - 1))
  no_log_holds b later none l mark = least_same InRequest (HoldsBack g xs x) (considered b None (x - 1)) (request_holds b l mark)
      (λ y q. (by_request node is later q.0, q.1))
      (λ y h. back y h.0 h.1)
    where
      back : (y : ℕ) → IsDirect g y x → has xs y ≡ false → InRequest y
      back y (by_request other o l e) out = (e, out)
      back y (by_log other o l e) out = let bad : None ≡ Some y = sym none ∙ ap (λ n. n.log_before) (same_node g x node other is o) ∙ e in cc
      back y (by_time i j l at_i at_j direct) out = absurd (not_arriving g graph j x node at_j is later)

  -- and with one
  pub log_holds : (y : ℕ) (b c : Bool) → node.is_arrival ≡ false → node.log_before ≡ Some y → 1 ≤ x → b ≡ has xs (x - 1) → c ≡ has xs y
      → IsLeast (HoldsBack g xs x) (considered c (considered b None (x - 1)) y)
  log_holds y b c later some l mark other_mark =
      consider_more InRequest (HoldsBack g xs x) c (considered b None (x - 1)) y (request_holds b l mark)
      (λ z q. (by_request node is later q.0, q.1))
      (λ out. (by_log node is later some, sym other_mark ∙ out))
      (λ z h. back z h.0 h.1)
    where
      back : (z : ℕ) → IsDirect g z x → has xs z ≡ false → InRequest z ⊎ ((z ≡ y) × (c ≡ false))
      back z (by_request other o l e) out = inl (e, out)
      back z (by_log other o l e) out =
          let s : Some y ≡ Some z = sym some ∙ ap (λ n. n.log_before) (same_node g x node other is o) ∙ e in
          let same : z ≡ y = cc in
          inr (same, other_mark ∙ ap (has xs) (sym same) ∙ out)
      back z (by_time i j l at_i at_j direct) out = absurd (not_arriving g graph j x node at_j is later)

-- a node that is no arrival has one before it
pub later_above : (g : Graph) → IsEventGraph g → (x : ℕ) (node : Node) → NodeIs g x node → node.is_arrival ≡ false → 1 ≤ x
later_above g graph zero node is later = absurd (true≢false (sym (graph.first node is) ∙ later))
later_above g graph (suc x) node is later = omega arith
