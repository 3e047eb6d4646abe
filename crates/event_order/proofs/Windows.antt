-- The window on the trace, as its ends rise.
use Rattle.std.proofs.Common.{◌≡◌, ℕ, ◌+◌, ◌<◌, ◌≤◌, Bool, true, false, List, [], ◌∷◌, ◌++◌, length, Some, None, Option, Bor, IsSome, IfSome, IsTrue}
use Rattle.std.proofs.Common.{get_or, inl, inr, sym, ap, subst, ◌∙◌, arith, true≢false}
use Rattle.std.proofs.lemmas.Bool.{cases_eq}
use Rattle.std.proofs.lemmas.List.{get_or_push, get_or_append_left, length_push}
use Rattle.std.proofs.lemmas.Option.{slice_get-get_or, slice_get_within, get_or_from_slice_get}
use Rattle.std.proofs.lemmas.Map.Keys.{le_from_not_gt}
use Rattle.std.specs.BTreeSet.{BTreeSet, contains, IsLowerBound}
use Rattle.std.specs.Option.{option_copied}
use Rattle.std.specs.Ordering.{nat_cmp}
use Rattle.event_order.specs.declared.placing.Placing.{Placing}
use Rattle.event_order.specs.declared.window.Window.{Window}
use Rattle.event_order.specs.declared.graph.Graph.{Graph}
use Rattle.event_order.specs.declared.graph.Node.{Node}
use Rattle.event_order.specs.declared.graph.Event.TheVariants.{Arrival, Departure}
use Rattle.event_order.specs.Order.{NodeIs, EventIs, has, IsEventGraph}
use Rattle.event_order.specs.Thin.{IsThin}
use Rattle.event_order.specs.Cycle.{IsLeast}
use Rattle.event_order.specs.Window.{IsDeparted, HasDeparted, IsWindow, Slides, IsLeastDeparted, AreLeastDeparted}
use Rattle.event_order.proofs.Members.{Enters, Leaves}
use Rattle.event_order.proofs.Steps.{same_node, same_departure, not_both}
use Rattle.event_order.proofs.Walks.{least_same}

module _ (g : Graph) (xs : List ℕ) where
  -- a node that is not placed comes in
  departure_enters : (set more : ℕ → Bool) (i j y : ℕ) → i ≤ j → EventIs g j (Departure y) → has xs y ≡ false
      → Enters set more y → HasDeparted g xs set i j → HasDeparted g xs more i (j + 1)
  departure_enters set more i j y l at left enters window = record {
    each = λ q d. elim (cases_eq d.0 j) [
      | inl last ↦
          let same : q ≡ y = same_departure g j q y (subst (λ k. EventIs g k (Departure q)) last d.3) at in
          ap more same ∙ enters.there
      | inr ne ↦ enters.kept q (window.each q (d.0, d.1, omega (arith, ne, d.2), d.3, d.4))
    ];
    only = λ q t. elim (enters.only q t) [
      | inl old ↦ let d = window.only q old in (d.0, d.1, omega (arith, d.2), d.3, d.4)
      | inr same ↦ subst (IsDeparted g xs i (j + 1)) (sym same) (j, l, omega arith, at, left)
    ];
  }

  -- nothing does, where no node that is left departs
  nothing_enters : (set : ℕ → Bool) (i j : ℕ) → ((y : ℕ) → EventIs g j (Departure y) → has xs y ≡ true)
      → HasDeparted g xs set i j → HasDeparted g xs set i (j + 1)
  nothing_enters set i j none window = record {
    each = λ q d. elim (cases_eq d.0 j) [
      | inl last ↦ absurd (true≢false (sym (none q (subst (λ k. EventIs g k (Departure q)) last d.3)) ∙ d.4))
      | inr ne ↦ window.each q (d.0, d.1, omega (arith, ne, d.2), d.3, d.4)
    ];
    only = λ q t. let d = window.only q t in (d.0, d.1, omega (arith, d.2), d.3, d.4);
  }

  -- a node that departs at the start goes, and departs nowhere else
  pub departure_leaves : IsEventGraph g → (set less : ℕ → Bool) (i j y : ℕ) → EventIs g i (Departure y)
      → Leaves set less y → HasDeparted g xs set i j → HasDeparted g xs less (i + 1) j
  departure_leaves graph set less i j y at leaves window = record {
    each = λ q d.
        let apart : ¬ (q ≡ y) = λ same.
        let e = graph.departs_once i d.0 y at (subst (λ n. EventIs g d.0 (Departure n)) same d.3) in omega (arith, d.1) in
        leaves.others q apart ∙ window.each q (d.0, omega (arith, d.1), d.2, d.3, d.4);
    only = λ q t.
        let apart : ¬ (q ≡ y) = λ same. true≢false (sym t ∙ ap less same ∙ leaves.gone) in
        let d = window.only q (sym (leaves.others q apart) ∙ t) in
        let later : ¬ (d.0 ≡ i) = λ e. apart (same_departure g i q y (subst (λ k. EventIs g k (Departure q)) e d.3) at) in
        (d.0, omega (arith, d.1, later), d.2, d.3, d.4);
  }

  -- nothing goes where none departs
  pub nothing_leaves : (set : ℕ → Bool) (i j : ℕ) → ((y : ℕ) → ¬ EventIs g i (Departure y))
      → HasDeparted g xs set i j → HasDeparted g xs set (i + 1) j
  nothing_leaves set i j none window = record {
    each = λ q d. window.each q (d.0, omega (arith, d.1), d.2, d.3, d.4);
    only = λ q t.
        let d = window.only q t in
        let later : ¬ (d.0 ≡ i) = λ e. none q (subst (λ k. EventIs g k (Departure q)) e d.3) in
        (d.0, omega (arith, d.1, later), d.2, d.3, d.4);
  }

  -- the least of the set is the least that departs
  least_departs : (set : ℕ → Bool) (i j : ℕ) (least : Option ℕ) → HasDeparted g xs set i j
      → IsLeast (λ y. set y ≡ true) least → IsLeast (IsDeparted g xs i j) least
  least_departs set i j least window is = least_same (λ y. set y ≡ true) (IsDeparted g xs i j) least is window.only window.each

module _ (g : Graph) (s : Placing) where
  -- at an arrival, whose node says where its window starts
  pub arrival_least : IsEventGraph g → (w v : Window) (j x : ℕ) (node : Node) (least : Option ℕ) → EventIs g j (Arrival x) → NodeIs g x node
      → IsWindow g s w j → Slides g w v node.since → IsLeast (λ y. contains nat_cmp v.left y ≡ true) least → IsLeastDeparted g s j least
  arrival_least graph w v j x node least at is window slides found z other there arrives place =
      let here = graph.arrives z other there arrives in
      let e : Some (Arrival z) ≡ Some (Arrival x) = sym (subst (λ k. EventIs g k (Arrival z)) place here) ∙ at in
      let same : z ≡ x = cc in
      let one : node ≡ other = same_node g x node other is (subst (λ k. NodeIs g k other) same there) in
      let low : node.since ≤ j = omega (arith, graph.since z other there arrives, ap (λ n. n.since) one, place) in
      subst (λ n. IsLeast (IsDeparted g s.order.items n.since j) least) one
      (least_departs g s.order.items (contains nat_cmp v.left) node.since j least (slides s.order.items j low window.departed) found)

  -- an arrival at the end
  pub arrival_taken_in : IsEventGraph g → IsThin g → (w v : Window) (j x : ℕ) (node : Node) → EventIs g j (Arrival x) → NodeIs g x node
      → IsWindow g s w j → v.start ≡ node.since → Slides g w v node.since → IsWindow g s v (j + 1)
  arrival_taken_in graph thin w v j x node at is window start slides =
      let here = graph.arrival j x at in
      let one : here.0 ≡ node = same_node g x here.0 node here.1 is in
      let arrives : node.is_arrival ≡ true = sym (ap (λ n. n.is_arrival) one) ∙ here.2 in
      let place : node.at ≡ j = sym (ap (λ n. n.at) one) ∙ here.4 in
      let low : node.since ≤ j = omega (arith, graph.since x node is arrives) in
      record {
        in_order = omega arith;
        departed = subst (λ k. HasDeparted g s.order.items (contains nat_cmp v.left) k (j + 1)) (sym start)
            (nothing_enters g s.order.items (contains nat_cmp v.left) node.since j
            (λ y d. absurd (not_both g j x y at d)) (slides s.order.items j low window.departed));
        behind = λ y other there later l. let k = thin.rises x y node other is there arrives later (omega arith) in omega (arith, k);
      }

  -- a departure of a node that is not placed
  pub departure_taken_in : (w : Window) (more : BTreeSet ℕ) (j y : ℕ) → EventIs g j (Departure y) → has s.order.items y ≡ false
      → Enters (contains nat_cmp w.left) (contains nat_cmp more) y → IsWindow g s w j → IsWindow g s (record w { left = more }) (j + 1)
  departure_taken_in w more j y at left enters window = record {
    in_order = omega (arith, window.in_order);
    departed = departure_enters g s.order.items (contains nat_cmp w.left) (contains nat_cmp more) w.start j y window.in_order at left enters window.departed;
    behind = λ x node is arrives l. window.behind x node is arrives (omega arith);
  }

  -- and of one that is placed
  pub departure_passed : (w : Window) (j y : ℕ) → EventIs g j (Departure y) → has s.order.items y ≡ true → IsWindow g s w j → IsWindow g s w (j + 1)
  departure_passed w j y at placed window = record {
    in_order = omega (arith, window.in_order);
    departed = nothing_enters g s.order.items (contains nat_cmp w.left) w.start j
        (λ q d. ap (has s.order.items) (same_departure g j q y d at) ∙ placed) window.departed;
    behind = λ x node is arrives l. window.behind x node is arrives (omega arith);
  }

  -- a departure is no arrival
  pub departure_least : IsEventGraph g → (j y : ℕ) → EventIs g j (Departure y) → IsLeastDeparted g s j None
  departure_least graph j y at z other there arrives place =
      absurd (not_both g j z y (subst (λ k. EventIs g k (Arrival z)) place (graph.arrives z other there arrives)) at)

  -- the list of the least nodes goes on by one
  pub leasts_next : (leasts more : List (Option ℕ)) (least : Option ℕ) (end : ℕ) → AreLeastDeparted g s leasts → length leasts ≡ end
      → IsLeastDeparted g s end least → more ≡ leasts ++ least ∷ [] → AreLeastDeparted g s more × (length more ≡ end + 1)
  leasts_next leasts more least end all len last pushed = (each, ap length pushed ∙ length_push leasts least ∙ ap (λ n. n + 1) len)
    where
      each : AreLeastDeparted g s more
      each i found at =
          let here : get_or (leasts ++ least ∷ []) i None ≡ found = ap (λ ls. get_or ls i None) (sym pushed) ∙ get_or_from_slice_get more i found None at in
          let within : i < length more = slice_get_within more i found at in
          elim (cases_eq i end) [
            | inl e ↦
                let same : least ≡ found = sym (get_or_push leasts least None i (len ∙ sym e)) ∙ here in
                subst (IsLeastDeparted g s i) same (subst (λ n. IsLeastDeparted g s n least) (sym e) last)
            | inr ne ↦
                let below : i < length leasts = omega (arith, ne, len, within, ap length pushed, length_push leasts least) in
                let same : get_or leasts i None ≡ found = sym (get_or_append_left leasts (least ∷ []) None i below) ∙ here in
                all i found (slice_get-get_or leasts i None below ∙ ap (λ o. Some o) same)
          ]

-- what the clauses of a set's `first` say
pub first_is_least : (s : BTreeSet ℕ) (first : Option (Bor ℕ)) → (IsSome first → 0 < length s.keys) × (0 < length s.keys → IsSome first)
    → IfSome first (λ k. IsTrue (contains nat_cmp s k.now)) → IfSome first (λ k. IsLowerBound nat_cmp s k.now)
    → IsLeast (λ y. contains nat_cmp s y ≡ true) (option_copied first)
first_is_least s None some member least = λ y t. go s.keys y t some.1
  where
    go : (ks : List ℕ) (y : ℕ) → contains nat_cmp (record { keys = ks }) y ≡ true → (0 < length ks → IsSome {T = Bor ℕ} None) → ⊥
    go [] y t some = true≢false (sym t)
    go (k ∷ ks) y t some = true≢false (sym (some (omega arith)))
first_is_least s (Some k) some member least = (member, λ y t. le_from_not_gt k.now y (least y t))
