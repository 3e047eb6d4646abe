-- A node that no edge of the walk holds back is free.
use Rattle.std.proofs.Common.{◌≡◌, ℕ, zero, suc, ◌+◌, ◌<◌, ◌≤◌, true, false, List, length, inl, inr, sym, ap, subst, ◌∙◌, arith}
use Rattle.std.proofs.lemmas.Bool.{cases_lt, cases_Bool, true_from_ne_false}
use Rattle.event_order.specs.declared.graph.Graph.{Graph}
use Rattle.event_order.specs.declared.graph.Node.{Node}
use Rattle.event_order.specs.declared.graph.Event.TheVariants.{Departure}
use Rattle.event_order.specs.Order.{NodeIs, EventIs, Precedes, in_request, in_log, in_time, has, IsPlaced, IsOrder, IsEventGraph}
use Rattle.event_order.specs.Cycle.{IsDirect, by_request, by_log, by_time, HoldsBack, NoWalk}
use Rattle.event_order.specs.Thin.{IsThin}
use Rattle.event_order.proofs.Steps.{no_log_at, place_of, has_take}

-- what precedes a placed node is placed
closed : (g : Graph) (xs : List ℕ) → IsPlaced g xs → (y x : ℕ) → has xs x ≡ true → Precedes g y x → has xs y ≡ true
closed g xs placed y x t before =
    let i = place_of xs x t in
    has_take xs i.0 y ((placed i.0 i.1).free.ready y (subst (Precedes g y) (sym i.2) before))

-- so are the nodes before it in its request
first_placed : (g : Graph) (xs : List ℕ) → IsPlaced g xs → (a m : ℕ)
    → ((n : ℕ) → n < m → (node : Node) × NodeIs g (a + (n + 1)) node × (node.is_arrival ≡ false)) → has xs (a + m) ≡ true → has xs a ≡ true
first_placed g xs placed a zero nodes t = let e : a + 0 ≡ a = omega arith in sym (ap (has xs) e) ∙ t
first_placed g xs placed a (suc m) nodes t =
    let node = nodes m (omega arith) in
    let e : a + suc m ≡ a + (m + 1) = omega arith in
    first_placed g xs placed a m (λ n l. nodes n (omega arith))
    (closed g xs placed (a + m) (a + (m + 1)) (sym (ap (has xs) e) ∙ t) (in_request node.0 node.1 node.2 (omega arith)))

module _ (g : Graph) (xs : List ℕ) (graph : IsEventGraph g) (thin : IsThin g) (placed : IsPlaced g xs) (x : ℕ) (none : (y : ℕ) → ¬ HoldsBack g xs x y) where
  direct : (y : ℕ) → IsDirect g y x → has xs y ≡ true
  direct y d = true_from_ne_false (has xs y) (λ out. none y (d, out))

  -- by the time left between the two
  departed : (f i : ℕ) (y : ℕ) (node : Node) → NodeIs g x node → node.is_arrival ≡ true → EventIs g i (Departure y)
      → i < node.at → node.at ≤ i + f → has xs y ≡ true
  departed zero i y node is arrives at l m = absurd (omega arith)
  departed (suc f) i y node is arrives at l m = elim (cases_lt i node.since) [
    | inr high ↦
        direct y (by_time i node.at l at (graph.arrives x node is arrives) (λ between. omega (arith, high, thin.kept x node i is arrives between)))
    | inl low ↦
        let r = thin.cut x node i y is arrives at low in
        let last = departed f r.departed (r.node + r.more) node is arrives r.request.departure r.before (omega (arith, r.after, r.inner)) in
        closed g xs placed y r.node (first_placed g xs placed r.node r.more r.request.nodes last) (in_time i r.arrived r.after at r.request.arrival)
  ]

  ready : (y : ℕ) → Precedes g y x → has xs y ≡ true
  ready y (in_request node is later e) = direct y (by_request node is later e)
  ready y (in_log node is e) = elim (cases_Bool node.is_arrival) [
    | inl t ↦
        absurd (no_log_at g graph node.at x y node (graph.arrives x node is t) is e)
    | inr t ↦ direct y (by_log node is t e)
  ]
  ready y (in_time i j l at_i at_j) =
      let a = graph.arrival j x at_j in
      let here = graph.arrives x a.0 a.1 a.2 in
      let e : a.0.at ≡ j = a.4 in
      departed a.0.at i y a.0 a.1 a.2 at_i (omega arith) (omega arith)

pub no_cycle_none_left : (g : Graph) (xs : List ℕ) → IsEventGraph g → IsThin g → IsOrder g xs → NoWalk g xs
    → (x : ℕ) → x < length g.nodes.items → has xs x ≡ true
no_cycle_none_left g xs graph thin order (inl none) x l = true_from_ne_false (has xs x) (λ out. none x (l, out))
no_cycle_none_left g xs graph thin order (inr found) x l =
    absurd (order.ended found.0 (record { inside = found.1.0; left = found.1.1; ready = ready g xs graph thin order.placed found.0 found.2 }))
