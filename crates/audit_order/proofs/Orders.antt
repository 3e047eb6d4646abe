-- The order of a graph's numbers is that of the nodes which they name.
use Rattle.std.proofs.Common.{◌≡◌, ◌∙◌, ℕ, ◌<◌, List, length, take, Some, ap, sym, subst, arith, true≢false}
use Rattle.basis.specs.Lists.{nth}
use Rattle.audit_meaning.specs.Edges.{Edge}
use Rattle.audit_meaning.specs.declared.node.Node.{Node}
use Rattle.audit_meaning.specs.Placed.{IsIn, MayComeNext, ComesNext}
use Rattle.audit_meaning.specs.Placed as placed
use Rattle.audit_meaning.proofs.Places.{Apart}
use Rattle.basis.proofs.Places.{nth_within, take_nth}
use Rattle.event_order.specs.Order.{IsFree, IsLeastFree, IsPlaced, IsOrder}
use Rattle.event_order.specs.declared.graph.Graph.{Graph}
use Rattle.event_order.proofs.Agreement.{proper}
use Rattle.audit_order.specs.Mirrors.{at, named, Mirrors}
use Rattle.audit_order.proofs.Images.{index_nth, in_has, has_in, not_has, AreBelow, at_there, in_named, named_in, take_named}

pub below : (all direct : List Edge) (ns : List Node) (g : Graph) (xs : List ℕ) → Mirrors all direct ns g → IsPlaced g xs → AreBelow (length ns) xs
below all direct ns g xs m p i x e = let lt = (proper g xs p).inside x (in_has xs i x e) in omega (arith, m.count, lt)

below_take : (n : ℕ) (xs : List ℕ) (k : ℕ) → AreBelow n xs → AreBelow n (take k xs)
below_take n xs k h i x e = h i x (take_nth xs k i x e).1

-- a free number names a node that may come next
pub may_come : (all direct : List Edge) (ns : List Node) (g : Graph) (xs : List ℕ) (x : ℕ) (b : Node) → Apart ns
    → Mirrors all direct ns g → AreBelow (length ns) xs → nth ns x ≡ Some b → IsFree g xs x
    → MayComeNext all ns (named ns xs) b
may_come all direct ns g xs x b apart m below e free = record {
  there = (x, e);
  left = λ (i, f).
      let q = named_in ns xs i b below f in
      let same : q.0 ≡ x = apart b q.0 x q.2 e in
      true≢false (sym (in_has xs i x (q.1 ∙ ap (λ y. Some y) same)) ∙ free.left);
  ready = λ a (y, f) edge.
      let placed = has_in xs y (free.ready y (m.edge_back y x a b f e edge)) in
      (placed.0, in_named ns xs placed.0 y a placed.1 f);
}

-- and the other way round
pub is_free : (all direct : List Edge) (ns : List Node) (g : Graph) (xs : List ℕ) (x : ℕ) (b : Node) → Apart ns
    → Mirrors all direct ns g → AreBelow (length ns) xs → nth ns x ≡ Some b → MayComeNext all ns (named ns xs) b
    → IsFree g xs x
is_free all direct ns g xs x b apart m below e may = record {
  inside = omega (arith, m.count, nth_within ns x b e);
  left = not_has xs x (λ i f. may.left (i, in_named ns xs i x b f e));
  ready = λ y precedes.
      let a = at_there ns y (m.inside y x precedes) in
      let placed = may.ready (at ns y) (y, a) (m.edge y x (at ns y) b a e precedes) in
      let q = named_in ns xs placed.0 (at ns y) below placed.1 in
      let same : q.0 ≡ y = apart (at ns y) q.0 y q.2 a in
      in_has xs placed.0 y (q.1 ∙ ap (λ z. Some z) same);
}

pub order_named : (all direct : List Edge) (ns : List Node) (g : Graph) (xs : List ℕ) → Apart ns
    → Mirrors all direct ns g → IsOrder g xs → placed.IsOrder all ns (named ns xs)
order_named all direct ns g xs apart m order = record {
  placed = λ k b e.
      let q = named_in ns xs k b inside e in
      let lt : k < length xs = nth_within xs k q.0 q.1 in
      let least : IsLeastFree g (take k xs) q.0 = subst (IsLeastFree g (take k xs)) (index_nth xs k q.0 q.1) (order.placed k lt) in
      let some = below_take (length ns) xs k inside in
      subst (λ ys. ComesNext all ns ys b) (sym (take_named ns xs k)) (record {
        may = may_come all direct ns g (take k xs) q.0 b apart m some q.2 least.free;
        least = λ y i j may ei ej.
            let same : q.0 ≡ i = apart b q.0 i q.2 ei in
            let le = least.least j (is_free all direct ns g (take k xs) j y apart m some ej may) in
            omega (arith, same, le);
      });
  ended = λ b may. order.ended may.there.0 (is_free all direct ns g xs may.there.0 b apart m inside may.there.1 may);
}
  where
    inside : AreBelow (length ns) xs
    inside = below all direct ns g xs m order.placed
