-- What the set has while a node is taken out and placed, and its successors are offered.
use Rattle.std.proofs.Common.{◌≡◌, ℕ, ◌+◌, true, false, List, [], ◌∷◌, ◌++◌, Some, None, IsTrue, inl, inr, sym, ap, subst, ◌∙◌, true≢false}
use Rattle.std.proofs.lemmas.Bool.{cases_eq}
use Rattle.std.proofs.lemmas.Map.Keys.{le_from_not_gt}
use Rattle.std.specs.BTreeSet.{BTreeSet, contains, IsLowerBound, Updates}
use Rattle.std.specs.Ordering.{nat_cmp}
use Rattle.event_order.specs.declared.graph.Graph.{Graph}
use Rattle.event_order.specs.declared.graph.Node.{Node}
use Rattle.event_order.specs.declared.placing.Placing.{Placing}
use Rattle.event_order.specs.Order.{NodeIs, IsFree, IsEventGraph}
use Rattle.event_order.specs.Standing.{Covering, IsCovering, IsSettled, IsTaken, IsLater, Grows, Offers, OffersLog}
use Rattle.event_order.proofs.Members.{Leaves, set_leaves}
use Rattle.event_order.proofs.Steps.{places_covers, same_node}

pub offered : (g : Graph) (s0 s1 s2 s3 : Placing) (x : ℕ) → IsEventGraph g → IsTaken g s0 x
    → s1.order.items ≡ s0.order.items ++ x ∷ [] → s1.free ≡ s0.free → s1.passed ≡ s0.passed
    → Grows s1 s2 → Offers g s2 (x + 1) → Grows s2 s3 → OffersLog g s3 x → IsCovering g s3
offered g s0 s1 s2 s3 x graph taken pushed same_set same_place grows next more log =
    subst (λ (n : ℕ). Covering g s3.order.items (contains nat_cmp s3.free) n) (sym (more.passed ∙ grows.passed ∙ same_place))
    (subst (λ (zs : List ℕ). Covering g zs (contains nat_cmp s3.free) s0.passed) (sym last)
    (places_covers g s0.order.items s0.is_placed.items (contains nat_cmp s0.free) s0.passed x graph taken (contains nat_cmp s3.free)
    (λ q t. more.kept q (grows.kept q (ap (λ s. contains nat_cmp s q) same_set ∙ t)))
    (λ q e later free. more.kept q (subst (λ n. contains nat_cmp s2.free n ≡ true) (sym e)
    (next (subst (IsLater g) e later, subst (IsFree g s2.order.items) e (subst (λ zs. IsFree g zs q) (sym middle) free)))))
    (λ q node is e later free. log q node is e (later, subst (λ zs. IsFree g zs q) (sym last) free))))
  where
    middle : s2.order.items ≡ s0.order.items ++ x ∷ []
    middle = ap (λ v. v.items) grows.order ∙ pushed

    last : s3.order.items ≡ s0.order.items ++ x ∷ []
    last = ap (λ v. v.items) more.order ∙ middle

-- the least of the set is taken out, to be placed
pub takes : (g : Graph) (s : Placing) (t : BTreeSet ℕ) (x : ℕ) → IsSettled g s → IsTrue (contains nat_cmp s.free x)
    → IsLowerBound nat_cmp s.free x → Updates nat_cmp s.free t x false → IsTaken g (record s { free = t }) x
takes g s t x settled there least updates = record {
  holds = record {
    marks_all = settled.holds.marks_all;
    marked = settled.holds.marked;
    frees = λ q e. settled.holds.frees q (within q e);
    departed = settled.holds.departed;
    waiting = settled.holds.waiting;
    placed = settled.holds.placed;
  };
  covers = λ q free out. elim (cases_eq q x) [
    | inl e ↦ e
    | inr ne ↦ absurd (true≢false (sym (settled.covers q free) ∙ sym (leaves.others q ne) ∙ out))
  ];
  stops = settled.stops;
  absent = leaves.gone;
  least = record { free = settled.holds.frees x there; least = λ y free. le_from_not_gt x y (least y (settled.covers y free)) };
}
  where
    leaves : Leaves (contains nat_cmp s.free) (contains nat_cmp t) x
    leaves = set_leaves s.free t x updates

    within : (q : ℕ) → contains nat_cmp t q ≡ true → contains nat_cmp s.free q ≡ true
    within q e = elim (cases_eq q x) [ inl same ↦ ap (contains nat_cmp s.free) same ∙ there | inr ne ↦ sym (leaves.others q ne) ∙ e ]

-- the node after x in its log is offered
pub log_offered : (g : Graph) (s : Placing) (x y : ℕ) (node : Node) → NodeIs g x node → node.log_after ≡ Some y → Offers g s y → OffersLog g s x
log_offered g s x y node is after offers q other at log =
    let e : Some y ≡ Some q = sym after ∙ ap (λ n. n.log_after) (same_node g x node other is at) ∙ log in
    let same : y ≡ q = cc in
    subst (Offers g s) same offers

-- there is no such node
pub none_offered : (g : Graph) (s : Placing) (x : ℕ) (node : Node) → NodeIs g x node → node.log_after ≡ None → OffersLog g s x
none_offered g s x node is after q other at log free =
    let bad : None ≡ Some q = sym after ∙ ap (λ n. n.log_after) (same_node g x node other is at) ∙ log in cc
