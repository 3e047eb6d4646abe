-- The graph that shows a report, from its nodes and its events.
use Rattle.std.proofs.Common.{◌≡◌, ◌∙◌, ℕ, suc, ◌<◌, ◌+◌, List, Option, Some, None, true, false, nat_eq, inl, inr, refl, ap, sym, subst, arith}
use Rattle.std.specs.List.{slice_get}
use Rattle.std.proofs.lemmas.Bool.{cases_lt, eq-eqb, false_from_ne_true, eqb-true}
use Rattle.basis.specs.Lists.{nth}
use Rattle.script_tree.specs.Requests.{Request}
use Rattle.period.specs.Traces.{IsBalanced}
use Rattle.script_tree.specs.declared.request.Response.{Response}
use Rattle.period.specs.declared.trace.TraceEvent.{TraceEvent}
use Rattle.period.specs.declared.trace.TraceEvent.TheVariants.{Asked, Answered}
use Rattle.period.specs.declared.report.Report.{Report}
use Rattle.event_order.specs.Order.{NodeIs}
use Rattle.event_order.specs.declared.graph.Graph.{Graph}
use Rattle.event_order.specs.declared.graph.Node.{Node as GraphNode}
use Rattle.audit_meaning.specs.Nodes.{nodes, node_at}
use Rattle.audit_meaning.specs.Spots.{count_of}
use Rattle.audit_meaning.specs.declared.node.Node.{Node}
use Rattle.audit_meaning.specs.declared.node.Node.TheVariants.{Number as step, End as close}
use Rattle.audit_meaning.proofs.Places.{first_none}
use Rattle.audit_meaning.proofs.Words.{node_at-step, node_at-close, step_is_not, step_request, step_number}
use Rattle.basis.proofs.Options.{none_is_not}
use Rattle.basis.proofs.Places.{nth_within}
use Rattle.trace_index.proofs.HeadFacts.{nth_got}
use Rattle.precedence_graph.specs.Since.{IsSince}
use Rattle.audit_order.specs.Shows.{offset, IsLinked, Shows}
use Rattle.audit_order.proofs.Offsets.{numbered, once_each, of_number}
use Rattle.std.proofs.Common.{cond}
use Rattle.period.specs.Traces.{request_of, request_in}
use Rattle.trace_index.specs.Places.{request_place}
use Rattle.trace_index.proofs.PlaceFacts.{request_absent}
use Rattle.audit_order.proofs.Numbered.{place_asked}
use Rattle.audit_order.specs.Built.{IsNodeOf, AreNodesOf, AreEventsOf}

got : {A : Type 0} (xs : List A) (i : ℕ) (x : A) → nth xs i ≡ Some x → slice_get xs i ≡ Some x
got xs i x e = sym (nth_got xs i) ∙ e

start_names : (trace : List TraceEvent) (report : Report) (i r : ℕ) (q : Request) → nth trace i ≡ Some (Asked r q)
    → nth (nodes trace report) (offset trace report i) ≡ Some (step r 0)
start_names trace report i r q e = ap (nth (nodes trace report)) (let z : offset trace report i ≡ offset trace report i + 0 = omega arith in z) ∙ numbered report trace i r 0 q e (omega arith) ∙ ap (λ n. Some n) (node_at-step (count_of report r) r 0 (omega arith))

pub end_names : (trace : List TraceEvent) (report : Report) (i r : ℕ) (q : Request) → nth trace i ≡ Some (Asked r q)
    → nth (nodes trace report) (offset trace report i + (count_of report r + 1)) ≡ Some (close r)
end_names trace report i r q e = numbered report trace i r (count_of report r + 1) q e (omega arith)
    ∙ ap (λ n. Some n) (node_at-close (count_of report r) r (count_of report r + 1) (omega arith))

pub shows : (trace : List TraceEvent) (report : Report) (g : Graph) → AreNodesOf trace report g.nodes.items
    → AreEventsOf trace report g.trace.items → Shows trace report g
shows trace report g ns es = record {
  count = ns.count;
  events = es.count;
  node = λ x n e. let v = made x n e in (v.0, v.1, v.2.linked);
  asked = λ i r q e. let v = made (offset trace report i) (step r 0) (start_names trace report i r q e) in (v.0, v.1, v.2.arrives i r q refl e);
  later = λ i r k q e lt.
      let at = numbered report trace i r (suc k) q e (omega arith) in
      let v = made (offset trace report i + suc k) (node_at (count_of report r) r (suc k)) at in (
        v.0,
        v.1,
        elim (cases_lt k (count_of report r)) [
          | inl less ↦ v.2.later r k (node_at-step (count_of report r) r (suc k) (omega arith))
          | inr more ↦ v.2.ends r (node_at-close (count_of report r) r (suc k) (omega arith))
        ],
      );
  arrival = λ i r q e.
      let m = es.each i (nth_within trace i (Asked r q) e) in
      got g.trace.items i _ (m.1 ∙ ap (λ y. Some y) (m.2.arrival r q e));
  departure = λ j i r x q ej ei.
      let m = es.each j (nth_within trace j (Answered r x) ej) in
      got g.trace.items j _ (m.1 ∙ ap (λ y. Some y) (m.2.departure r i x q ej ei));
}
  where
    made : (x : ℕ) (n : Node) → nth (nodes trace report) x ≡ Some n → (v : GraphNode) × NodeIs g x v × IsNodeOf trace report n v
    made x n e = let m = ns.each x (nth_within (nodes trace report) x n e) in (m.0, got g.nodes.items x m.0 m.1, m.2 n e)

-- ---- a departure's number

pub end_number : (trace : List TraceEvent) (report : Report) (r m x : ℕ) → IsBalanced trace → m ≡ count_of report r
    → nth (nodes trace report) x ≡ Some (step r m) → nth (nodes trace report) (x + 1) ≡ Some (close r)
end_number trace report r m x b is e =
    let o = of_number report trace b x (step r m) e in
    go o.place o.rid o.number o.request o.asked o.within o.is o.names
  where
    go : (p a k : ℕ) (q : Request) → nth trace p ≡ Some (Asked a q) → k < count_of report a + 2
        → x ≡ offset trace report p + k → node_at (count_of report a) a k ≡ step r m
        → nth (nodes trace report) (x + 1) ≡ Some (close r)
    go p a k q asked lt at names = elim (cases_lt (count_of report a) k) [
      | inl more ↦ absurd (step_is_not (sym names ∙ node_at-close (count_of report a) a k more))
      | inr less ↦
          let same = sym (node_at-step (count_of report a) a k less) ∙ names in
          let rid : a ≡ r = step_request same in
          let num : k ≡ m = step_number same in
          let whole : k ≡ count_of report a = num ∙ is ∙ ap (count_of report) (sym rid) in
          ap (nth (nodes trace report)) (let z : x + 1 ≡ offset trace report p + (count_of report a + 1) = omega (arith, at, whole) in z)
          ∙ end_names trace report p a q asked ∙ ap (λ n. Some (close n)) rid
    ]

pub end_is : (trace : List TraceEvent) (report : Report) (r c x : ℕ) (q : Request) → IsBalanced trace
    → nth trace c ≡ Some (Asked r q) → nth (nodes trace report) x ≡ Some (close r)
    → x ≡ offset trace report c + (count_of report r + 1)
end_is trace report r c x q b asked e = once_each report trace b (close r) x
    (offset trace report c + (count_of report r + 1)) e (end_names trace report c r q asked)

pub apart_asked : (o : Option TraceEvent) (r a : ℕ) (q : Request) (x : Response) → o ≡ Some (Asked r q) → o ≡ Some (Answered a x) → ⊥
apart_asked o r a q x e f = cc

pub one_rid : (o : Option TraceEvent) (r a : ℕ) (x y : Response) → o ≡ Some (Answered r x) → o ≡ Some (Answered a y) → r ≡ a
one_rid o r a x y e f = cc

pub end_linked : (trace : List TraceEvent) (report : Report) (r : ℕ) (v : GraphNode) → v.is_arrival ≡ false
    → v.log_before ≡ None → v.log_after ≡ None → IsNodeOf trace report (close r) v
end_linked trace report r v no_arrival no_before no_after = record {
  linked = record {
    before = λ y e. absurd (none_is_not (sym no_before ∙ e));
    before_back = λ y c ey nb. absurd (step_is_not (sym nb.later));
    after = λ z c ez nb. absurd (step_is_not (sym nb.earlier));
    after_inside = λ z e. absurd (none_is_not (sym no_after ∙ e));
  };
  arrives = λ i a q e at. absurd (step_is_not (sym e));
  later = λ a k e. absurd (step_is_not (sym e));
  ends = λ a e. no_arrival;
}

zero_eq : (n : ℕ) → n ≡ 0 → nat_eq n 0 ≡ true
zero_eq n e = eq-eqb n 0 e

pub step_node : (trace : List TraceEvent) (report : Report) (r k at since : ℕ) (v : GraphNode) → IsBalanced trace
    → IsLinked report (nodes trace report) (step r k) v → v.is_arrival ≡ nat_eq k 0 → v.at ≡ at → v.since ≡ since
    → ((q : Request) (i : ℕ) → nth trace i ≡ Some (Asked r q) → (at ≡ i) × IsSince trace i since) → IsNodeOf trace report (step r k) v
step_node trace report r k at since v b linked arrival eat esince places = record {
  linked = linked;
  arrives = λ i a q e asked.
      let rid : r ≡ a = step_request e in
      let p = places q i (subst (λ n. nth trace i ≡ Some (Asked n q)) (sym rid) asked) in
      record { is_arrival = arrival ∙ zero_eq k (step_number e); at = eat ∙ p.0; since = subst (IsSince trace i) (sym esince) p.1 };
  later = λ a n e. arrival ∙ false_from_ne_true (nat_eq k 0) (λ t. absurd (let z : k ≡ 0 = eqb-true k 0 t in let y : k ≡ suc n = step_number e in omega arith));
  ends = λ a e. absurd (step_is_not e);
}

pub operation_node : (trace : List TraceEvent) (report : Report) (r k : ℕ) (v : GraphNode)
    → IsLinked report (nodes trace report) (step r k) v → v.is_arrival ≡ false → 0 < k
    → IsNodeOf trace report (step r k) v
operation_node trace report r k v linked later positive = record {
  linked = linked;
  arrives = λ i a q e asked. absurd (let z : k ≡ 0 = step_number e in omega (arith, z, positive));
  later = λ a n e. later;
  ends = λ a e. absurd (step_is_not e);
}

-- the place that is found is that of the request
pub place_is : (trace : List TraceEvent) (r p i : ℕ) (q : Request) → IsBalanced trace → request_place trace r ≡ Some p → nth trace i ≡ Some (Asked r q) → p ≡ i
place_is trace r p i q b at asked = let a = place_asked trace r p at in b.asked_once r p i a.0 q a.1 asked

pub no_request : (trace : List TraceEvent) (r i : ℕ) (q : Request) → request_place trace r ≡ None → nth trace i ≡ Some (Asked r q) → ⊥
unfolding request_of
no_request trace r i q none asked = none_is_not
    (sym (first_none (request_in r) trace i (Asked r q) (request_absent r trace none) asked)
    ∙ ap (λ t. cond t (Some q) None) (eq-eqb r r refl))
