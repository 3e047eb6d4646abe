-- A graph that shows a report can be ordered.
use Rattle.std.proofs.Common.{◌≡◌, ◌∙◌, ℕ, zero, suc, ◌<◌, ◌≤◌, ◌+◌, ◌-◌, List, length, Option, Some, None, true, false, ◌⊎◌, inl, inr, refl, ap, sym, subst, arith, true≢false}
use Rattle.std.specs.List.{slice_get}
use Rattle.std.proofs.lemmas.Bool.{cases_order}
use Rattle.basis.specs.Lists.{nth}
use Rattle.script_tree.specs.Objects.{Objects}
use Rattle.script_tree.specs.Programs.{Program}
use Rattle.script_tree.specs.Requests.{Request}
use Rattle.period.specs.Traces.{IsBalanced}
use Rattle.script_tree.specs.declared.request.Response.{Response}
use Rattle.period.specs.declared.trace.TraceEvent.{TraceEvent}
use Rattle.period.specs.declared.trace.TraceEvent.TheVariants.{Asked, Answered}
use Rattle.period.specs.declared.report.Report.{Report}
use Rattle.event_order.specs.Cycle as cycles
use Rattle.event_order.specs.Order.{NodeIs, EventIs, Precedes, in_request, in_log, in_time, IsEventGraph}
use Rattle.event_order.specs.Thin.{IsThin}
use Rattle.event_order.specs.Thin as thin
use Rattle.event_order.specs.declared.graph.Event.{Event}
use Rattle.event_order.specs.declared.graph.Event.TheVariants.{Arrival, Departure}
use Rattle.event_order.specs.declared.graph.Graph.{Graph}
use Rattle.event_order.specs.declared.graph.Node.{Node as GraphNode}
use Rattle.audit_meaning.specs.EdgesAre.{NeighboursInRequest, NeighboursInLog, InTime, LiesBetween, IsDirect, by_request, by_log, by_time, IsEdge, of_request, of_log, of_time}
use Rattle.audit_meaning.specs.LogFaults.{log_fault}
use Rattle.audit_meaning.specs.Nodes.{nodes, node_at, node_of}
use Rattle.audit_meaning.specs.Spots.{count_of}
use Rattle.audit_meaning.specs.declared.node.Node.{Node}
use Rattle.audit_meaning.specs.declared.node.Node.TheVariants.{Number as step, End as close}
use Rattle.audit_meaning.proofs.Checks.{checked}
use Rattle.audit_meaning.proofs.Checks.{checked}
use Rattle.audit_meaning.proofs.EdgeKinds.{edges_are}
use Rattle.audit_meaning.proofs.Words.{nth_there, node_at-step, node_at-close, step_number}
use Rattle.basis.proofs.Options.{some_is}
use Rattle.basis.proofs.Places.{nth_within}
use Rattle.trace_index.proofs.HeadFacts.{nth_got}
use Rattle.precedence_graph.proofs.Departing.{comes_first}
use Rattle.precedence_graph.proofs.Greatest.{since_cuts, since_kept, since_rises}
use Rattle.audit_order.specs.Mirrors.{MirrorsReport}
use Rattle.audit_order.specs.Shows.{offset, IsLinked, IsArrivalAt, Shows, ShownIsOrderable}
use Rattle.audit_order.proofs.Offsets.{numbered, once_each, of_number, later_behind}

same_some : {A : Type 0} (o : Option A) (x y : A) → o ≡ Some x → o ≡ Some y → x ≡ y
same_some o x y p q = some_is (sym p ∙ q)

arrival_is : (x y : ℕ) → Arrival x ≡ Arrival y → x ≡ y
arrival_is x y e = cc

departure_is : (x y : ℕ) → Departure x ≡ Departure y → x ≡ y
departure_is x y e = cc

close_rid : {a r : ℕ} → close a ≡ close r → a ≡ r
close_rid e = cc

apart_events : (o : Option Event) (x y : ℕ) → o ≡ Some (Arrival x) → o ≡ Some (Departure y) → ⊥
apart_events o x y p q = cc

module _ (program : Program) (start : Objects) (trace : List TraceEvent) (report : Report) (g : Graph)
    (b : IsBalanced trace) (none : log_fault program start trace report ≡ None) (s : Shows trace report g) where
  abbrev N : List Node
  N = nodes trace report

  abbrev off : ℕ → ℕ
  off i = offset trace report i

  got : {A : Type 0} (xs : List A) (i : ℕ) (x : A) → slice_get xs i ≡ Some x → nth xs i ≡ Some x
  got xs i x e = nth_got xs i ∙ e

  -- ---- nodes

  name_of : (x : ℕ) (v : GraphNode) → NodeIs g x v → (n : Node) × (nth N x ≡ Some n) × IsLinked report N n v
  name_of x v is =
      let lt = nth_within g.nodes.items x v (got g.nodes.items x v is) in
      let n = nth_there N x (omega (arith, lt, s.count)) in
      let w = s.node x n.0 n.1 in
      (n.0, n.1, subst (IsLinked report N n.0) (same_some (slice_get g.nodes.items x) w.0 v w.1 is) w.2)

  within : (x : ℕ) (n : Node) → nth N x ≡ Some n → x < length N
  within x n e = nth_within N x n e

  record IsLater (x : ℕ) : Type 0 where
    place : ℕ
    rid : ℕ
    request : Request
    asked : nth trace place ≡ Some (Asked rid request)
    number : ℕ
    below : number < count_of report rid + 1
    is : x ≡ off place + suc number

  record IsFirst (x : ℕ) (v : GraphNode) : Type 0 where
    place : ℕ
    rid : ℕ
    request : Request
    asked : nth trace place ≡ Some (Asked rid request)
    is : x ≡ off place
    arrives : IsArrivalAt trace place v

  kind : (x : ℕ) (v : GraphNode) → NodeIs g x v → ((v.is_arrival ≡ true) × IsFirst x v) ⊎ ((v.is_arrival ≡ false) × IsLater x)
  kind x v is =
      let n = name_of x v is in
      let o = of_number report trace b x n.0 n.1 in
      go o.place o.rid o.number o.request o.asked o.within o.is
    where
      go : (i r k : ℕ) (q : Request) → nth trace i ≡ Some (Asked r q) → k < count_of report r + 2 → x ≡ off i + k
          → ((v.is_arrival ≡ true) × IsFirst x v) ⊎ ((v.is_arrival ≡ false) × IsLater x)
      go i r zero q e lt at =
          let here : x ≡ off i = omega (arith, at) in
          let w = s.asked i r q e in
          let same : w.0 ≡ v = same_some (slice_get g.nodes.items x) w.0 v (ap (slice_get g.nodes.items) here ∙ w.1) is in
          let arrives = subst (IsArrivalAt trace i) same w.2 in
          inl (arrives.is_arrival, record { place = i; rid = r; request = q; asked = e; is = here; arrives = arrives })
      go i r (suc k) q e lt at =
          let less : k < count_of report r + 1 = omega arith in
          let w = s.later i r k q e less in
          let same : w.0 ≡ v = same_some (slice_get g.nodes.items x) w.0 v (ap (slice_get g.nodes.items) at ∙ w.1) is in
          inr (ap (λ (u : GraphNode). u.is_arrival) (sym same) ∙ w.2, record { place = i; rid = r; request = q; asked = e; number = k; below = less; is = at })

  first_node : (x : ℕ) (v : GraphNode) → NodeIs g x v → v.is_arrival ≡ true → IsFirst x v
  first_node x v is t = elim (kind x v is) [ inl h ↦ h.1 | inr h ↦ absurd (true≢false (sym t ∙ h.0)) ]

  later_node : (x : ℕ) (v : GraphNode) → NodeIs g x v → v.is_arrival ≡ false → IsLater x
  later_node x v is f = elim (kind x v is) [ inl h ↦ absurd (true≢false (sym h.0 ∙ f)) | inr h ↦ h.1 ]

  -- an entry's node is no arrival
  entry_later : (a n : Node) (x : ℕ) → NeighboursInLog report a n → nth N x ≡ Some n → IsLater x
  entry_later a n x nb e =
      let p = (checked program start trace report none).passes nb.stands.0 nb.spot nb.stands.1 in
      let o = of_number report trace b x n e in
      go o.place o.rid o.number o.request o.asked o.within o.is (o.names ∙ nb.later) p.positive
    where
      go : (i r k : ℕ) (q : Request) → nth trace i ≡ Some (Asked r q) → k < count_of report r + 2 → x ≡ off i + k
          → node_at (count_of report r) r k ≡ node_of nb.spot.entry → 1 ≤ nb.spot.entry.number → IsLater x
      go i r zero q e lt at same pos =
          let z : 0 ≡ nb.spot.entry.number = step_number (sym (node_at-step (count_of report r) r 0 (omega arith)) ∙ same) in
          absurd (omega arith)
      go i r (suc k) q e lt at same pos = record { place = i; rid = r; request = q; asked = e; number = k; below = omega arith; is = at }

  later_is : (x : ℕ) → IsLater x → (v : GraphNode) × NodeIs g x v × (v.is_arrival ≡ false)
  later_is x l = let w = s.later l.place l.rid l.number l.request l.asked l.below in (w.0, subst (λ y. NodeIs g y w.0) (sym l.is) w.1, w.2)

  -- ---- events

  record Goes (i y : ℕ) : Type 0 where
    rid : ℕ
    response : Response
    answered : nth trace i ≡ Some (Answered rid response)
    comes : ℕ
    request : Request
    asked : nth trace comes ≡ Some (Asked rid request)
    is : y ≡ off comes + (count_of report rid + 1)
    names : nth N y ≡ Some (close rid)

  record Comes (i x : ℕ) : Type 0 where
    rid : ℕ
    request : Request
    asked : nth trace i ≡ Some (Asked rid request)
    is : x ≡ off i
    names : nth N x ≡ Some (step rid 0)

  end_names : (i r : ℕ) (q : Request) → nth trace i ≡ Some (Asked r q) → nth N (off i + (count_of report r + 1)) ≡ Some (close r)
  end_names i r q e = numbered report trace i r (count_of report r + 1) q e (omega arith)
      ∙ ap (λ n. Some n) (node_at-close (count_of report r) r (count_of report r + 1) (omega arith))

  start_names : (i r : ℕ) (q : Request) → nth trace i ≡ Some (Asked r q) → nth N (off i) ≡ Some (step r 0)
  start_names i r q e = ap (nth N) (let z : off i ≡ off i + 0 = omega arith in z) ∙ numbered report trace i r 0 q e (omega arith) ∙ ap (λ n. Some n) (node_at-step (count_of report r) r 0 (omega arith))

  event_at : (i : ℕ) (e : Event) → EventIs g i e → (t : TraceEvent) × (nth trace i ≡ Some t)
  event_at i e is = nth_there trace i (let lt = nth_within g.trace.items i e (got g.trace.items i e is) in omega (arith, lt, s.events))

  goes : (i y : ℕ) → EventIs g i (Departure y) → Goes i y
  goes i y is = let t = event_at i (Departure y) is in go t.0 t.1
    where
      go : (t : TraceEvent) → nth trace i ≡ Some t → Goes i y
      go (Asked r q) e = absurd (apart_events (slice_get g.trace.items i) (off i) y (s.arrival i r q e) is)
      go (Answered r x) e =
          let a = b.was_asked r i x e in
          let same : off a.0 + (count_of report r + 1) ≡ y = departure_is _ _ (same_some (slice_get g.trace.items i) (Departure (off a.0 + (count_of report r + 1))) (Departure y) (s.departure i a.0 r x a.1 e a.2) is) in
          record { rid = r; response = x; answered = e; comes = a.0; request = a.1; asked = a.2; is = sym same; names = ap (nth N) (sym same) ∙ end_names a.0 r a.1 a.2 }

  comes : (i x : ℕ) → EventIs g i (Arrival x) → Comes i x
  comes i x is = let t = event_at i (Arrival x) is in go t.0 t.1
    where
      go : (t : TraceEvent) → nth trace i ≡ Some t → Comes i x
      go (Asked r q) e =
          let same : off i ≡ x = arrival_is _ _ (same_some (slice_get g.trace.items i) (Arrival (off i)) (Arrival x) (s.arrival i r q e) is) in
          record { rid = r; request = q; asked = e; is = sym same; names = ap (nth N) (sym same) ∙ start_names i r q e }
      go (Answered r y) e =
          let a = b.was_asked r i y e in
          absurd (apart_events (slice_get g.trace.items i) x (off a.0 + (count_of report r + 1)) is (s.departure i a.0 r y a.1 e a.2))

  gone_before : (i r : ℕ) (q : Request) (j : ℕ) (x : Response) → nth trace i ≡ Some (Asked r q) → nth trace j ≡ Some (Answered r x) → i < j
  gone_before i r q j x ei ej =
      let a = b.is_answered r i q ei in
      let same : a.0 ≡ j = b.answered_once r a.0 j a.1 x a.3 ej in
      let lt : i < a.0 = a.2 in
      omega arith

  -- ---- requests between

  between : (i j : ℕ) → thin.LiesBetween g i j → LiesBetween trace i j
  between i j l =
      let c = comes l.arrived l.node l.request.arrival in
      let d = goes l.departed (l.node + l.more) l.request.departure in
      let same : d.comes ≡ l.arrived = elim (cases_order d.comes l.arrived) [
        | inl e ↦ e
        | inr (inl less) ↦ absurd (let o = later_behind report trace d.comes l.arrived d.rid d.request (Asked c.rid c.request) d.asked c.asked less in let p = c.is in let q = d.is in omega (arith, o, p, q))
        | inr (inr more) ↦ absurd (apart_arrival d.comes d.rid d.request d.asked (let o = later_behind report trace l.arrived d.comes c.rid c.request (Asked d.rid d.request) c.asked d.asked more in let p = c.is in let q = d.is in (omega (arith, o, p, q), omega (arith, o, p, q))))
      ] in
      let rids : c.rid ≡ d.rid = asked_rid (nth trace l.arrived) c.rid d.rid c.request d.request c.asked (ap (nth trace) (sym same) ∙ d.asked) in
      record {
        rid = d.rid;
        comes = l.arrived;
        request = d.request;
        asked = ap (nth trace) (sym same) ∙ d.asked;
        goes = l.departed;
        response = d.response;
        answered = d.answered;
        after_left = l.after;
        before_right = l.before;
      }
    where
      asked_rid : (o : Option TraceEvent) (r a : ℕ) (p q : Request) → o ≡ Some (Asked r p) → o ≡ Some (Asked a q) → r ≡ a
      asked_rid o r a p q e f = cc

      apart_arrival : (i r : ℕ) (q : Request) → nth trace i ≡ Some (Asked r q) → (l.node < off i) × (off i < l.node + l.more) → ⊥
      apart_arrival i r q e (low, high) =
          let w = s.asked i r q e in
          let at : l.node + ((off i - l.node - 1) + 1) ≡ off i = omega arith in
          let v = l.request.nodes (off i - l.node - 1) (omega arith) in
          true≢false (sym w.2.is_arrival ∙ ap (λ (u : GraphNode). u.is_arrival)
          (same_some (slice_get g.nodes.items (off i)) w.0 v.0 w.1 (ap (slice_get g.nodes.items) (sym at) ∙ v.1))
          ∙ v.2)

  between_back : (i j : ℕ) → LiesBetween trace i j → thin.LiesBetween g i j
  between_back i j l = record {
    node = off l.comes;
    more = count_of report l.rid + 1;
    arrived = l.comes;
    departed = l.goes;
    request = record {
      arrival = s.arrival l.comes l.rid l.request l.asked;
      departure = s.departure l.goes l.comes l.rid l.response l.request l.answered l.asked;
      nodes = λ n lt.
          let w = s.later l.comes l.rid n l.request l.asked lt in
          (w.0, subst (λ y. NodeIs g y w.0) (let e : off l.comes + suc n ≡ off l.comes + (n + 1) = omega arith in e) w.1, w.2);
    };
    after = l.after_left;
    inner = gone_before l.comes l.rid l.request l.goes l.response l.asked l.answered;
    before = l.before_right;
  }

  -- ---- edges of the graph are edges of the report

  to_request : (y x : ℕ) (a n : Node) → nth N y ≡ Some a → nth N x ≡ Some n → IsLater x → y + 1 ≡ x → NeighboursInRequest trace report a n
  to_request y x a n ey ex l next =
      let back : y ≡ off l.place + l.number = let p = l.is in omega (arith, p, next) in
      let low : l.number < count_of report l.rid + 2 = let p = l.below in omega (arith, p) in
      let high : suc l.number < count_of report l.rid + 2 = let p = l.below in omega (arith, p) in
      record {
        rid = l.rid;
        request = l.request;
        asked = (l.place, l.asked);
        number = l.number;
        within = l.below;
        earlier = same_some (nth N y) a _ ey (ap (nth N) back ∙ numbered report trace l.place l.rid l.number l.request l.asked low);
        later = same_some (nth N x) n _ ex (ap (nth N) l.is ∙ numbered report trace l.place l.rid (suc l.number) l.request l.asked high);
      }

  to_log : (y x : ℕ) (a n : Node) (v : GraphNode) → nth N y ≡ Some a → nth N x ≡ Some n → NodeIs g x v → v.log_before ≡ Some y → NeighboursInLog report a n
  to_log y x a n v ey ex is link =
      let m = name_of x v is in
      let c = m.2.before y link in
      let pa : c.0 ≡ a = same_some (nth N y) c.0 a c.1 ey in
      let pn : m.0 ≡ n = same_some (nth N x) m.0 n m.1 ex in
      subst (λ z. NeighboursInLog report z n) pa (subst (NeighboursInLog report c.0) pn c.2)

  to_time : (i j y x : ℕ) (a n : Node) → nth N y ≡ Some a → nth N x ≡ Some n → i < j → EventIs g i (Departure y)
      → EventIs g j (Arrival x) → (t : InTime trace a n) × (t.left ≡ i) × (t.right ≡ j)
  to_time i j y x a n ey ex lt out in' =
      let d = goes i y out in
      let c = comes j x in' in (
        record {
          left = i;
          right = j;
          in_order = lt;
          gone = d.rid;
          response = d.response;
          answered = d.answered;
          come = c.rid;
          request = c.request;
          asked = c.asked;
          earlier = same_some (nth N y) a _ ey d.names;
          later = same_some (nth N x) n _ ex c.names;
        },
        refl,
        refl,
      )

  -- ---- and the other way round

  of_neighbours : (y x : ℕ) (a n : Node) → nth N y ≡ Some a → nth N x ≡ Some n → NeighboursInRequest trace report a n → (y + 1 ≡ x) × IsLater x
  of_neighbours y x a n ey ex nb =
      let low : nb.number < count_of report nb.rid + 2 = let p = nb.within in omega (arith, p) in
      let high : suc nb.number < count_of report nb.rid + 2 = let p = nb.within in omega (arith, p) in
      let py : y ≡ off nb.asked.0 + nb.number = once_each report trace b a y (off nb.asked.0 + nb.number) ey (numbered report trace nb.asked.0 nb.rid nb.number nb.request nb.asked.1 low ∙ ap (λ z. Some z) (sym nb.earlier)) in
      let px : x ≡ off nb.asked.0 + suc nb.number = once_each report trace b n x (off nb.asked.0 + suc nb.number) ex (numbered report trace nb.asked.0 nb.rid (suc nb.number) nb.request nb.asked.1 high ∙ ap (λ z. Some z) (sym nb.later)) in
      (omega (arith, py, px), record { place = nb.asked.0; rid = nb.rid; request = nb.request; asked = nb.asked.1; number = nb.number; below = nb.within; is = px })

  of_log_link : (y x : ℕ) (a n : Node) → nth N y ≡ Some a → nth N x ≡ Some n → NeighboursInLog report a n
      → (v : GraphNode) × NodeIs g x v × (v.log_before ≡ Some y) × (v.is_arrival ≡ false)
  of_log_link y x a n ey ex nb =
      let l = later_is x (entry_later a n x nb ex) in
      let m = s.node x n ex in
      let same : m.0 ≡ l.0 = same_some (slice_get g.nodes.items x) m.0 l.0 m.1 l.1 in
      (l.0, l.1, ap (λ (u : GraphNode). u.log_before) (sym same) ∙ m.2.before_back y a ey nb, l.2)

  of_in_time : (y x : ℕ) (a n : Node) → nth N y ≡ Some a → nth N x ≡ Some n → (t : InTime trace a n)
      → EventIs g t.left (Departure y) × EventIs g t.right (Arrival x)
  of_in_time y x a n ey ex t =
      let c = b.was_asked t.gone t.left t.response t.answered in
      let py : y ≡ off c.0 + (count_of report t.gone + 1) = once_each report trace b a y (off c.0 + (count_of report t.gone + 1)) ey (end_names c.0 t.gone c.1 c.2 ∙ ap (λ z. Some z) (sym t.earlier)) in
      let px : x ≡ off t.right = once_each report trace b n x (off t.right) ex (start_names t.right t.come t.request t.asked ∙ ap (λ z. Some z) (sym t.later)) in (
        subst (λ k. EventIs g t.left (Departure k)) (sym py)
            (s.departure t.left c.0 t.gone t.response c.1 t.answered c.2),
        subst (λ k. EventIs g t.right (Arrival k)) (sym px) (s.arrival t.right t.come t.request t.asked),
      )

  below_of : (y x : ℕ) → Precedes g y x → y < length N
  below_of y x (in_request v is later next) = let m = name_of x v is in let lt = within x m.0 m.1 in omega (arith, lt, next)
  below_of y x (in_log v is link) = let m = name_of x v is in let c = m.2.before y link in within y c.0 c.1
  below_of y x (in_time i j lt out in') = let d = goes i y out in within y (close d.rid) d.names

  below_direct : (y x : ℕ) → cycles.IsDirect g y x → y < length N
  below_direct y x (cycles.by_request v is later next) = let m = name_of x v is in let lt = within x m.0 m.1 in omega (arith, lt, next)
  below_direct y x (cycles.by_log v is later link) = let m = name_of x v is in let c = m.2.before y link in within y c.0 c.1
  below_direct y x (cycles.by_time i j lt out in' free) = let d = goes i y out in within y (close d.rid) d.names

  edge : (y x : ℕ) (a n : Node) → nth N y ≡ Some a → nth N x ≡ Some n → Precedes g y x → IsEdge trace report a n
  edge y x a n ey ex (in_request v is later next) = of_request (to_request y x a n ey ex (later_node x v is later) next)
  edge y x a n ey ex (in_log v is link) = of_log (to_log y x a n v ey ex is link)
  edge y x a n ey ex (in_time i j lt out in') = of_time (to_time i j y x a n ey ex lt out in').0

  edge_back : (y x : ℕ) (a n : Node) → nth N y ≡ Some a → nth N x ≡ Some n → IsEdge trace report a n → Precedes g y x
  edge_back y x a n ey ex (of_request nb) = let h = of_neighbours y x a n ey ex nb in let v = later_is x h.1 in in_request v.0 v.1 v.2 h.0
  edge_back y x a n ey ex (of_log nb) = let v = of_log_link y x a n ey ex nb in in_log v.0 v.1 v.2
  edge_back y x a n ey ex (of_time t) = let h = of_in_time y x a n ey ex t in in_time t.left t.right t.in_order h.0 h.1

  direct : (y x : ℕ) (a n : Node) → nth N y ≡ Some a → nth N x ≡ Some n → cycles.IsDirect g y x → IsDirect trace report a n
  unfolding to_time
  direct y x a n ey ex (cycles.by_request v is later next) = by_request (to_request y x a n ey ex (later_node x v is later) next)
  direct y x a n ey ex (cycles.by_log v is later link) = by_log (to_log y x a n v ey ex is link)
  direct y x a n ey ex (cycles.by_time i j lt out in' free) = by_time (to_time i j y x a n ey ex lt out in').0 (λ l. free (between_back i j l))

  direct_back : (y x : ℕ) (a n : Node) → nth N y ≡ Some a → nth N x ≡ Some n → IsDirect trace report a n → cycles.IsDirect g y x
  direct_back y x a n ey ex (by_request nb) = let h = of_neighbours y x a n ey ex nb in let v = later_is x h.1 in cycles.by_request v.0 v.1 v.2 h.0
  direct_back y x a n ey ex (by_log nb) = let v = of_log_link y x a n ey ex nb in cycles.by_log v.0 v.1 v.3 v.2
  direct_back y x a n ey ex (by_time t free) = let h = of_in_time y x a n ey ex t in cycles.by_time t.left t.right t.in_order h.0 h.1 (λ l. free (between t.left t.right l))

  mirrors : MirrorsReport trace report g
  mirrors = record {
    count = s.count;
    inside = below_of;
    edge = λ y x a n ey ex p. edges_are.edge_back trace report a n (edge y x a n ey ex p);
    edge_back = λ y x a n ey ex h. edge_back y x a n ey ex (edges_are.edge trace report a n h);
    direct_inside = below_direct;
    direct_edge = λ y x a n ey ex p. edges_are.direct_back trace report a n b (direct y x a n ey ex p);
    direct_back = λ y x a n ey ex h. direct_back y x a n ey ex (edges_are.direct trace report a n h);
  }

  -- ---- what the code is told

  no_link : (i r x : ℕ) (q : Request) (v : GraphNode) (n : Node) → nth trace i ≡ Some (Asked r q) → x ≡ off i
      → nth N x ≡ Some n → IsLinked report N n v → (o : Option ℕ) → v.log_before ≡ o → v.log_before ≡ None
  no_link i r x q v n e at ex l None is = is
  no_link i r x q v n e at ex l (Some y) is =
      let c = l.before y is in
      let later = entry_later c.0 n x c.2 ex in
      let w = later_is x later in
      let u = s.asked i r q e in
      absurd (true≢false (sym u.2.is_arrival ∙ ap (λ (z : GraphNode). z.is_arrival) (same_some (slice_get g.nodes.items x) u.0 w.0 (ap (slice_get g.nodes.items) at ∙ u.1) w.1) ∙ w.2))

  event_graph : IsEventGraph g
  event_graph = record {
    first = λ v is. elim (kind 0 v is) [ inl h ↦ h.0 | inr h ↦ absurd (let p = h.1.is in omega (arith, p)) ];
    arrives = λ x v is t.
        let f = first_node x v is t in
        subst (λ k. EventIs g k (Arrival x)) (sym f.arrives.at)
        (subst (λ k. EventIs g f.place (Arrival k)) (sym f.is) (s.arrival f.place f.rid f.request f.asked));
    since = λ x v is t.
        let f = first_node x v is t in
        let at = f.arrives.at in
        elim f.arrives.since.attained [
          | inl z ↦ omega (arith, z)
          | inr d ↦ let lt = comes_first trace v.since d.goes b d.departs in let before = d.before in omega (arith, lt, before, at)
        ];
    arrival = λ i x is.
        let c = comes i x is in
        let w = s.asked i c.rid c.request c.asked in
        let at = subst (λ k. NodeIs g k w.0) (sym c.is) w.1 in
        let n = name_of x w.0 at in
        (w.0, at, w.2.is_arrival, no_link i c.rid x c.request w.0 n.0 c.asked c.is n.1 n.2 w.0.log_before refl, w.2.at);
    departure = λ i y is. let d = goes i y is in let lt = within y (close d.rid) d.names in omega (arith, lt, s.count);
    departs_once = λ i j y is at.
        let d = goes i y is in
        let e = goes j y at in
        let same : d.rid ≡ e.rid = close_rid (some_is (sym d.names ∙ e.names)) in
        b.answered_once e.rid i j d.response e.response (subst (λ r. nth trace i ≡ Some (Answered r d.response)) same d.answered) e.answered;
    log_before = λ x y v is link.
        let n = name_of x v is in
        let c = n.2.before y link in
        let w = s.node y c.0 c.1 in
        (w.0, w.1, w.2.after x n.0 n.1 c.2);
    log_after = λ y x v is link. let n = name_of y v is in let lt = n.2.after_inside x link in omega (arith, lt, s.count);
  }

  thin_graph : IsThin g
  thin_graph = record {
    cut = λ x v i y is t out less.
        let f = first_node x v is t in
        subst (thin.LiesBetween g i) (sym f.arrives.at) (between_back i f.place (since_kept trace i f.place v.since f.arrives.since less));
    kept = λ x v i is t l.
        let f = first_node x v is t in
        since_cuts trace i f.place v.since f.arrives.since (between i f.place (subst (thin.LiesBetween g i) f.arrives.at l));
    rises = λ x y v w is at t u le.
        let f = first_node x v is t in
        let h = first_node y w at u in
        since_rises trace f.place h.place v.since w.since f.arrives.since h.arrives.since (omega (arith, le, f.arrives.at, h.arrives.at));
  }

pub shown_is_orderable : ShownIsOrderable
shown_is_orderable program start trace report g b none s = record {
  graph = event_graph program start trace report g b none s;
  thin = thin_graph program start trace report g b none s;
  mirrors = mirrors program start trace report g b none s;
}
