-- Edges, by what stands in a trace and in a report.
use Rattle.std.proofs.Common.{◌≡◌, ℕ, zero, suc, ◌+◌, Bool, true, false, cond, ◌&&◌, List, [], ◌∷◌, ◌++◌, filter, flat_map, take, Option, Some, None, inl, inr, refl, sym, ap, subst, ◌∙◌, arith, true≢false, nat_eq}
use Rattle.std.specs.List.{list_any}
use Rattle.std.proofs.lemmas.Bool.{cases_Bool, and_parts, and_from, not-true, not-false, ne_eqb, eq-eqb}
use Rattle.basis.specs.Lists.{nth}
use Rattle.basis.proofs.Options.{some_is, none_is_not}
use Rattle.basis.proofs.Places.{In, any_true, any_false, nth_take}
use Rattle.script_tree.specs.Requests.{Request}
use Rattle.period.specs.Traces.{IsBalanced}
use Rattle.period.specs.declared.trace.TraceEvent.{TraceEvent}
use Rattle.period.specs.declared.trace.TraceEvent.TheVariants.{Asked, Answered}
use Rattle.period.specs.declared.report.LogEntry.{LogEntry}
use Rattle.period.specs.declared.report.Report.{Report}
use Rattle.audit_meaning.specs.Cycles.{departure_of, is_direct, direct_edges}
use Rattle.audit_meaning.specs.Edges.{Edge, request_edges, from_response, time_edges, neighbour_edge, log_edges, edges}
use Rattle.audit_meaning.specs.EdgesAre.{NeighboursInRequest, NeighboursInLog, InTime, LiesBetween, IsDirect, by_request, by_log, by_time, IsEdge, of_request, of_log, of_time, EdgesAreThese}
use Rattle.audit_meaning.specs.Lists.{befores, last, numbers}
use Rattle.audit_meaning.specs.Nodes.{Node, step, close, node_at, node_of, same_node}
use Rattle.audit_meaning.specs.Spots.{Spot, spots, count_of}
use Rattle.audit_meaning.proofs.Words.{owner}
use Rattle.audit_meaning.proofs.Places.{in_left, in_right, in_either, in_map, in_map_back, in_flat, in_flat_back, in_numbers, numbers_in, befores_at, befores_back, take_nth, take_within}
use Rattle.audit_meaning.proofs.Filters.{filter_in, in_filtered}
use Rattle.audit_meaning.proofs.Orders.{same_node_is, same_node_itself}
use Rattle.audit_meaning.proofs.Walking.{passes}

only : (x y : Edge) → In (x ∷ []) y → x ≡ y
only x y (zero, e) = some_is e
only x y (suc i, e) = absurd (none_is_not e)

module _ (T : List TraceEvent) (R : Report) where
  -- ---- neighbours in a request

  in_request : (y x : Node) → In (flat_map (request_edges R) T) (y, x) → NeighboursInRequest T R y x
  in_request y x m = let f = in_flat_back (request_edges R) T (y, x) m.0 m.1 in by f.0 f.1 f.2
    where
      by : (e : TraceEvent) → In T e → In (request_edges R e) (y, x) → NeighboursInRequest T R y x
      by (Answered r a) n k = absurd (none_is_not k.1)
      by (Asked r q) n k =
          let i = in_map_back (λ i. (node_at (count_of R r) r i, node_at (count_of R r) r (suc i))) (numbers 0 (count_of R r + 1)) (y, x) k in
          let range = numbers_in 0 (count_of R r + 1) i.0 i.1.0 i.1.1 in
          record {
            rid = r;
            request = q;
            asked = n;
            number = i.0;
            within = omega (arith, range.1);
            earlier = ap
                (λ (e : Edge). e.0) (sym i.2);
            later = ap (λ (e : Edge). e.1) (sym i.2);
          }

  request_in : (y x : Node) → NeighboursInRequest T R y x → In (flat_map (request_edges R) T) (y, x)
  request_in y x n =
      let made : In (request_edges R (Asked n.rid n.request)) (node_at (count_of R n.rid) n.rid n.number, node_at (count_of R n.rid) n.rid (suc n.number)) =
      in_map (λ i. (node_at (count_of R n.rid) n.rid i, node_at (count_of R n.rid) n.rid (suc i)))
      (numbers 0 (count_of R n.rid + 1)) n.number
      (in_numbers 0 (count_of R n.rid + 1) n.number (omega arith) (omega (arith, n.within))) in
      subst (λ e. In {A = Edge} (flat_map (request_edges R) T) e) (λ i. (sym n.earlier i, sym n.later i))
      (in_flat (request_edges R) T (Asked n.rid n.request) (
        node_at (count_of R n.rid) n.rid n.number,
        node_at (count_of R n.rid) n.rid (suc n.number),
      ) n.asked.0 n.asked.1 made)

  -- ---- neighbours in a log

  in_log : (y x : Node) → In (flat_map log_edges (spots R.logs)) (y, x) → NeighboursInLog R y x
  in_log y x m = let f = in_flat_back log_edges (spots R.logs) (y, x) m.0 m.1 in by f.0 f.1 (last f.0.past) refl f.2
    where
      by : (s : Spot) → In (spots R.logs) s → (o : Option LogEntry) → last s.past ≡ o → In (neighbour_edge o s.entry) (y, x) → NeighboursInLog R y x
      by s n None p k = absurd (none_is_not k.1)
      by s n (Some e) p k = go (nat_eq e.rid s.entry.rid) refl k
        where
          go : (b : Bool) → nat_eq e.rid s.entry.rid ≡ b → In {A = Edge} (cond b [] ((node_of e, node_of s.entry) ∷ [])) (y, x) → NeighboursInLog R y x
          go true q k = absurd (none_is_not k.1)
          go false q k =
              let is = only (node_of e, node_of s.entry) (y, x) k in
              record {
                spot = s;
                stands = n;
                before = e;
                last_before = p;
                differ = λ same. true≢false
                    (sym (eq-eqb e.rid s.entry.rid same) ∙ q);
                earlier = ap (λ (d : Edge). d.0) (sym is);
                later =
                    ap (λ (d : Edge). d.1) (sym is);
              }

  log_in : (y x : Node) → NeighboursInLog R y x → In (flat_map log_edges (spots R.logs)) (y, x)
  log_in y x n =
      let here : In (log_edges n.spot) (node_of n.before, node_of n.spot.entry) =
      subst (λ o. In {A = Edge} (neighbour_edge o n.spot.entry) (node_of n.before, node_of n.spot.entry)) (sym n.last_before)
      (subst (λ b. In {A = Edge} (cond b [] ((node_of n.before, node_of n.spot.entry) ∷ [])) (node_of n.before, node_of n.spot.entry)) (sym (ne_eqb n.before.rid n.spot.entry.rid n.differ)) (0, refl)) in
      subst (λ e. In {A = Edge} (flat_map log_edges (spots R.logs)) e) (λ i. (sym n.earlier i, sym n.later i))
      (in_flat log_edges (spots R.logs) n.spot (node_of n.before, node_of n.spot.entry) n.stands.0 n.stands.1 here)

  -- ---- time

  in_time : (y x : Node) → In (flat_map time_edges (befores T)) (y, x) → InTime T y x
  in_time y x m = let f = in_flat_back time_edges (befores T) (y, x) m.0 m.1 in by f.1.0 f.0 f.1.1 f.2
    where
      from : (j b : ℕ) (q : Request) → nth T j ≡ Some (Asked b q) → (e : TraceEvent) → In (take j T) e → In (from_response b e) (y, x) → InTime T y x
      from j b q at_j (Asked a p) n k = absurd (none_is_not k.1)
      from j b q at_j (Answered a r) n k =
          let is = only (close a, step b 0) (y, x) k in
          record {
            left = n.0;
            right = j;
            in_order = take_within T j n.0 (Answered a r) n.1;
            gone = a;
            response = r;
            answered = take_nth T j n.0 (Answered a r) n.1;
            come = b;
            request = q;
            asked = at_j;
            earlier = ap (λ (d : Edge). d.0) (sym is);
            later = ap (λ (d : Edge). d.1) (sym is);
          }

      by : (j : ℕ) (b : List TraceEvent × TraceEvent) → nth (befores T) j ≡ Some b → In (time_edges b) (y, x) → InTime T y x
      by j (past, Answered r a) h k = absurd (none_is_not k.1)
      by j (past, Asked r q) h k =
          let back = befores_back T j (past, Asked r q) h in
          let f = in_flat_back (from_response r) past (y, x) k.0 k.1 in
          from j r q back.0 f.0 (subst (λ l. In l f.0) (sym back.1) f.1) f.2

  time_in : (y x : Node) → InTime T y x → In (flat_map time_edges (befores T)) (y, x)
  time_in y x t =
      subst (λ e. In {A = Edge} (flat_map time_edges (befores T)) e) (λ i. (sym t.earlier i, sym t.later i))
      (in_flat time_edges (befores T) (take t.right T, Asked t.come t.request) (close t.gone, step t.come 0) t.right
      (befores_at T t.right (Asked t.come t.request) t.asked)
      (in_flat (from_response t.come) (take t.right T) (Answered t.gone t.response)
      (close t.gone, step t.come 0) t.left (nth_take T t.right t.left
      (Answered t.gone t.response) t.in_order t.answered) (0, refl)))

  -- ---- all edges

  edge_is : (y x : Node) → In (edges T R) (y, x) → IsEdge T R y x
  unfolding edges
  edge_is y x m = elim (in_either (flat_map (request_edges R) T) (flat_map time_edges (befores T) ++ flat_map log_edges (spots R.logs)) (y, x) m.0 m.1) [
    | inl h ↦ of_request (in_request y x h)
    | inr h ↦ elim (in_either (flat_map time_edges (befores T)) (flat_map log_edges (spots R.logs)) (y, x) h.0 h.1) [
      | inl k ↦ of_time (in_time y x k)
      | inr k ↦ of_log (in_log y x k)
    ]
  ]

  is_edge : (y x : Node) → IsEdge T R y x → In (edges T R) (y, x)
  unfolding edges
  is_edge y x (of_request n) = in_left (flat_map (request_edges R) T)
      (flat_map time_edges (befores T) ++ flat_map log_edges (spots R.logs)) (y, x) (request_in y x n)
  is_edge y x (of_time t) = in_right (flat_map (request_edges R) T)
      (flat_map time_edges (befores T) ++ flat_map log_edges (spots R.logs)) (y, x)
      (in_left (flat_map time_edges (befores T)) (flat_map log_edges (spots R.logs)) (y, x) (time_in y x t))
  is_edge y x (of_log n) = in_right (flat_map (request_edges R) T)
      (flat_map time_edges (befores T) ++ flat_map log_edges (spots R.logs)) (y, x)
      (in_right (flat_map time_edges (befores T)) (flat_map log_edges (spots R.logs)) (y, x) (log_in y x n))

  -- ---- direct edges

  abbrev time : List Edge
  time = flat_map time_edges (befores T)

  -- a way round by another request
  record Round (y x : Node) : Type 0 where
    over : Node
    first : In time (y, over)
    second : In time (departure_of over, x)

  abbrev goes_on : Node → Edge → Bool
  goes_on x f = list_any (λ g. same_node g.0 (departure_of f.1) && same_node g.1 x) time

  round_is : (y x : Node) → is_direct time (y, x) ≡ false → Round y x
  round_is y x e =
      let f = any_true (λ f. same_node f.0 y && goes_on x f) time (not-false _ e) in
      let both = and_parts (same_node f.0.0 y) (goes_on x f.0) f.2 in
      let g = any_true (λ g. same_node g.0 (departure_of f.0.1) && same_node g.1 x) time both.1 in
      let ends = and_parts (same_node g.0.0 (departure_of f.0.1)) (same_node g.0.1 x) g.2 in
      record {
        over = f.0.1;
        first = subst (λ z. In {A = Edge} time (z, f.0.1)) (same_node_is f.0.0 y both.0) f.1;
        second = subst (λ d. In {A = Edge} time d) (λ i. (same_node_is g.0.0 (departure_of f.0.1) ends.0 i, same_node_is g.0.1 x ends.1 i)) g.1;
      }

  no_round : (y x : Node) → is_direct time (y, x) ≡ true → Round y x → ⊥
  no_round y x e r =
      let on = any_false (λ f. same_node f.0 y && goes_on x f) time r.first.0 (y, r.over) (not-true _ e) r.first.1 in
      let ends = passes (λ g. same_node g.0 (departure_of r.over) && same_node g.1 x) time (departure_of r.over, x) r.second (and_from (same_node (departure_of r.over) (departure_of r.over)) (same_node x x) (same_node_itself (departure_of r.over)) (same_node_itself x)) in
      true≢false (sym (and_from (same_node y y) (goes_on x (y, r.over)) (same_node_itself y) ends) ∙ on)

  lies_between : (y x : Node) → IsBalanced T → (t : InTime T y x) → Round y x → LiesBetween T t.left t.right
  lies_between y x balanced t r =
      let one = in_time y r.over r.first in
      let two = in_time (departure_of r.over) x r.second in
      let gone : t.gone ≡ one.gone = ap owner (sym t.earlier ∙ one.earlier) in
      let come : t.come ≡ two.come = ap owner (sym t.later ∙ two.later) in
      let over : one.come ≡ two.gone = ap owner (ap departure_of (sym one.later) ∙ two.earlier) in
      let left : t.left ≡ one.left = balanced.answered_once one.gone t.left one.left t.response one.response (t.answered ∙ ap (λ g. Some (Answered g t.response)) gone) one.answered in
      let right : t.right ≡ two.right = balanced.asked_once two.come t.right two.right t.request two.request (t.asked ∙ ap (λ c. Some (Asked c t.request)) come) two.asked in
      record {
        rid = one.come;
        comes = one.right;
        request = one.request;
        asked = one.asked;
        goes = two.left;
        response = two.response;
        answered = two.answered ∙ ap (λ g. Some (Answered g two.response)) (sym over);
        after_left = omega (arith, one.in_order, left);
        before_right = omega (arith, two.in_order, right);
      }

  round_by : (y x : Node) (t : InTime T y x) → LiesBetween T t.left t.right → Round y x
  round_by y x t l = record {
    over = step l.rid 0;
    first = time_in y (step l.rid 0) (record {
      left = t.left;
      right = l.comes;
      in_order = l.after_left;
      gone = t.gone;
      response = t.response;
      answered = t.answered;
      come = l.rid;
      request = l.request;
      asked = l.asked;
      earlier = t.earlier;
      later = refl;
    });
    second = time_in (close l.rid) x (record {
      left = l.goes;
      right = t.right;
      in_order = l.before_right;
      gone = l.rid;
      response = l.response;
      answered = l.answered;
      come = t.come;
      request = t.request;
      asked = t.asked;
      earlier = refl;
      later = t.later;
    });
  }

  abbrev thin : List Edge
  thin = filter (is_direct time) time

  direct_is : (y x : Node) → In (direct_edges T R) (y, x) → IsDirect T R y x
  direct_is y x m = elim (in_either (flat_map (request_edges R) T) (thin ++ flat_map log_edges (spots R.logs)) (y, x) m.0 m.1) [
    | inl h ↦ by_request (in_request y x h)
    | inr h ↦ elim (in_either thin (flat_map log_edges (spots R.logs)) (y, x) h.0 h.1) [
      | inl k ↦
          let f = filter_in (is_direct time) time (y, x) k.0 k.1 in
          by_time (in_time y x f.0) (λ l. no_round y x f.1 (round_by y x (in_time y x f.0) l))
      | inr k ↦ by_log (in_log y x k)
    ]
  ]

  is_direct_edge : (y x : Node) → IsBalanced T → IsDirect T R y x → In (direct_edges T R) (y, x)
  is_direct_edge y x balanced (by_request n) = in_left (flat_map (request_edges R) T) (thin ++ flat_map log_edges (spots R.logs)) (y, x) (request_in y x n)
  is_direct_edge y x balanced (by_log n) = in_right (flat_map (request_edges R) T)
      (thin ++ flat_map log_edges (spots R.logs)) (y, x)
      (in_right thin (flat_map log_edges (spots R.logs)) (y, x) (log_in y x n))
  is_direct_edge y x balanced (by_time t none) =
      let m = time_in y x t in
      let is : is_direct time (y, x) ≡ true = elim (cases_Bool (is_direct time (y, x))) [
        | inl e ↦ e
        | inr e ↦ absurd (none (lies_between y x balanced t (round_is y x e)))
      ] in
      in_right (flat_map (request_edges R) T) (thin ++ flat_map log_edges (spots R.logs)) (y, x)
      (in_left thin (flat_map log_edges (spots R.logs)) (y, x) (in_filtered (is_direct time) time (y, x) m.0 m.1 is))

pub edges_are : EdgesAreThese
edges_are = record { edge = edge_is; edge_back = is_edge; direct = direct_is; direct_back = is_direct_edge }
