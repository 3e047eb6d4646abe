-- The order of a report's graph is as the induction asks.
use Rattle.std.proofs.Common.{◌≡◌, ℕ, zero, suc, ◌+◌, ◌<◌, ◌≤◌, Bool, true, false, cond, List, [], ◌∷◌, ◌++◌, length, take, map, Some, None, Option, inl, inr, refl, sym, ap, subst, ◌∙◌, arith, flat_map, nat_eq}
use Rattle.std.proofs.lemmas.Bool.{cases_lt, eqb-true, eq-eqb, cases_eq, ne_eqb}
use Rattle.script_tree.specs.Programs.{Program}
use Rattle.script_tree.specs.declared.operation.Object.{Object}
use Rattle.basis.specs.Lists.{nth, first_answer}
use Rattle.basis.proofs.Options.{some_is, none_is_not}
use Rattle.basis.proofs.Places.{nth_within, In, first_some, nth_take}
use Rattle.audit_meaning.specs.Lists.{befores, last, numbers}
use Rattle.script_tree.specs.Requests.{Request}
use Rattle.period.specs.declared.trace.TraceEvent.{TraceEvent}
use Rattle.period.specs.declared.trace.TraceEvent.TheVariants.{Asked, Answered}
use Rattle.period.specs.declared.report.LogEntry.{LogEntry}
use Rattle.period.specs.declared.report.Report.{Report}
use Rattle.script_tree.specs.Objects.{Objects}
use Rattle.period.specs.Traces.{request_of, request_in, IsBalanced, Precedes}
use Rattle.audit_meaning.specs.Spots.{Spot, spots, count_of}
use Rattle.audit_meaning.specs.Nodes.{Node, step, close, node_at, node_of, log_of, nodes_in, nodes}
use Rattle.audit_meaning.specs.Edges.{Edge, request_edges, from_response, time_edges, neighbour_edge, log_edges, edges}
use Rattle.audit_meaning.specs.Orders.{order_of}
use Rattle.audit_meaning.proofs.Words.{nth_there, owner, node_at-step, node_at-close, node_at-owner}
use Rattle.audit_meaning.proofs.Places.{in_left, in_right, in_map, in_map_back, in_flat, in_flat_back, in_numbers, numbers_in, first_none, befores_at, last_take, Apart, apart_both, apart_more}
use Rattle.audit_meaning.proofs.Checks.{Passes, Checked}
use Rattle.audit_meaning.proofs.Logs.{spot_here}
use Rattle.audit_meaning.proofs.Orders.{OrderOf, ordered_is}
use Rattle.audit_meaning.proofs.Induction.{IsNode, IsOrder, or_close, log_node}

-- ---- requests of a trace

request_in_some : (r : ℕ) (e : TraceEvent) (q : Request) → request_in r e ≡ Some q → e ≡ Asked r q
request_in_some r (Asked a p) q h = go (nat_eq r a) refl h
  where
    go : (b : Bool) → nat_eq r a ≡ b → cond b (Some p) None ≡ Some q → Asked a p ≡ Asked r q
    go true e k = λ i. Asked (sym (eqb-true r a e) i) (some_is k i)
    go false e k = absurd (none_is_not k)
request_in_some r (Answered a x) q h = absurd (none_is_not h)

request_in_itself : (r : ℕ) (q : Request) → request_in r (Asked r q) ≡ Some q
request_in_itself r q = ap (λ b. cond b (Some q) None) (eq-eqb r r refl)

pub request_there : (T : List TraceEvent) (r : ℕ) (q : Request) → request_of T r ≡ Some q → In T (Asked r q)
unfolding request_of
request_there T r q h =
    let found = first_some (request_in r) T q h in
    (found.1.0, found.1.1 ∙ ap (λ e. Some e) (request_in_some r found.0 q found.2))

pub request_found : (T : List TraceEvent) (r i : ℕ) (q : Request) → nth T i ≡ Some (Asked r q) → (p : Request) × (request_of T r ≡ Some p)
unfolding request_of
request_found T r i q h = go (first_answer (request_in r) T) refl
  where
    go : (o : Option Request) → first_answer (request_in r) T ≡ o → (p : Request) × (first_answer (request_in r) T ≡ Some p)
    go None e = absurd (none_is_not (sym (first_none (request_in r) T i (Asked r q) e h) ∙ request_in_itself r q))
    go (Some p) e = (p, e)

-- ---- nodes

pub node_in_event : (R : Report) (e : TraceEvent) (x : Node) → In (nodes_in R e) x
    → (r : ℕ) × (q : Request) × (e ≡ Asked r q) × (i : ℕ) × (i < count_of R r + 2) × (node_at (count_of R r) r i ≡ x)
node_in_event R (Asked r q) x m =
    let i = in_map_back (node_at (count_of R r) r) (numbers 0 (count_of R r + 2)) x m in
    let range = numbers_in 0 (count_of R r + 2) i.0 i.1.0 i.1.1 in
    let l : i.0 < count_of R r + 2 = omega (arith, range.1) in
    (r, q, refl, i.0, l, i.2)
node_in_event R (Answered a y) x m = absurd (none_is_not m.1)

unfoldable pub rank : ℕ → Node → ℕ
rank M (step r k) = k
rank M (close r) = suc M

pub rank_at : (M r i : ℕ) → i < M + 2 → rank M (node_at M r i) ≡ i
unfolding rank
rank_at M r i l = elim (cases_lt i (suc M)) [
  | inl low ↦ ap (rank M) (node_at-step M r i (omega arith))
  | inr high ↦ ap (rank M) (node_at-close M r i (omega arith)) ∙ omega arith
]

apart_request : (M r k n : ℕ) → k + n ≤ M + 2 → Apart (map (node_at M r) (numbers k n))
apart_request M r k zero l = λ x i j a b. absurd (none_is_not a)
apart_request M r k (suc n) l = apart_more (node_at M r k) (map (node_at M r) (numbers (suc k) n))
    (λ m.
    let i = in_map_back (node_at M r) (numbers (suc k) n) (node_at M r k) m in
    let range = numbers_in (suc k) n i.0 i.1.0 i.1.1 in
    let e : i.0 ≡ k = sym (rank_at M r i.0 (omega (arith, range.1))) ∙ ap (rank M) i.2 ∙ rank_at M r k (omega arith) in
    absurd (omega (arith, range.0)))
    (apart_request M r (suc k) n (omega arith))

abbrev pub AskedOnce : List TraceEvent → Type 0
AskedOnce T = (r i j : ℕ) (p q : Request) → nth T i ≡ Some (Asked r p) → nth T j ≡ Some (Asked r q) → i ≡ j

pub apart_nodes : (R : Report) (T : List TraceEvent) → AskedOnce T → Apart (flat_map (nodes_in R) T)
apart_nodes R [] once = λ x i j a b. absurd (none_is_not a)
apart_nodes R (e ∷ T) once = apart_both (nodes_in R e) (flat_map (nodes_in R) T) (first e)
    (apart_nodes R T (λ r i j p q a b. let h : suc i ≡ suc j = once r (suc i) (suc j) p q a b in omega arith))
    (λ x here later.
    let from = in_flat_back (nodes_in R) T x later.0 later.1 in
    let one = node_in_event R e x here in
    let two = node_in_event R from.0 x from.2 in
    let same : one.0 ≡ two.0 = sym (node_at-owner (count_of R one.0) one.0 one.3) ∙ ap owner (one.5 ∙ sym two.5) ∙ node_at-owner (count_of R two.0) two.0 two.3 in
    let h : 0 ≡ suc from.1.0 = once one.0 0 (suc from.1.0) one.1 two.1 (ap (λ y. Some y) one.2) (from.1.1 ∙ ap (λ y. Some y) two.2 ∙ ap (λ r. Some (Asked r two.1)) (sym same)) in
    absurd (omega arith))
  where
    first : (f : TraceEvent) → Apart (nodes_in R f)
    first (Asked r q) = apart_request (count_of R r) r 0 (count_of R r + 2) (omega arith)
    first (Answered a y) = λ x i j a b. absurd (none_is_not a)

-- ---- sequences that rise step by step

rising : (N : List Node) (f : ℕ → Node) (n : ℕ)
    → ((i : ℕ) → i < n → In N (f i))
    → ((i a b : ℕ) → suc i < n → nth N a ≡ Some (f i) → nth N b ≡ Some (f (suc i)) → a < b)
    → (i k a b : ℕ) → i < k → k < n → nth N a ≡ Some (f i) → nth N b ≡ Some (f k) → a < b
rising N f n there one i zero a b l m at_a at_b = absurd (omega arith)
rising N f n there one i (suc k) a b l m at_a at_b = elim (cases_eq i k) [
  | inl p ↦ one k a b m (at_a ∙ ap (λ j. Some (f j)) p) at_b
  | inr ne ↦
      let c = there k (omega arith) in
      let low : a < c.0 = rising N f n there one i k a c.0 (omega (arith, ne)) (omega arith) at_a c.1 in
      let high : c.0 < b = one k c.0 b m c.1 at_b in
      omega arith
]

module _ (P : Program) (O : Objects) (T : List TraceEvent) (R : Report) (N : List Node) (balanced : IsBalanced T)
    (checked : Checked P O T R) (listed : order_of T R ≡ Some N) where
  order_is : OrderOf (edges T R) (nodes T R) N
  unfolding order_of
  order_is = ordered_is (edges T R) (length (nodes T R)) (nodes T R) N refl listed

  node_there : (r i : ℕ) (q : Request) → request_of T r ≡ Some q → i < count_of R r + 2 → In (nodes T R) (node_at (count_of R r) r i)
  unfolding nodes
  node_there r i q h l =
      let there = request_there T r q h in
      in_flat (nodes_in R) T (Asked r q) (node_at (count_of R r) r i) there.0 there.1
      (in_map (node_at (count_of R r) r) (numbers 0 (count_of R r + 2)) i
      (in_numbers 0 (count_of R r + 2) i (omega arith) (omega arith)))

  request_node : (r i : ℕ) (q : Request) → request_of T r ≡ Some q → i < count_of R r + 2 → In N (node_at (count_of R r) r i)
  request_node r i q h l = let m = node_there r i q h l in order_is.all _ m.0 m.1

  all_listed : (x : Node) → IsNode T R x → In N x
  all_listed (step r k) h = subst (In N) (node_at-step (count_of R r) r k h.2) (request_node r k h.0 h.1 (omega (arith, h.2)))
  all_listed (close r) h = subst (In N) (node_at-close (count_of R r) r (suc (count_of R r)) (omega arith))
      (request_node r (suc (count_of R r)) h.0 h.1 (omega arith))

  is_node : (r i : ℕ) (q : Request) → request_of T r ≡ Some q → IsNode T R (node_at (count_of R r) r i)
  is_node r i q h = elim (cases_lt (count_of R r) i) [
    | inl high ↦ subst (IsNode T R) (sym (node_at-close (count_of R r) r i high)) (q, h)
    | inr low ↦ subst (IsNode T R) (sym (node_at-step (count_of R r) r i low)) (q, h, low)
  ]

  only_nodes : (i : ℕ) (x : Node) → nth N i ≡ Some x → IsNode T R x
  unfolding nodes
  only_nodes i x e =
      let m = order_is.only x i e in
      let from = in_flat_back (nodes_in R) T x m.0 m.1 in
      let one = node_in_event R from.0 x from.2 in
      let q = request_found T one.0 from.1.0 one.1 (from.1.1 ∙ ap (λ y. Some y) one.2) in
      subst (IsNode T R) one.5 (is_node one.0 one.3 q.0 q.1)

  by_request : (r : ℕ) (q : Request) → request_of T r ≡ Some q → (i k a b : ℕ) → i < k → k < count_of R r + 2
      → nth N a ≡ Some (node_at (count_of R r) r i) → nth N b ≡ Some (node_at (count_of R r) r k) → a < b
  unfolding edges
  by_request r q h = rising N (node_at (count_of R r) r) (count_of R r + 2) (λ i l. request_node r i q h l) (λ i a b l at_a at_b.
      order_is.after (node_at (count_of R r) r i) (node_at (count_of R r) r (suc i)) a b (edge i l) at_a at_b)
    where
      edge : (i : ℕ) → suc i < count_of R r + 2 → In (edges T R) (node_at (count_of R r) r i, node_at (count_of R r) r (suc i))
      edge i l =
          let there = request_there T r q h in
          in_left (flat_map (request_edges R) T) (flat_map time_edges (befores T) ++ flat_map log_edges (spots R.logs)) _
          (in_flat (request_edges R) T (Asked r q) (node_at (count_of R r) r i, node_at (count_of R r) r (suc i)) there.0 there.1
          (in_map (λ j. (node_at (count_of R r) r j, node_at (count_of R r) r (suc j)))
          (numbers 0 (count_of R r + 1)) i (in_numbers 0 (count_of R r + 1) i (omega arith) (omega arith))))

  by_time : (a b i j : ℕ) → Precedes T a b → nth N i ≡ Some (close a) → nth N j ≡ Some (step b 0) → i < j
  unfolding edges
  by_time a b i j p at_i at_j = order_is.after (close a) (step b 0) i j edge at_i at_j
    where
      edge : In (edges T R) (close a, step b 0)
      edge =
          in_right (flat_map (request_edges R) T) (flat_map time_edges (befores T) ++ flat_map log_edges (spots R.logs)) (close a, step b 0)
          (in_left (flat_map time_edges (befores T)) (flat_map log_edges (spots R.logs)) (close a, step b 0)
          (in_flat time_edges (befores T) (take p.right T, Asked b p.request) (close a, step b 0) p.right (befores_at T p.right (Asked b p.request) p.asks)
          (in_flat (from_response b) (take p.right T) (Answered a p.response) (close a, step b 0) p.left
          (nth_take T p.right p.left (Answered a p.response) p.in_order p.answers) (0, refl))))

  entry_there : (o : Object) (i : ℕ) (e : LogEntry) → nth (log_of R o) i ≡ Some e → In N (node_of e)
  entry_there o i e h =
      let m = spot_here R o i e h in
      let p = checked.passes m.0 _ m.1 in
      all_listed (node_of e) (p.in_trace.0, p.in_trace.1, p.counted)

  -- an entry comes after its neighbour
  neighbours : (o : Object) (i : ℕ) (e f : LogEntry) → nth (log_of R o) i ≡ Some e → nth (log_of R o) (suc i) ≡ Some f
      → (a b : ℕ) → nth N a ≡ Some (node_of e) → nth N b ≡ Some (node_of f) → a < b
  unfolding edges
  neighbours o i e f at_i at_k a b na nb = elim (cases_eq e.rid f.rid) [
    | inl same ↦
        let less : e.number < f.number = p.rises e before same in
        let pe = checked.passes me.0 _ me.1 in
        let m = count_of R f.rid in
        by_request f.rid p.in_trace.0 p.in_trace.1 e.number f.number a b less (omega (arith, p.counted))
        (na ∙ ap (λ r. Some (step r e.number)) same ∙ ap (λ x. Some x) (sym (node_at-step (count_of R f.rid) f.rid e.number (omega (arith, p.counted)))))
        (nb ∙ ap (λ x. Some x) (sym (node_at-step (count_of R f.rid) f.rid f.number p.counted)))
    | inr differ ↦ order_is.after (node_of e) (node_of f) a b (edge differ) na nb
  ]
    where
      spot : Spot
      spot = record { object = o; past = take (suc i) (log_of R o); entry = f }

      mf : In (spots R.logs) spot
      mf = spot_here R o (suc i) f at_k

      me : In (spots R.logs) (record { object = o; past = take i (log_of R o); entry = e })
      me = spot_here R o i e at_i

      p : Passes P O T R (take mf.0 (spots R.logs)) spot
      p = checked.passes mf.0 spot mf.1

      before : last (take (suc i) (log_of R o)) ≡ Some e
      before = last_take (log_of R o) i e at_i

      edge : (e.rid ≡ f.rid → ⊥) → In (edges T R) (node_of e, node_of f)
      edge differ =
          in_right (flat_map (request_edges R) T) (flat_map time_edges (befores T) ++ flat_map log_edges (spots R.logs)) (node_of e, node_of f)
          (in_right (flat_map time_edges (befores T)) (flat_map log_edges (spots R.logs)) (node_of e, node_of f)
          (in_flat log_edges (spots R.logs) spot (node_of e, node_of f) mf.0 mf.1
          (subst (λ x. In {A = Edge} (neighbour_edge x f) (node_of e, node_of f)) (sym before)
          (subst (λ c. In {A = Edge} (cond c [] ((node_of e, node_of f) ∷ [])) (node_of e, node_of f)) (sym (ne_eqb e.rid f.rid differ)) (0, refl)))))

  by_log : (o : Object) (i k : ℕ) (e f : LogEntry) → i < k → nth (log_of R o) i ≡ Some e → nth (log_of R o) k ≡ Some f
      → (a b : ℕ) → nth N a ≡ Some (node_of e) → nth N b ≡ Some (node_of f) → a < b
  by_log o i k e f l at_i at_k a b na nb =
      rising N (log_node R o) (length (log_of R o))
      (λ j m. let x = nth_there (log_of R o) j m in let y = entry_there o j x.0 x.1 in (y.0, y.1 ∙ ap (λ z. Some z) (sym (ap or_close x.1))))
      (λ j c d m at_c at_d.
      let x = nth_there (log_of R o) j (omega arith) in
      let y = nth_there (log_of R o) (suc j) m in
      neighbours o j x.0 y.0 x.1 y.1 c d (at_c ∙ ap (λ z. Some (or_close z)) x.1) (at_d ∙ ap (λ z. Some (or_close z)) y.1))
      i k a b l (nth_within (log_of R o) k f at_k) (na ∙ ap (λ z. Some (or_close z)) (sym at_i)) (nb ∙ ap (λ z. Some (or_close z)) (sym at_k))

  pub is_order : IsOrder T R N
  unfolding nodes
  is_order = record {
    listed = all_listed;
    only = only_nodes;
    once = order_is.apart (apart_nodes R T balanced.asked_once);
    by_request = by_request;
    by_log = by_log;
    by_time = by_time;
  }
