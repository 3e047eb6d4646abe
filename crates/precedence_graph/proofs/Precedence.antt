-- Paths of edges and the order of requests in time.
use Rattle.std.proofs.Common.{ℕ, zero, suc, ◌<◌, ◌≤◌, List, inl, inr, subst, arith}
use Rattle.std.proofs.lemmas.Bool.{cases_lt}
use Rattle.script_tree.specs.Requests.{Request}
use Rattle.period.specs.Traces.{IsBalanced, Precedes}
use Rattle.period.specs.declared.trace.TraceEvent.{TraceEvent}
use Rattle.trace_format.specs.Balance.{AsksAt, AnswersAt}
use Rattle.precedence_graph.specs.Departures.{DepartsBefore, ArrivesAt}
use Rattle.precedence_graph.specs.Edges.{AreEdges, IsDirectlyBefore}
use Rattle.precedence_graph.specs.Paths.{HasPath, one, more}
use Rattle.precedence_graph.specs.Since.{IsSince}
use Rattle.precedence_graph.proofs.Departing.{asked_rid, comes_first}
use Rattle.precedence_graph.proofs.Greatest.{departs_later, lying_departs, since_direct, since_there}

-- ---- to places

-- what departs before a request precedes it
departs_precedes : (trace : List TraceEvent) (a b r s : ℕ) (p q : Request) → AsksAt trace a r p → AsksAt trace b s q → DepartsBefore trace a b
    → Precedes trace r s
departs_precedes trace a b r s p q from to d =
    let same = asked_rid trace a d.departs.rid r d.departs.request p d.departs.asked from in
    record {
      left = d.goes;
      response = d.departs.response;
      right = b;
      request = q;
      answers = subst (λ k. AnswersAt trace d.goes k d.departs.response) same d.departs.answered;
      asks = to;
      in_order = d.before;
    }

precedes_departs : (trace : List TraceEvent) (a b r s : ℕ) (p q : Request) → IsBalanced trace → AsksAt trace a r p → AsksAt trace b s q → Precedes trace r s
    → DepartsBefore trace a b
precedes_departs trace a b r s p q balanced from to before =
    let here = balanced.asked_once s before.right b before.request q before.asks to in
    record {
      goes = before.left;
      departs = record { rid = r; request = p; asked = from; response = before.response; answered = before.answers };
      before = subst (λ k. before.left < k) here before.in_order;
    }

-- ---- paths

path_departs : (trace : List TraceEvent) (edges : List (ℕ × ℕ)) (a b : ℕ) → IsBalanced trace → AreEdges trace edges → HasPath edges a b
    → DepartsBefore trace a b
path_departs trace edges a b balanced are (one _ i) = (are.each (a, b) i).departs.departs
path_departs trace edges a b balanced are (more c _ path i) =
    let last = (are.each (c, b) i).departs.departs in
    let first = comes_first trace c last.goes balanced last.departs in
    let before = last.before in
    departs_later trace a c b (path_departs trace edges a c balanced are path) (omega (arith, first, before))

-- the greatest place of a request that departed comes directly before
greatest_directly : (trace : List TraceEvent) (w b : ℕ) → IsBalanced trace → IsSince trace b w → DepartsBefore trace w b → ArrivesAt trace b
    → IsDirectlyBefore trace w b
greatest_directly trace w b balanced since d arrives = record {
  departs = record {
    departs = d;
    none_between = λ l.
        let first = comes_first trace w d.goes balanced d.departs in
        let after = l.after_left in
        let most = since.most l.comes (lying_departs trace d.goes b l) in
        omega (arith, first, after, most);
  };
  arrives = arrives;
}

departs_path : (trace : List TraceEvent) (edges : List (ℕ × ℕ)) → IsBalanced trace → AreEdges trace edges → (limit a b : ℕ) → b ≤ limit
    → DepartsBefore trace a b → ArrivesAt trace b → HasPath edges a b
departs_path trace edges balanced are zero a b le d arrives = absurd (let lt = d.before in omega (arith, lt, le))
departs_path trace edges balanced are (suc limit) a b le d arrives =
    let w = since_there trace b balanced in
    elim (cases_lt d.goes w.0) [
      | inl less ↦ elim w.1.attained [
        | inl none ↦ absurd (omega (arith, none, less))
        | inr e ↦
            let first = comes_first trace w.0 e.goes balanced e.departs in
            let before = e.before in
            more w.0 b
            (departs_path trace edges balanced are limit a w.0 (omega (arith, le, first, before)) (record { goes = d.goes; departs = d.departs; before = less })
            (e.departs.rid, e.departs.request, e.departs.asked))
            (are.all w.0 b (greatest_directly trace w.0 b balanced w.1 e arrives))
      ]
      | inr past ↦ one b (are.all a b (record { departs = since_direct trace a b w.0 w.1 d past; arrives = arrives }))
    ]

-- ---- both ways

pub path_precedes : (trace : List TraceEvent) (edges : List (ℕ × ℕ)) → IsBalanced trace → AreEdges trace edges → (a b r s : ℕ) (p q : Request)
    → AsksAt trace a r p → AsksAt trace b s q
    → HasPath edges a b → Precedes trace r s
path_precedes trace edges balanced are a b r s p q from to path = departs_precedes trace a b r s p q from to (path_departs trace edges a b balanced are path)

pub precedes_path : (trace : List TraceEvent) (edges : List (ℕ × ℕ)) → IsBalanced trace → AreEdges trace edges → (a b r s : ℕ) (p q : Request)
    → AsksAt trace a r p → AsksAt trace b s q
    → Precedes trace r s → HasPath edges a b
precedes_path trace edges balanced are a b r s p q from to before =
    departs_path trace edges balanced are b a b (omega arith) (precedes_departs trace a b r s p q balanced from to before) (s, q, to)
