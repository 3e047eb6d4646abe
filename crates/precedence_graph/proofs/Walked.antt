-- What is known of the edges, of where they start and of the frontier, one place after another.
use Rattle.std.proofs.Common.{◌≡◌, ◌∙◌, ℕ, ◌+◌, ◌++◌, true, List, [], ◌∷◌, length, ap, sym, subst, arith, length-append}
use Rattle.std.specs.BTreeSet.{BTreeSet, contains, IsEmpty, IsOrdered, Updates}
use Rattle.std.specs.List.{list_any}
use Rattle.std.specs.Ordering.{nat_cmp}
use Rattle.basis.specs.Lists.{nth}
use Rattle.basis.proofs.Options.{none_is_not}
use Rattle.period.specs.Traces.{IsBalanced}
use Rattle.period.specs.declared.trace.TraceEvent.{TraceEvent}
use Rattle.precedence_graph.specs.Departures.{ArrivesAt, DepartsAt}
use Rattle.precedence_graph.specs.EdgeLists.{AreEdgesTo, AreStarts, LosesSources, edges_from, is_source}
use Rattle.precedence_graph.proofs.Departing.{comes_first}
use Rattle.precedence_graph.proofs.EdgeSteps.{AreEdgesBefore, edges_arrive, edges_depart, edges_start, ends_there}
use Rattle.precedence_graph.proofs.Frontier.{IsFrontier, frontier_arrives, frontier_departs, frontier_start}
use Rattle.precedence_graph.proofs.Replaced.{replaced, sources_before}
use Rattle.precedence_graph.proofs.Sources.{any_in, in_any, starts_more, starts_stay}

-- So it stands with edges, starts and frontier before a place.
pub record IsWalked (trace : List TraceEvent) (place : ℕ) (es : List (ℕ × ℕ)) (ss : List ℕ) (f : BTreeSet ℕ) : Type 0 where
  pub edges : AreEdgesBefore trace place es
  pub starts : AreStarts es ss
  pub count : length ss ≡ place
  pub frontier : IsFrontier trace place (contains nat_cmp f)
  pub ordered : IsOrdered nat_cmp f

pub walked_start : (trace : List TraceEvent) (es : List (ℕ × ℕ)) (ss : List ℕ) (f : BTreeSet ℕ) → es ≡ [] → ss ≡ [] → IsEmpty f → IsOrdered nat_cmp f
    → IsWalked trace 0 es ss f
walked_start trace es ss f no_edges no_starts empty ordered = record {
  edges = edges_start trace es no_edges;
  starts = λ place start at. absurd (none_is_not (ap (λ xs. nth xs place) (sym no_starts) ∙ at));
  count = ap length no_starts;
  frontier = frontier_start trace (contains nat_cmp f) (λ a. ap (list_any _) empty);
  ordered = ordered;
}

-- with the start of the edges to the next place
pub start_pushed : (trace : List TraceEvent) (place start : ℕ) (es : List (ℕ × ℕ)) (ss more : List ℕ) (f : BTreeSet ℕ)
    → start ≡ length es → more ≡ ss ++ start ∷ []
    → IsWalked trace place es ss f → AreStarts es more × (length more ≡ place + 1)
start_pushed trace place start es ss more f all is w = (
  subst (AreStarts es) (sym is) (starts_more es ss place start w.starts w.count all (λ e i. (w.edges.each e i).1)),
  omega (arith, ap length is, length-append {A = ℕ}, w.count),
)

pub walked_arrives : (trace : List TraceEvent) (place : ℕ) (es new : List (ℕ × ℕ)) (ss more : List ℕ) (f g : BTreeSet ℕ) → ArrivesAt trace place
    → IsWalked trace place es ss f → AreStarts es more × (length more ≡ place + 1) → new ≡ es ++ edges_from f.keys place → g ≡ f
    → IsWalked trace (place + 1) new more g
walked_arrives trace place es new ss more f g arrives w pushed is same =
    subst (λ xs. IsWalked trace (place + 1) xs more g) (sym is) (subst (IsWalked trace (place + 1) (es ++ edges_from f.keys place) more) (sym same) (record {
      edges = edges_arrive trace place (contains nat_cmp f) f.keys es arrives w.frontier w.ordered (any_in f.keys) (in_any f.keys) w.edges;
      starts = starts_stay es (edges_from f.keys place) more place pushed.0 pushed.1 (ends_there f.keys place);
      count = pushed.1;
      frontier = frontier_arrives trace place (contains nat_cmp f) arrives w.frontier;
      ordered = w.ordered;
    }))

pub walked_departs : (trace : List TraceEvent) (place request : ℕ) (es found : List (ℕ × ℕ)) (ss more : List ℕ) (f less g : BTreeSet ℕ) → IsBalanced trace
    → DepartsAt trace request place → IsWalked trace place es ss f → AreStarts es more × (length more ≡ place + 1) → AreEdgesTo es request found
    → LosesSources found f less → Updates nat_cmp less g request true → IsOrdered nat_cmp g → IsWalked trace (place + 1) es more g
walked_departs trace place request es found ss more f less g balanced departs w pushed to loses gets ordered = record {
  edges = edges_depart trace request place es departs w.edges;
  starts = pushed.0;
  count = pushed.1;
  frontier = frontier_departs trace request place (is_source found) (contains nat_cmp f) (contains nat_cmp g) balanced departs
      (sources_before trace place request es found w.edges (comes_first trace request place balanced departs) to)
      (replaced request (is_source found) (contains nat_cmp f) (contains nat_cmp less) (contains nat_cmp g) loses gets.0) w.frontier;
  ordered = ordered;
}
