-- The edges to the places before one, one place after another.
use Rattle.std.proofs.Common.{◌≡◌, ◌∙◌, ℕ, suc, ◌<◌, ◌+◌, Bool, true, List, [], ◌∷◌, ◌++◌, inl, inr, refl, ap, sym, subst, arith}
use Rattle.std.proofs.lemmas.Bool.{cases_eq}
use Rattle.std.specs.Cmp.{nat_cmp_is}
use Rattle.std.specs.List.{AllByRecursion}
use Rattle.std.specs.List.Sorted.{IsStrictlySortedBy}
use Rattle.std.specs.Ordering.{nat_cmp, ordering_then}
use Rattle.std.specs.declared.cmp.Ordering.{Ordering}
use Rattle.std.specs.declared.cmp.Ordering.TheVariants.{Less, Equal}
use Rattle.period.specs.declared.trace.TraceEvent.{TraceEvent}
use Rattle.audit_meaning.proofs.Places.{in_left, in_right, in_either, in_map, in_map_back}
use Rattle.audit_meaning.specs.Placed.{IsIn}
use Rattle.precedence_graph.specs.Departures.{DepartsAt, ArrivesAt}
use Rattle.precedence_graph.specs.EdgeLists.{edges_from}
use Rattle.precedence_graph.specs.Edges.{DepartsDirectly, IsDirectlyBefore, by_later, AreEdges}
use Rattle.precedence_graph.proofs.Departing.{arrival_departs_not}
use Rattle.precedence_graph.proofs.Frontier.{IsFrontier}

-- ---- the order of edges

by_place : (e f : ℕ × ℕ) → e.1 < f.1 → by_later e f ≡ Less
by_place e f lt = ap (λ o. ordering_then o (nat_cmp e.0 f.0)) (sym (nat_cmp_is e.1 f.1 Less lt))

by_source : (a c place : ℕ) → nat_cmp a c ≡ Less → by_later (a, place) (c, place) ≡ Less
by_source a c place less = ap (λ o. ordering_then o (nat_cmp a c)) (sym (nat_cmp_is place place Equal refl)) ∙ less

all_both : {A : Type 0} (P : A → Type 0) (xs ys : List A) → AllByRecursion P xs → ((y : A) → IsIn ys y → P y) → AllByRecursion P (xs ++ ys)
all_both P [] [] all each = tt
all_both P [] (y ∷ ys) all each = (each y (0, refl), all_both P [] ys tt (λ z i. each z (suc i.0, i.1)))
all_both P (x ∷ xs) ys all each = (all.0, all_both P xs ys all.1 each)

sorted_both : {A : Type 0} (c : A → A → Ordering) (xs ys : List A) → IsStrictlySortedBy c xs → IsStrictlySortedBy c ys
    → ((x y : A) → IsIn xs x → IsIn ys y → c x y ≡ Less) → IsStrictlySortedBy c (xs ++ ys)
unfolding IsStrictlySortedBy
sorted_both c [] ys s t less = t
sorted_both c (x ∷ xs) ys s t less =
    (all_both (λ y. c x y ≡ Less) xs ys s.0 (λ y i. less x y (0, refl) i), sorted_both c xs ys s.1 t (λ z y i j. less z y (suc i.0, i.1) j))

pub ends_there : (keys : List ℕ) (place : ℕ) (e : ℕ × ℕ) → IsIn (edges_from keys place) e → e.1 ≡ place
ends_there keys place e i = let a = in_map_back (λ x. (x, place)) keys e i in ap (λ f. f.1) (sym a.2)

all_sources : (x place : ℕ) (keys : List ℕ) → AllByRecursion (λ y. nat_cmp x y ≡ Less) keys
    → AllByRecursion (λ e. by_later (x, place) e ≡ Less) (edges_from keys place)
all_sources x place [] all = tt
all_sources x place (y ∷ keys) all = (by_source x y place all.0, all_sources x place keys all.1)

sorted_sources : (place : ℕ) (keys : List ℕ) → IsStrictlySortedBy nat_cmp keys → IsStrictlySortedBy by_later (edges_from keys place)
unfolding IsStrictlySortedBy
sorted_sources place [] s = tt
sorted_sources place (x ∷ keys) s = (all_sources x place keys s.0, sorted_sources place keys s.1)

-- ---- one place after another

-- The list has exactly the edges to requests before a place, in order.
pub record AreEdgesBefore (trace : List TraceEvent) (place : ℕ) (edges : List (ℕ × ℕ)) : Type 0 where
  pub each : (e : ℕ × ℕ) → IsIn edges e → IsDirectlyBefore trace e.0 e.1 × (e.1 < place)
  pub all : (a b : ℕ) → IsDirectlyBefore trace a b → b < place → IsIn edges (a, b)
  pub ascending : IsStrictlySortedBy by_later edges

pub edges_start : (trace : List TraceEvent) (edges : List (ℕ × ℕ)) → edges ≡ [] → AreEdgesBefore trace 0 edges
unfolding IsStrictlySortedBy
edges_start trace edges none = subst (AreEdgesBefore trace 0) (sym none) start
  where
    start : AreEdgesBefore trace 0 []
    start = record {
      each = λ e i. absurd (grind (arith, i.1));
      all = λ a b d lt. absurd (omega (arith, lt));
      ascending = tt;
    }

pub edges_all : (trace : List TraceEvent) (place : ℕ) (edges : List (ℕ × ℕ)) → ((b : ℕ) → ArrivesAt trace b → b < place) → AreEdgesBefore trace place edges
    → AreEdges trace edges
edges_all trace place edges inside e = record { each = λ f i. (e.each f i).0; all = λ a b d. e.all a b d (inside b d.arrives); ascending = e.ascending }

-- every member of the frontier has an edge to a request
pub edges_arrive : (trace : List TraceEvent) (i : ℕ) (has : ℕ → Bool) (keys : List ℕ) (edges : List (ℕ × ℕ)) → ArrivesAt trace i → IsFrontier trace i has
    → IsStrictlySortedBy nat_cmp keys
    → ((a : ℕ) → has a ≡ true → IsIn keys a) → ((a : ℕ) → IsIn keys a → has a ≡ true)
    → AreEdgesBefore trace i edges → AreEdgesBefore trace (i + 1) (edges ++ edges_from keys i)
edges_arrive trace i has keys edges arrives frontier sorted among back e = record {
  each = λ f j. elim (in_either edges (edges_from keys i) f j.0 j.1) [
    | inl k ↦ let old = e.each f k in (old.0, let lt = old.1 in omega (arith, lt))
    | inr k ↦
        let a = in_map_back (λ x. (x, i)) keys f k in (
          subst (λ g. IsDirectlyBefore trace g.0 g.1) a.2 (record { departs = frontier.each a.0 (back a.0 a.1); arrives = arrives }),
          omega (arith, ends_there keys i f k),
        )
  ];
  all = λ a b d lt. elim (cases_eq b i) [
    | inl same ↦
        let source = among a (frontier.all a (subst (DepartsDirectly trace a) same d.departs)) in
        subst (λ k. IsIn (edges ++ edges_from keys i) (a, k)) (sym same) (in_right edges (edges_from keys i) (a, i) (in_map (λ x. (x, i)) keys a source))
    | inr apart ↦ in_left edges (edges_from keys i) (a, b) (e.all a b d (omega (arith, lt, apart)))
  ];
  ascending = sorted_both by_later edges (edges_from keys i) e.ascending (sorted_sources i keys sorted)
      (λ f g j k. by_place f g (let lt = (e.each f j).1 in omega (arith, lt, ends_there keys i g k)));
}

-- nothing has an edge to a response
pub edges_depart : (trace : List TraceEvent) (c i : ℕ) (edges : List (ℕ × ℕ)) → DepartsAt trace c i → AreEdgesBefore trace i edges
    → AreEdgesBefore trace (i + 1) edges
edges_depart trace c i edges departs e = record {
  each = λ f j. let old = e.each f j in (old.0, let lt = old.1 in omega (arith, lt));
  all = λ a b d lt. elim (cases_eq b i) [
    | inl same ↦ absurd (arrival_departs_not trace i c (subst (ArrivesAt trace) same d.arrives) departs)
    | inr apart ↦ e.all a b d (omega (arith, lt, apart))
  ];
  ascending = e.ascending;
}
