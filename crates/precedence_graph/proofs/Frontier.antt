-- The requests that depart directly before a place, one place after another.
use Rattle.std.proofs.Common.{◌≡◌, ◌∙◌, ℕ, ◌<◌, ◌≤◌, ◌+◌, Bool, true, false, List, inl, inr, sym, subst, arith, true≢false}
use Rattle.std.proofs.lemmas.Bool.{cases_eq, false_from_ne_true}
use Rattle.period.specs.Traces.{IsBalanced}
use Rattle.period.specs.declared.trace.TraceEvent.{TraceEvent}
use Rattle.audit_meaning.specs.EdgesAre.{LiesBetween}
use Rattle.precedence_graph.specs.Departures.{DepartsAt, DepartsBefore, ArrivesAt}
use Rattle.precedence_graph.specs.Edges.{DepartsDirectly, IsDirectlyBefore}
use Rattle.precedence_graph.proofs.Departing.{arrival_departs_not, departs_once, comes_once, comes_first}
use Rattle.precedence_graph.proofs.Greatest.{departs_later, departs_now, lying_departs, departed_lies}

-- A set of places has exactly the requests that depart directly before a place.
pub record IsFrontier (trace : List TraceEvent) (place : ℕ) (has : ℕ → Bool) : Type 0 where
  pub each : (a : ℕ) → has a ≡ true → DepartsDirectly trace a place
  pub all : (a : ℕ) → DepartsDirectly trace a place → has a ≡ true

-- what lies between two places lies between the first and a later one
lies_longer : (trace : List TraceEvent) (left right later : ℕ) → LiesBetween trace left right → right ≤ later → LiesBetween trace left later
lies_longer trace left right later l le =
    departed_lies trace left later l.comes (departs_later trace l.comes right later (lying_departs trace left right l) le) l.after_left

-- what departs directly before the next place and not here departs directly before this one
directly_before : (trace : List TraceEvent) (a i : ℕ) → (d : DepartsDirectly trace a (i + 1)) → (d.departs.goes ≡ i → ⊥) → DepartsDirectly trace a i
directly_before trace a i d apart = record {
  departs = record { goes = d.departs.goes; departs = d.departs.departs; before = let lt = d.departs.before in omega (arith, lt, apart) };
  none_between = λ l. d.none_between (lies_longer trace d.departs.goes i (i + 1) l (omega arith));
}

pub frontier_start : (trace : List TraceEvent) (has : ℕ → Bool) → ((a : ℕ) → has a ≡ false) → IsFrontier trace 0 has
frontier_start trace has none = record {
  each = λ a t. absurd (true≢false (sym t ∙ none a));
  all = λ a d. absurd (let lt = d.departs.before in omega (arith, lt));
}

-- a request leaves the frontier as it is
pub frontier_arrives : (trace : List TraceEvent) (i : ℕ) (has : ℕ → Bool) → ArrivesAt trace i → IsFrontier trace i has → IsFrontier trace (i + 1) has
frontier_arrives trace i has arrives f = record {
  each = λ a t.
      let d = f.each a t in
      record {
        departs = record { goes = d.departs.goes; departs = d.departs.departs; before = let lt = d.departs.before in omega (arith, lt) };
        none_between = λ l. elim (departs_now trace l.comes i (lying_departs trace d.departs.goes (i + 1) l)) [
          | inl here ↦ arrival_departs_not trace i l.comes arrives here
          | inr before ↦ d.none_between (departed_lies trace d.departs.goes i l.comes before l.after_left)
        ];
      };
  all = λ a d. f.all a (directly_before trace a i d (λ here. arrival_departs_not trace i a arrives (subst (DepartsAt trace a) here d.departs.departs)));
}

-- The second set is the first with a request and without others.
pub record Replaces (request : ℕ) (leaves old new : ℕ → Bool) : Type 0 where
  pub joins : new request ≡ true
  pub stays : (a : ℕ) → old a ≡ true → leaves a ≡ false → new a ≡ true
  pub was : (a : ℕ) → new a ≡ true → (a ≡ request → ⊥) → (old a ≡ true) × (leaves a ≡ false)

-- These are the requests directly before another.
pub record AreBefore (trace : List TraceEvent) (request : ℕ) (leaves : ℕ → Bool) : Type 0 where
  pub each : (a : ℕ) → leaves a ≡ true → IsDirectlyBefore trace a request
  pub all : (a : ℕ) → IsDirectlyBefore trace a request → leaves a ≡ true

-- at a response its request takes the place of those directly before the request
pub frontier_departs : (trace : List TraceEvent) (c i : ℕ) (leaves old new : ℕ → Bool) → IsBalanced trace → DepartsAt trace c i → AreBefore trace c leaves
    → Replaces c leaves old new → IsFrontier trace i old
    → IsFrontier trace (i + 1) new
frontier_departs trace c i leaves old new b departs are r f = record {
  each = λ a t. elim (cases_eq a c) [
    | inl same ↦ subst (λ k. DepartsDirectly trace k (i + 1)) (sym same) own
    | inr apart ↦ let was = r.was a t apart in stays a (f.each a was.0) was.1
  ];
  all = λ a d. elim (cases_eq d.departs.goes i) [
    | inl here ↦ subst (λ k. new k ≡ true) (comes_once trace c a i b departs (subst (DepartsAt trace a) here d.departs.departs)) r.joins
    | inr apart ↦ r.stays a (f.all a (directly_before trace a i d apart)) (false_from_ne_true (leaves a) (λ t.
        let e = are.each a t in
        let once = departs_once trace a e.departs.departs.goes d.departs.goes b e.departs.departs.departs d.departs.departs in
        let before = e.departs.departs.before in
        d.none_between (departed_lies trace d.departs.goes (i + 1) c now (omega (arith, once, before)))))
  ];
}
  where
    first : c < i
    first = comes_first trace c i b departs

    now : DepartsBefore trace c (i + 1)
    now = record { goes = i; departs = departs; before = omega arith }

    own : DepartsDirectly trace c (i + 1)
    own = record {
      departs = now;
      none_between = λ l.
          let d = lying_departs trace i (i + 1) l in
          let first = comes_first trace l.comes d.goes b d.departs in
          let before = d.before in
          let after = l.after_left in
          omega (arith, first, before, after);
    }

    -- a request that departed before this one came, with none between, is directly before it
    is_before : (a : ℕ) (d : DepartsDirectly trace a i) → d.departs.goes < c → IsDirectlyBefore trace a c
    is_before a d lt = record {
      departs = record {
        departs = record { goes = d.departs.goes; departs = d.departs.departs; before = lt };
        none_between = λ l. d.none_between (lies_longer trace d.departs.goes c i l (omega (arith, first)));
      };
      arrives = (departs.rid, departs.request, departs.asked);
    }

    stays : (a : ℕ) → DepartsDirectly trace a i → leaves a ≡ false → DepartsDirectly trace a (i + 1)
    stays a d left = record {
      departs = record { goes = d.departs.goes; departs = d.departs.departs; before = let lt = d.departs.before in omega (arith, lt) };
      none_between = λ l. elim (departs_now trace l.comes i (lying_departs trace d.departs.goes (i + 1) l)) [
        | inl here ↦
            let same = comes_once trace c l.comes i b departs here in
            let after = l.after_left in
            true≢false (sym (are.all a (is_before a d (omega (arith, same, after)))) ∙ left)
        | inr before ↦ d.none_between (departed_lies trace d.departs.goes i l.comes before l.after_left)
      ];
    }
