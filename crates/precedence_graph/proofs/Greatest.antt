-- The greatest place of an arrival that departed so far, and what it says.
use Rattle.std.proofs.Common.{◌≡◌, ◌∙◌, ℕ, zero, suc, ◌<◌, ◌≤◌, ◌+◌, max, ◌⊎◌, inl, inr, refl, ap, sym, subst, arith}
use Rattle.std.proofs.Common.{List, [], ◌∷◌, ◌++◌, length, Option, Some, None}
use Rattle.std.proofs.lemmas.Bool.{cases_eq, cases_lt}
use Rattle.basis.specs.Lists.{nth}
use Rattle.basis.proofs.Options.{none_is_not}
use Rattle.basis.proofs.Places.{nth_next, nth_left}
use Rattle.period.specs.Traces.{IsBalanced}
use Rattle.period.specs.declared.trace.TraceEvent.{TraceEvent}
use Rattle.period.specs.declared.trace.TraceEvent.TheVariants.{Asked, Answered}
use Rattle.audit_meaning.specs.EdgesAre.{LiesBetween}
use Rattle.precedence_graph.specs.Departures.{DepartsAt, DepartsBefore, ArrivesAt}
use Rattle.precedence_graph.specs.Edges.{DepartsDirectly}
use Rattle.precedence_graph.specs.Since.{IsSince}
use Rattle.precedence_graph.proofs.Departing.{arrival_departs_not, comes_once}

-- ---- laws

-- what departs before a place departs before a later one
pub departs_later : (trace : List TraceEvent) (a i j : ℕ) → DepartsBefore trace a i → i ≤ j → DepartsBefore trace a j
departs_later trace a i j d le = record { goes = d.goes; departs = d.departs; before = let lt = d.before in omega (arith, lt, le) }

pub since_rises : (trace : List TraceEvent) (i j s t : ℕ) → IsSince trace i s → IsSince trace j t → i ≤ j → s ≤ t
since_rises trace i j s t g h le = elim g.attained [
  | inl z ↦ omega (arith, z)
  | inr d ↦ h.most s (departs_later trace s i j d le)
]

pub since_is_one : (trace : List TraceEvent) (place s t : ℕ) → IsSince trace place s → IsSince trace place t → s ≡ t
since_is_one trace place s t g h =
    omega (arith, since_rises trace place place s t g h (omega arith), since_rises trace place place t s h g (omega arith))

-- a request that lies between two places departs before the second
pub lying_departs : (trace : List TraceEvent) (left right : ℕ) → (l : LiesBetween trace left right) → DepartsBefore trace l.comes right
lying_departs trace left right l =
    record {
      goes = l.goes;
      departs = record { rid = l.rid; request = l.request; asked = l.asked; response = l.response; answered = l.answered };
      before = l.before_right;
    }

-- the other way round, where it comes after the first
pub departed_lies : (trace : List TraceEvent) (left right comes : ℕ) → DepartsBefore trace comes right → left < comes → LiesBetween trace left right
departed_lies trace left right comes d lt =
    record {
      rid = d.departs.rid;
      comes = comes;
      request = d.departs.request;
      asked = d.departs.asked;
      goes = d.goes;
      response = d.departs.response;
      answered = d.departs.answered;
      after_left = lt;
      before_right = d.before;
    }

pub since_cuts : (trace : List TraceEvent) (left right since : ℕ) → IsSince trace right since → LiesBetween trace left right → left < since
since_cuts trace left right since h l = let le = h.most l.comes (lying_departs trace left right l) in let lt = l.after_left in omega (arith, le, lt)

pub since_kept : (trace : List TraceEvent) (left right since : ℕ) → IsSince trace right since → left < since → LiesBetween trace left right
since_kept trace left right since h lt = elim h.attained [
  | inl z ↦ absurd (omega (arith, z, lt))
  | inr d ↦ departed_lies trace left right since d lt
]

-- what departs directly departs from there on, and the other way round
pub direct_since : (trace : List TraceEvent) (comes place since : ℕ) → IsSince trace place since → (d : DepartsDirectly trace comes place)
    → since ≤ d.departs.goes
direct_since trace comes place since h d = elim (cases_lt d.departs.goes since) [
  | inl less ↦ absurd (d.none_between (since_kept trace d.departs.goes place since h less))
  | inr from ↦ from
]

pub since_direct : (trace : List TraceEvent) (comes place since : ℕ) → IsSince trace place since → (d : DepartsBefore trace comes place) → since ≤ d.goes
    → DepartsDirectly trace comes place
since_direct trace comes place since h d le = record {
  departs = d;
  none_between = λ l. let cut = since_cuts trace d.goes place since h l in omega (arith, cut, le);
}

-- ---- one place after another

pub since_start : (trace : List TraceEvent) → IsSince trace 0 0
since_start trace = record { attained = inl refl; most = λ c d. absurd (let lt = d.before in omega (arith, lt)) }

-- what departs before the next place departs here or before
pub departs_now : (trace : List TraceEvent) (a i : ℕ) → DepartsBefore trace a (i + 1) → DepartsAt trace a i ⊎ DepartsBefore trace a i
departs_now trace a i d = elim (cases_eq d.goes i) [
  | inl same ↦ inl (subst (DepartsAt trace a) same d.departs)
  | inr apart ↦ inr (record { goes = d.goes; departs = d.departs; before = let lt = d.before in omega (arith, lt, apart) })
]

since_stays : (trace : List TraceEvent) (i w : ℕ) → ((c : ℕ) → DepartsAt trace c i → ⊥) → IsSince trace i w → IsSince trace (i + 1) w
since_stays trace i w none h = record {
  attained = elim h.attained [ inl z ↦ inl z | inr d ↦ inr (departs_later trace w i (i + 1) d (omega arith)) ];
  most = λ c d. elim (departs_now trace c i d) [
    | inl here ↦ absurd (none c here)
    | inr before ↦ h.most c before
  ];
}

pub since_arrives : (trace : List TraceEvent) (i w : ℕ) → ArrivesAt trace i → IsSince trace i w → IsSince trace (i + 1) w
since_arrives trace i w a h = since_stays trace i w (λ c d. arrival_departs_not trace i c a d) h

pub since_departs : (trace : List TraceEvent) (i w c n : ℕ) → IsBalanced trace → DepartsAt trace c i → IsSince trace i w → n ≡ max c w → IsSince trace (i + 1) n
since_departs trace i w c n b d h is = record {
  attained = elim (cases_lt c w) [
    | inl less ↦ let same : n ≡ w = omega (arith, is, less) in elim h.attained [
      | inl z ↦ inl (same ∙ z)
      | inr e ↦ inr (subst (λ k. DepartsBefore trace k (i + 1)) (sym same) (departs_later trace w i (i + 1) e (omega arith)))
    ]
    | inr more ↦
        let same : n ≡ c = omega (arith, is, more) in
        inr (subst (λ k. DepartsBefore trace k (i + 1)) (sym same) (record { goes = i; departs = d; before = omega arith }))
  ];
  most = λ k e. elim (departs_now trace k i e) [
    | inl here ↦ let place : c ≡ k = comes_once trace c k i b d here in omega (arith, place, is)
    | inr before ↦ let le = h.most k before in omega (arith, le, is)
  ];
}

-- each place has its since
pub since_there : (trace : List TraceEvent) (place : ℕ) → IsBalanced trace → (w : ℕ) × IsSince trace place w
since_there trace zero b = (0, since_start trace)
since_there trace (suc i) b =
    let w = go (nth trace i) refl (since_there trace i b) in
    let next : i + 1 ≡ suc i = omega arith in
    (w.0, subst (λ k. IsSince trace k w.0) next w.1)
  where
    go : (o : Option TraceEvent) → nth trace i ≡ o → (w : ℕ) × IsSince trace i w → (w : ℕ) × IsSince trace (i + 1) w
    go None at h = (h.0, since_stays trace i h.0 (λ c d. none_is_not (sym at ∙ d.answered)) h.1)
    go (Some (Asked r q)) at h = (h.0, since_arrives trace i h.0 (r, q, at) h.1)
    go (Some (Answered r x)) at h =
        let a = b.was_asked r i x at in
        let departs : DepartsAt trace a.0 i = record { rid = r; request = a.1; asked = a.2; response = x; answered = at } in
        (max a.0 h.0, since_departs trace i h.0 a.0 (max a.0 h.0) b departs h.1 refl)

-- one member more, of which something holds at its place
pub each_more : {A : Type 0} (P : ℕ → A → Type 0) (xs : List A) (x : A) (n : ℕ) → length xs ≡ n → ((i : ℕ) → i < n → (y : A) × (nth xs i ≡ Some y) × P i y)
    → P n x
    → (i : ℕ) → i < n + 1 → (y : A) × (nth (xs ++ x ∷ []) i ≡ Some y) × P i y
each_more P xs x n e h p i lt = elim (cases_eq i n) [
  | inl same ↦ (x, ap (nth (xs ++ x ∷ [])) (same ∙ sym e) ∙ nth_next xs [] x, subst (λ k. P k x) (sym same) p)
  | inr apart ↦ let q = h i (omega arith) in (q.0, nth_left xs (x ∷ []) i q.0 q.1, q.2)
]
