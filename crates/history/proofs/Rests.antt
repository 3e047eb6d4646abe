-- What follows in a trace from a time on, at which some requests are open.
use Rattle.std.proofs.Common.{◌≡◌, ◌≢◌, ℕ, zero, suc, ◌<◌, ◌≤◌, List, [], ◌∷◌, Option, Some, None, inl, inr, ◌⊎◌, refl, sym, ap, ◌∙◌, arith}
use Rattle.std.proofs.lemmas.Bool.{cases_eq}
use Rattle.basis.specs.Lists.{nth}
use Rattle.script_tree.specs.Requests.{Request}
use Rattle.period.specs.Traces.{IsBalanced}
use Rattle.script_tree.specs.declared.request.Response.{Response}
use Rattle.period.specs.declared.trace.TraceEvent.{TraceEvent}
use Rattle.period.specs.declared.trace.TraceEvent.TheVariants.{Asked, Answered}
use Rattle.history.specs.Seats.{seated}
use Rattle.history.proofs.Seated.{here_seated, there_seated, what_is_seated}

abbrev IsAsked : List TraceEvent → ℕ → Type 0
IsAsked trace r = (i : ℕ) × (q : Request) × (nth trace i ≡ Some (Asked r q))

abbrev IsAnswered : List TraceEvent → ℕ → Type 0
IsAnswered trace r = (j : ℕ) × (x : Response) × (nth trace j ≡ Some (Answered r x))

-- behind a place
abbrev IsAnsweredBehind : List TraceEvent → ℕ → ℕ → Type 0
IsAnsweredBehind trace r i = (j : ℕ) × (x : Response) × (i < j) × (nth trace j ≡ Some (Answered r x))

-- a request with this id is open at a seat
abbrev IsOpen : (ℕ → Option ℕ) → ℕ → Type 0
IsOpen ids r = (seat : ℕ) × (ids seat ≡ Some r)

-- The requests that are open have arrived, and no two seats have the same one.
pub record AreDistinct (arrived : ℕ) (ids : ℕ → Option ℕ) : Type 0 where
  pub below : (seat r : ℕ) → ids seat ≡ Some r → r < arrived
  pub apart : (a b r : ℕ) → ids a ≡ Some r → ids b ≡ Some r → a ≡ b

-- New ids are asked, each once, and these and those that are open are answered once.
pub record IsRest (arrived : ℕ) (ids : ℕ → Option ℕ) (trace : List TraceEvent) : Type 0 where
  pub is_new : (r i : ℕ) (q : Request) → nth trace i ≡ Some (Asked r q) → arrived ≤ r
  pub asked_once : (r i j : ℕ) (p q : Request) → nth trace i ≡ Some (Asked r p) → nth trace j ≡ Some (Asked r q) → i ≡ j
  pub answered_once : (r i j : ℕ) (x y : Response) → nth trace i ≡ Some (Answered r x) → nth trace j ≡ Some (Answered r y) → i ≡ j
  pub is_answered : (r i : ℕ) (q : Request) → nth trace i ≡ Some (Asked r q) → IsAnsweredBehind trace r i
  pub open_answered : (seat r : ℕ) → ids seat ≡ Some r → IsAnswered trace r
  pub was_open : (r j : ℕ) (x : Response) → nth trace j ≡ Some (Answered r x) → IsAsked trace r ⊎ IsOpen ids r

abbrev pub Follows : ℕ → (ℕ → Option ℕ) → List TraceEvent → Type 0
Follows arrived ids trace = AreDistinct arrived ids → IsRest arrived ids trace

-- ---- the end

pub none_follows : (arrived : ℕ) (ids : ℕ → Option ℕ) → ((seat : ℕ) → ids seat ≡ None) → Follows arrived ids []
none_follows arrived ids closed distinct = record {
  is_new = λ r i q e. absurd (cc e);
  asked_once = λ r i j p q e f. absurd (cc e);
  answered_once = λ r i j x y e f. absurd (cc e);
  is_answered = λ r i q e. absurd (cc e);
  open_answered = λ seat r e. absurd (cc (e, closed seat));
  was_open = λ r j x e. absurd (cc e);
}

-- from a start on, at which none is open
pub balances : (ids : ℕ → Option ℕ) (trace : List TraceEvent) → ((seat : ℕ) → ids seat ≡ None) → Follows 0 ids trace → IsBalanced trace
balances ids trace none follows = record {
  asked_once = rest.asked_once;
  answered_once = rest.answered_once;
  is_answered = rest.is_answered;
  was_asked = λ r j x e. elim (rest.was_open r j x e) [
    | inl asked ↦ asked
    | inr (seat, is) ↦ absurd (cc (is, none seat))
  ];
}
  where
    rest : IsRest 0 ids trace
    rest = follows (record { below = λ seat r e. absurd (cc (e, none seat)); apart = λ a b r e f. absurd (cc (e, none a)) })

-- ---- an arrival

module _ (arrived : ℕ) (ids : ℕ → Option ℕ) (seat : ℕ) (free : ids seat ≡ None) where
  -- where another was open is another seat
  other : (x r : ℕ) → ids x ≡ Some r → seat ≢ x
  other x r e same = cc (ap ids same)

  still : (x r : ℕ) → ids x ≡ Some r → seated seat (Some arrived) ids x ≡ Some r
  still x r e = there_seated seat x (Some arrived) ids (other x r e) ∙ e

  came_distinct : AreDistinct arrived ids → AreDistinct (suc arrived) (seated seat (Some arrived) ids)
  came_distinct distinct = record { below = below; apart = apart }
    where
      below : (x r : ℕ) → seated seat (Some arrived) ids x ≡ Some r → r < suc arrived
      below x r e = elim (what_is_seated seat x (Some arrived) (Some r) ids e) [
        | inl (same, is) ↦ (let new : arrived ≡ r = cc is in omega arith)
        | inr (ne, is) ↦ omega (arith, distinct.below x r is)
      ]

      apart : (a b r : ℕ) → seated seat (Some arrived) ids a ≡ Some r → seated seat (Some arrived) ids b ≡ Some r → a ≡ b
      apart a b r e f = by (what_is_seated seat a (Some arrived) (Some r) ids e) (what_is_seated seat b (Some arrived) (Some r) ids f)
        where
          old : (x : ℕ) → Some arrived ≡ Some r → ids x ≡ Some r → a ≡ b
          old x new is = let same : arrived ≡ r = cc new in absurd (omega (arith, same, distinct.below x r is))

          by : ((seat ≡ a) × (Some arrived ≡ Some r)) ⊎ ((seat ≢ a) × (ids a ≡ Some r))
              → ((seat ≡ b) × (Some arrived ≡ Some r)) ⊎ ((seat ≢ b) × (ids b ≡ Some r)) → a ≡ b
          by (inl (at_a, new)) (inl (at_b, new_too)) = sym at_a ∙ at_b
          by (inl (at_a, new)) (inr (ne, is)) = old b new is
          by (inr (ne, is)) (inl (at_b, new)) = old a new is
          by (inr (ne, is)) (inr (nf, is_too)) = distinct.apart a b r is is_too

  module _ (q : Request) (trace : List TraceEvent) (rest : IsRest (suc arrived) (seated seat (Some arrived) ids) trace) where
    abbrev now : List TraceEvent
    now = Asked arrived q ∷ trace

    came_new : (r i : ℕ) (p : Request) → nth now i ≡ Some (Asked r p) → arrived ≤ r
    came_new r zero p e = let is : arrived ≡ r = cc e in omega arith
    came_new r (suc i) p e = omega (arith, rest.is_new r i p e)

    came_once : (r i j : ℕ) (p s : Request) → nth now i ≡ Some (Asked r p) → nth now j ≡ Some (Asked r s) → i ≡ j
    came_once r zero zero p s e f = refl
    came_once r zero (suc j) p s e f = let is : arrived ≡ r = cc e in absurd (omega (arith, rest.is_new r j s f))
    came_once r (suc i) zero p s e f = let is : arrived ≡ r = cc f in absurd (omega (arith, rest.is_new r i p e))
    came_once r (suc i) (suc j) p s e f = ap suc (rest.asked_once r i j p s e f)

    came_answered_once : (r i j : ℕ) (x y : Response) → nth now i ≡ Some (Answered r x) → nth now j ≡ Some (Answered r y) → i ≡ j
    came_answered_once r zero j x y e f = absurd (cc e)
    came_answered_once r (suc i) zero x y e f = absurd (cc f)
    came_answered_once r (suc i) (suc j) x y e f = ap suc (rest.answered_once r i j x y e f)

    came_answered : (r i : ℕ) (p : Request) → nth now i ≡ Some (Asked r p) → IsAnsweredBehind now r i
    came_answered r zero p e =
        let is : arrived ≡ r = cc e in
        let answer : IsAnswered trace r = rest.open_answered seat r (here_seated seat (Some arrived) ids ∙ ap (λ n. Some n) is) in
        (suc answer.0, answer.1, omega arith, answer.2)
    came_answered r (suc i) p e =
        let answer : IsAnsweredBehind trace r i = rest.is_answered r i p e in
        (suc answer.0, answer.1, omega (arith, answer.2), answer.3)

    came_open_answered : (x r : ℕ) → ids x ≡ Some r → IsAnswered now r
    came_open_answered x r e = let answer : IsAnswered trace r = rest.open_answered x r (still x r e) in (suc answer.0, answer.1, answer.2)

    came_was_open : (r j : ℕ) (x : Response) → nth now j ≡ Some (Answered r x) → IsAsked now r ⊎ IsOpen ids r
    came_was_open r zero x e = absurd (cc e)
    came_was_open r (suc j) x e = elim (rest.was_open r j x e) [
      | inl (i, p, is) ↦ inl (suc i, p, is)
      | inr (at, is) ↦ elim (what_is_seated seat at (Some arrived) (Some r) ids is) [
        | inl (same, new) ↦ inl (zero, q, (let it : arrived ≡ r = cc new in ap (λ n. Some (Asked n q)) it))
        | inr (ne, old) ↦ inr (at, old)
      ]
    ]

    came_rest : IsRest arrived ids now
    came_rest = record {
      is_new = came_new;
      asked_once = came_once;
      answered_once = came_answered_once;
      is_answered = came_answered;
      open_answered = came_open_answered;
      was_open = came_was_open;
    }

  pub came_follows : (q : Request) (trace : List TraceEvent)
      → Follows (suc arrived) (seated seat (Some arrived) ids) trace → Follows arrived ids (Asked arrived q ∷ trace)
  came_follows q trace follows distinct = came_rest q trace (follows (came_distinct distinct))

-- ---- a departure

module _ (arrived : ℕ) (ids : ℕ → Option ℕ) (seat rid : ℕ) (here : ids seat ≡ Some rid) where
  -- what is open afterwards was open before, at another seat
  stays : (x r : ℕ) → seated seat None ids x ≡ Some r → (seat ≢ x) × (ids x ≡ Some r)
  stays x r e = elim (what_is_seated seat x None (Some r) ids e) [
    | inl (same, is) ↦ absurd (cc is)
    | inr rest ↦ rest
  ]

  went_distinct : AreDistinct arrived ids → AreDistinct arrived (seated seat None ids)
  went_distinct distinct = record {
    below = λ x r e. distinct.below x r (stays x r e).1;
    apart = λ a b r e f. distinct.apart a b r (stays a r e).1 (stays b r f).1;
  }

  module _ (response : Response) (trace : List TraceEvent) (distinct : AreDistinct arrived ids) (rest : IsRest arrived (seated seat None ids) trace) where
    abbrev later : List TraceEvent
    later = Answered rid response ∷ trace

    went_new : (r i : ℕ) (p : Request) → nth later i ≡ Some (Asked r p) → arrived ≤ r
    went_new r zero p e = absurd (cc e)
    went_new r (suc i) p e = rest.is_new r i p e

    went_asked_once : (r i j : ℕ) (p q : Request) → nth later i ≡ Some (Asked r p) → nth later j ≡ Some (Asked r q) → i ≡ j
    went_asked_once r zero j p q e f = absurd (cc e)
    went_asked_once r (suc i) zero p q e f = absurd (cc f)
    went_asked_once r (suc i) (suc j) p q e f = ap suc (rest.asked_once r i j p q e f)

    -- it is not answered again
    never_again : (j : ℕ) (x : Response) → nth trace j ≡ Some (Answered rid x) → ⊥
    never_again j x e = elim (rest.was_open rid j x e) [
      | inl (i, q, is) ↦ absurd (omega (arith, rest.is_new rid i q is, distinct.below seat rid here))
      | inr (at, is) ↦ (stays at rid is).0 (distinct.apart seat at rid here (stays at rid is).1)
    ]

    went_once : (r i j : ℕ) (x y : Response) → nth later i ≡ Some (Answered r x) → nth later j ≡ Some (Answered r y) → i ≡ j
    went_once r zero zero x y e f = refl
    went_once r zero (suc j) x y e f = let is : r ≡ rid = cc e in absurd (never_again j y (f ∙ ap (λ n. Some (Answered n y)) is))
    went_once r (suc i) zero x y e f = let is : r ≡ rid = cc f in absurd (never_again i x (e ∙ ap (λ n. Some (Answered n x)) is))
    went_once r (suc i) (suc j) x y e f = ap suc (rest.answered_once r i j x y e f)

    went_answered : (r i : ℕ) (p : Request) → nth later i ≡ Some (Asked r p) → IsAnsweredBehind later r i
    went_answered r zero p e = absurd (cc e)
    went_answered r (suc i) p e =
        let answer : IsAnsweredBehind trace r i = rest.is_answered r i p e in
        (suc answer.0, answer.1, omega (arith, answer.2), answer.3)

    went_open_answered : (x r : ℕ) → ids x ≡ Some r → IsAnswered later r
    went_open_answered x r e = elim (cases_eq seat x) [
      | inl same ↦ (let is : rid ≡ r = cc (ap ids same) in (zero, response, ap (λ n. Some (Answered n response)) is))
      | inr ne ↦ (let answer : IsAnswered trace r = rest.open_answered x r (there_seated seat x None ids ne ∙ e) in (suc answer.0, answer.1, answer.2))
    ]

    went_was_open : (r j : ℕ) (x : Response) → nth later j ≡ Some (Answered r x) → IsAsked later r ⊎ IsOpen ids r
    went_was_open r zero x e = inr (seat, (let is : rid ≡ r = cc e in here ∙ ap (λ n. Some n) is))
    went_was_open r (suc j) x e = elim (rest.was_open r j x e) [
      | inl (i, p, is) ↦ inl (suc i, p, is)
      | inr (at, is) ↦ inr (at, (stays at r is).1)
    ]

    went_rest : IsRest arrived ids later
    went_rest = record {
      is_new = went_new;
      asked_once = went_asked_once;
      answered_once = went_once;
      is_answered = went_answered;
      open_answered = went_open_answered;
      was_open = went_was_open;
    }

  pub went_follows : (x : Response) (trace : List TraceEvent) → Follows arrived (seated seat None ids) trace → Follows arrived ids (Answered rid x ∷ trace)
  went_follows x trace follows distinct = went_rest x trace distinct (follows (went_distinct distinct))
