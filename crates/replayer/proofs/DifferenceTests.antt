-- What the tests of a difference tell, by places.
use Rattle.std.proofs.Common.{◌≡◌, ℕ, zero, suc, ◌<◌, Bool, true, false, cond, not, List, [], ◌∷◌, ◌++◌, ◌||◌, Some, None, Option, refl, sym, ap, subst, ◌∙◌, arith, true≢false, nat_eq, inl, inr}
use Rattle.std.proofs.lemmas.Bool.{cases_Bool, eqb-true, eq-eqb, not-false, or_parts, or_from, not_from_true}
use Rattle.std.proofs.Math.Bool.{or-false}
use Rattle.std.proofs.lemmas.List.Folds.{list_any-append}
use Rattle.std.specs.List.{list_any}
use Rattle.basis.specs.Lists.{nth}
use Rattle.script_tree.specs.Requests.{Request}
use Rattle.period.specs.Traces.{request_in, request_of}
use Rattle.script_tree.specs.declared.request.Response.{Response}
use Rattle.period.specs.declared.schedule.Moment.{Moment}
use Rattle.period.specs.declared.schedule.Moment.TheVariants.{Arrive, Depart}
use Rattle.period.specs.declared.trace.TraceEvent.{TraceEvent}
use Rattle.period.specs.declared.trace.TraceEvent.TheVariants.{Asked, Answered}
use Rattle.replayer.specs.Differences.{is_arrival, is_departure, has_arrived, has_departed, is_too_early, first_not_departed}
use Rattle.replayer.specs.declared.reason.ReplayReason.{ReplayReason}
use Rattle.replayer.specs.declared.reason.ReplayReason.TheVariants.{Open as LeftOpen}
use Rattle.basis.proofs.Options.{some_is, none_is_not}
use Rattle.basis.proofs.Places.{In, any_true, true_any, false_any, first_some, some_first}

-- ---- arrivals and departures

is_arrival-true : (r : ℕ) (m : Moment) → is_arrival r m ≡ true → m ≡ Arrive r
is_arrival-true r (Arrive rid) e = ap (λ x. Arrive x) (sym (eqb-true r rid e))
is_arrival-true r m e = absurd (true≢false (sym e))

is_departure-true : (r : ℕ) (m : Moment) → is_departure r m ≡ true → m ≡ Depart r
is_departure-true r (Depart rid) e = ap (λ x. Depart x) (sym (eqb-true r rid e))
is_departure-true r m e = absurd (true≢false (sym e))

pub arrived_at : (past : List Moment) (r : ℕ) → has_arrived past r ≡ true → In past (Arrive r)
unfolding has_arrived
arrived_at past r e = let m = any_true (is_arrival r) past e in (m.1.0, m.1.1 ∙ ap (λ x. Some x) (is_arrival-true r m.0 m.2))

pub has_arrived-at : (past : List Moment) (r i : ℕ) → nth past i ≡ Some (Arrive r) → has_arrived past r ≡ true
unfolding has_arrived
has_arrived-at past r i e = true_any (is_arrival r) past i (Arrive r) e (eq-eqb r r refl)

pub not_arrived : (past : List Moment) (r : ℕ) → ((i : ℕ) → nth past i ≡ Some (Arrive r) → ⊥) → has_arrived past r ≡ false
unfolding has_arrived
not_arrived past r n = false_any (is_arrival r) past (λ i m h t. n i (h ∙ ap (λ x. Some x) (is_arrival-true r m t)))

pub departed_at : (past : List Moment) (r : ℕ) → has_departed past r ≡ true → In past (Depart r)
unfolding has_departed
departed_at past r e = let m = any_true (is_departure r) past e in (m.1.0, m.1.1 ∙ ap (λ x. Some x) (is_departure-true r m.0 m.2))

pub has_departed-at : (past : List Moment) (r i : ℕ) → nth past i ≡ Some (Depart r) → has_departed past r ≡ true
unfolding has_departed
has_departed-at past r i e = true_any (is_departure r) past i (Depart r) e (eq-eqb r r refl)

-- ---- one more moment

pub arrived_more : (past : List Moment) (m : Moment) (r : ℕ) → has_arrived (past ++ m ∷ []) r ≡ (has_arrived past r || is_arrival r m)
unfolding has_arrived
arrived_more past m r = list_any-append (is_arrival r) past (m ∷ []) ∙ ap (λ b. list_any (is_arrival r) past || b) (or-false (is_arrival r m))

pub departed_more : (past : List Moment) (m : Moment) (r : ℕ) → has_departed (past ++ m ∷ []) r ≡ (has_departed past r || is_departure r m)
unfolding has_departed
departed_more past m r = list_any-append (is_departure r) past (m ∷ []) ∙ ap (λ b. list_any (is_departure r) past || b) (or-false (is_departure r m))

-- ---- requests

request_in-some : (r : ℕ) (event : TraceEvent) (q : Request) → request_in r event ≡ Some q → event ≡ Asked r q
request_in-some r (Asked rid p) q e = elim (cases_Bool (nat_eq r rid)) [
  | inl t ↦ both (eqb-true r rid t) (some_is (sym (ap (λ b. cond b (Some p) None) t) ∙ e))
  | inr t ↦ absurd (none_is_not (sym (ap (λ b. cond b (Some p) None) t) ∙ e))
]
  where
    both : r ≡ rid → p ≡ q → Asked rid p ≡ Asked r q
    both g h = cc
request_in-some r (Answered rid x) q e = absurd (none_is_not e)

pub asked_at : (trace : List TraceEvent) (r : ℕ) (q : Request) → request_of trace r ≡ Some q → (i : ℕ) × (nth trace i ≡ Some (Asked r q))
unfolding request_of
asked_at trace r q e =
    let event = first_some (request_in r) trace q e in
    (event.1.0, event.1.1 ∙ ap (λ x. Some x) (request_in-some r event.0 q event.2))

pub request_of-at : (trace : List TraceEvent) (r i : ℕ) (q : Request) → nth trace i ≡ Some (Asked r q) → (p : Request) × (request_of trace r ≡ Some p)
unfolding request_of
request_of-at trace r i q e = some_first (request_in r) trace i (Asked r q) q e (ap (λ b. cond b (Some q) None) (eq-eqb r r refl))

-- ---- what stands before a request

answered_is_not : (rid a : ℕ) (p : Request) (x : Response) → Some (Asked rid p) ≡ Some (Answered a x) → ⊥
answered_is_not rid a p x e = let same : Asked rid p ≡ Answered a x = some_is e in cc

asked_is_not : (rid r : ℕ) (y : Response) (q : Request) → Some (Answered rid y) ≡ Some (Asked r q) → ⊥
asked_is_not rid r y q e = let same : Answered rid y ≡ Asked r q = some_is e in cc

same_asked : (rid r : ℕ) (p q : Request) → Some (Asked rid p) ≡ Some (Asked r q) → rid ≡ r
same_asked rid r p q e = let same : Asked rid p ≡ Asked r q = some_is e in cc

same_answered : (rid a : ℕ) (y x : Response) → Some (Answered rid y) ≡ Some (Answered a x) → rid ≡ a
same_answered rid a y x e = let same : Answered rid y ≡ Answered a x = some_is e in cc

-- Where a request that stands first at this place isn't too early, each response before it is of a departed request.
pub departed_before : (trace : List TraceEvent) (past : List Moment) (r i j a : ℕ) (x : Response) (q : Request) → is_too_early trace past r ≡ false
    → nth trace i ≡ Some (Answered a x) → nth trace j ≡ Some (Asked r q) → i < j → ((k : ℕ) (p : Request) → k < j → nth trace k ≡ Some (Asked r p) → ⊥)
    → has_departed past a ≡ true
unfolding is_too_early
departed_before [] past r i j a x q t at_i at_j l first = absurd (none_is_not at_i)
departed_before events past r i zero a x q t at_i at_j l first = absurd (omega arith)
departed_before (Asked rid p ∷ events) past r zero (suc j) a x q t at_i at_j l first = absurd (answered_is_not rid a p x at_i)
departed_before (Asked rid p ∷ events) past r (suc i) (suc j) a x q t at_i at_j l first = elim (cases_Bool (nat_eq r rid)) [
  | inl same ↦ absurd (first 0 p (omega arith) (ap (λ n. Some (Asked n p)) (sym (eqb-true r rid same))))
  | inr other ↦ departed_before events past r i j a x q (sym (ap (λ b. cond b false (is_too_early events past r)) other) ∙ t) at_i at_j (omega arith)
      (λ k o l h. first (suc k) o (omega arith) h)
]
departed_before (Answered rid y ∷ events) past r zero (suc j) a x q t at_i at_j l first =
    subst (λ n. has_departed past n ≡ true) (same_answered rid a y x at_i)
    (not-false (has_departed past rid) (or_parts (not (has_departed past rid)) (is_too_early events past r) t).0)
departed_before (Answered rid y ∷ events) past r (suc i) (suc j) a x q t at_i at_j l first =
    departed_before events past r i j a x q (or_parts (not (has_departed past rid))
    (is_too_early events past r) t).1 at_i at_j (omega arith) (λ k o l h. first (suc k) o (omega arith) h)

-- And where each such response is of a departed request, it isn't too early.
pub not_too_early : (trace : List TraceEvent) (past : List Moment) (r j : ℕ) (q : Request) → nth trace j ≡ Some (Asked r q)
    → ((i a : ℕ) (x : Response) → nth trace i ≡ Some (Answered a x) → i < j → has_departed past a ≡ true) → is_too_early trace past r ≡ false
unfolding is_too_early
not_too_early [] past r j q at_j before = absurd (none_is_not at_j)
not_too_early (Asked rid p ∷ events) past r zero q at_j before =
    ap (λ b. cond b false (is_too_early events past r)) (eq-eqb r rid (sym (same_asked rid r p q at_j)))
not_too_early (Asked rid p ∷ events) past r (suc j) q at_j before =
    go (nat_eq r rid) (not_too_early events past r j q at_j (λ i a x h l. before (suc i) a x h (omega arith)))
  where
    go : (b : Bool) → is_too_early events past r ≡ false → cond b false (is_too_early events past r) ≡ false
    go true h = refl
    go false h = h
not_too_early (Answered rid y ∷ events) past r zero q at_j before = absurd (asked_is_not rid r y q at_j)
not_too_early (Answered rid y ∷ events) past r (suc j) q at_j before =
    or_from (not (has_departed past rid)) (is_too_early events past r) (not_from_true (has_departed past rid) (before 0 rid y refl (omega arith)))
    (not_too_early events past r j q at_j (λ i a x h l. before (suc i) a x h (omega arith)))

-- ---- departures of all

departed_first : (b : Bool) (rid : ℕ) (rest : Option ReplayReason) → cond b rest (Some (LeftOpen rid)) ≡ None → (b ≡ true) × (rest ≡ None)
departed_first true rid rest e = (refl, e)
departed_first false rid rest e = absurd (none_is_not (sym e))

pub all_departed : (trace : List TraceEvent) (past : List Moment) (r i : ℕ) (q : Request)
    → first_not_departed (has_departed past) trace ≡ None → nth trace i ≡ Some (Asked r q)
    → has_departed past r ≡ true
all_departed [] past r i q e h = absurd (none_is_not h)
all_departed (Asked rid p ∷ events) past r zero q e h =
    subst (λ n. has_departed past n ≡ true) (same_asked rid r p q h)
    (departed_first (has_departed past rid) rid (first_not_departed (has_departed past) events) e).0
all_departed (Asked rid p ∷ events) past r (suc i) q e h =
    all_departed events past r i q (departed_first (has_departed past rid) rid
    (first_not_departed (has_departed past) events) e).1 h
all_departed (Answered rid y ∷ events) past r zero q e h = absurd (asked_is_not rid r y q h)
all_departed (Answered rid y ∷ events) past r (suc i) q e h = all_departed events past r i q e h

pub none_left : (trace : List TraceEvent) (past : List Moment)
    → ((r i : ℕ) (q : Request) → nth trace i ≡ Some (Asked r q) → has_departed past r ≡ true)
    → first_not_departed (has_departed past) trace ≡ None
none_left [] past h = refl
none_left (Asked rid p ∷ events) past h =
    ap (λ b. cond b (first_not_departed (has_departed past) events) (Some (LeftOpen rid))) (h rid 0 p refl) ∙ none_left events past (λ r i q e. h r (suc i) q e)
none_left (Answered rid y ∷ events) past h = none_left events past (λ r i q e. h r (suc i) q e)
