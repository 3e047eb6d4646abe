-- What is known of the ids up to a place, and one event more.
use Rattle.std.proofs.Common.{◌≡◌, ◌≢◌, ℕ, ◌+◌, ◌<◌, ◌≤◌, List, Option, Some, None, true, false, ◌⊎◌, inl, inr, ap, sym, ◌∙◌, refl, subst, arith}
use Rattle.std.proofs.lemmas.Bool.{cases_eq}
use Rattle.basis.specs.Lists.{nth}
use Rattle.script_tree.specs.Requests.{Request}
use Rattle.script_tree.specs.declared.request.Response.{Response}
use Rattle.period.specs.declared.trace.TraceEvent.{TraceEvent}
use Rattle.period.specs.declared.trace.TraceEvent.TheVariants.{Asked, Answered}
use Rattle.trace_format.specs.Balance.{IsAskedBefore, IsAnsweredBefore, IsFitting, IsAskedAgain, IsAnsweredInVain}
use Rattle.trace_format.specs.Stages.{id_of, fits, stage_after}
use Rattle.trace_format.specs.declared.balance.Stage.{Stage}
use Rattle.trace_format.specs.declared.balance.Stage.TheVariants.{Open, Closed}

-- what is known of an id tells what stands before the place
abbrev pub StageIs : List TraceEvent → ℕ → ℕ → Option Stage → Type 0
StageIs trace n r None = ¬ IsAskedBefore trace n r
StageIs trace n r (Some Open) = IsAskedBefore trace n r × ¬ IsAnsweredBefore trace n r
StageIs trace n r (Some Closed) = IsAskedBefore trace n r × IsAnsweredBefore trace n r

pub record Known (stage : ℕ → Option Stage) (trace : List TraceEvent) (n : ℕ) : Type 0 where
  pub stages : (r : ℕ) → StageIs trace n r (stage r)
  pub fitting : (k : ℕ) → k < n → IsFitting trace k

none_before : (trace : List TraceEvent) (r : ℕ) (o : Option Stage) → o ≡ None → StageIs trace 0 r o
none_before trace r None e = λ h. absurd (let p : h.0 < 0 = h.2 in omega arith)
none_before trace r (Some stage) e = absurd (cc)

pub known-start : (stage : ℕ → Option Stage) (trace : List TraceEvent) → ((r : ℕ) → stage r ≡ None) → Known stage trace 0
known-start stage trace e = record {
  stages = λ r. none_before trace r (stage r) (e r);
  fitting = λ k h. absurd (omega arith);
}

asked_before-more : (trace : List TraceEvent) (m n r : ℕ) → m ≤ n → IsAskedBefore trace m r → IsAskedBefore trace n r
asked_before-more trace m n r le (k, q, h, e) = (k, q, omega arith, e)

answered_before-more : (trace : List TraceEvent) (m n r : ℕ) → m ≤ n → IsAnsweredBefore trace m r → IsAnsweredBefore trace n r
answered_before-more trace m n r le (k, x, h, e) = (k, x, omega arith, e)

asked_before-last : (trace : List TraceEvent) (n r : ℕ) → IsAskedBefore trace (n + 1) r → IsAskedBefore trace n r ⊎ ((q : Request) × (nth trace n ≡ Some (Asked r q)))
asked_before-last trace n r (k, q, h, e) =
    elim (cases_eq k n) [ inl same ↦ inr (q, ap (nth trace) (sym same) ∙ e) | inr apart ↦ inl (k, q, omega arith, e) ]

answered_before-last : (trace : List TraceEvent) (n r : ℕ) → IsAnsweredBefore trace (n + 1) r → IsAnsweredBefore trace n r ⊎ ((x : Response) × (nth trace n ≡ Some (Answered r x)))
answered_before-last trace n r (k, x, h, e) =
    elim (cases_eq k n) [ inl same ↦ inr (x, ap (nth trace) (sym same) ∙ e) | inr apart ↦ inl (k, x, omega arith, e) ]

asked_is_not : (o : Option TraceEvent) (r s : ℕ) (q : Request) (x : Response) → o ≡ Some (Asked r q) → o ≡ Some (Answered s x) → ⊥
asked_is_not o r s q x h k = cc

same_asked : (e : TraceEvent) (r : ℕ) (q : Request) → Some e ≡ Some (Asked r q) → r ≡ id_of e
same_asked (Asked rid p) r q h = cc
same_asked (Answered rid x) r q h = absurd (cc)

same_answered : (e : TraceEvent) (r : ℕ) (x : Response) → Some e ≡ Some (Answered r x) → r ≡ id_of e
same_answered (Asked rid p) r x h = absurd (cc)
same_answered (Answered rid y) r x h = cc

-- an event of another id changes nothing
kept : (trace : List TraceEvent) (n r : ℕ) (o : Option Stage) (e : TraceEvent) → nth trace n ≡ Some e → r ≢ id_of e → StageIs trace n r o → StageIs trace (n + 1) r o
kept trace n r None e is apart h = λ more. elim (asked_before-last trace n r more) [ inl before ↦ h before | inr here ↦ apart (same_asked e r here.0 (sym is ∙ here.1)) ]
kept trace n r (Some Open) e is apart h = (asked_before-more trace n (n + 1) r (omega arith) h.0, λ more. elim (answered_before-last trace n r more) [ inl before ↦ h.1 before | inr here ↦ apart (same_answered e r here.0 (sym is ∙ here.1)) ])
kept trace n r (Some Closed) e is apart h = (asked_before-more trace n (n + 1) r (omega arith) h.0, answered_before-more trace n (n + 1) r (omega arith) h.1)

-- a request whose id is new fits, and is open
fitting-asked : (trace : List TraceEvent) (n rid : ℕ) (q : Request) → nth trace n ≡ Some (Asked rid q) → ¬ IsAskedBefore trace n rid → IsFitting trace n
fitting-asked trace n rid q is new = record {
  is_new = λ r p e. let same : r ≡ rid = same_asked (Asked rid q) r p (sym is ∙ e) in λ h. new (subst (IsAskedBefore trace n) same h);
  was_asked = λ r x e. absurd (asked_is_not (nth trace n) rid r q x is e);
  is_open = λ r x e. absurd (asked_is_not (nth trace n) rid r q x is e);
}

-- a response to an open request fits
fitting-answered : (trace : List TraceEvent) (n rid : ℕ) (x : Response) → nth trace n ≡ Some (Answered rid x) → IsAskedBefore trace n rid → ¬ IsAnsweredBefore trace n rid → IsFitting trace n
fitting-answered trace n rid x is asked open' = record {
  is_new = λ r q e. absurd (asked_is_not (nth trace n) r rid q x e is);
  was_asked = λ r y e. let same : rid ≡ r = sym (same_answered (Answered rid x) r y (sym is ∙ e)) in subst (IsAskedBefore trace n) same asked;
  is_open = λ r y e. let same : r ≡ rid = same_answered (Answered rid x) r y (sym is ∙ e) in λ h. open' (subst (IsAnsweredBefore trace n) same h);
}

fitting-more : (trace : List TraceEvent) (n : ℕ) → ((k : ℕ) → k < n → IsFitting trace k) → IsFitting trace n → (k : ℕ) → k < n + 1 → IsFitting trace k
fitting-more trace n before here k h =
    elim (cases_eq k n) [ inl same ↦ subst (IsFitting trace) (sym same) here | inr apart ↦ before k (omega arith) ]

new_fits : (rid : ℕ) (q : Request) (o : Option Stage) → fits (Asked rid q) o ≡ true → o ≡ None
new_fits rid q None h = refl
new_fits rid q (Some stage) h = absurd (cc)

open_fits : (rid : ℕ) (x : Response) (o : Option Stage) → fits (Answered rid x) o ≡ true → o ≡ Some Open
open_fits rid x None h = absurd (cc)
open_fits rid x (Some Open) h = refl
open_fits rid x (Some Closed) h = absurd (cc)

stage_from : (stage : ℕ → Option Stage) (trace : List TraceEvent) (n r : ℕ) (o : Option Stage) → Known stage trace n → stage r ≡ o → StageIs trace n r o
stage_from stage trace n r o known e = let P : Option Stage → Type 0 = λ w. StageIs trace n r w in subst P e (known.stages r)

-- what is known of each id behind the event
stages-more : (stage after : ℕ → Option Stage) (trace : List TraceEvent) (n : ℕ) (e : TraceEvent) → nth trace n ≡ Some e → Known stage trace n → ((r : ℕ) → r ≢ id_of e → after r ≡ stage r) → StageIs trace (n + 1) (id_of e) (after (id_of e)) → (r : ℕ) → StageIs trace (n + 1) r (after r)
stages-more stage after trace n e is known others here r =
    elim (cases_eq r (id_of e)) [
      | inl same ↦ let P : ℕ → Type 0 = λ s. StageIs trace (n + 1) s (after s) in subst P (sym same) here
      | inr apart ↦ let P : Option Stage → Type 0 = λ o. StageIs trace (n + 1) r o in subst P (sym (others r apart)) (kept trace n r (stage r) e is apart (known.stages r))
    ]

not_answered : (stage : ℕ → Option Stage) (trace : List TraceEvent) (n rid : ℕ) (q : Request) → nth trace n ≡ Some (Asked rid q) → Known stage trace n → ¬ IsAskedBefore trace n rid → ¬ IsAnsweredBefore trace (n + 1) rid
not_answered stage trace n rid q is known new more =
    elim (answered_before-last trace n rid more) [
      | inl before ↦ new (asked_before-more trace before.0 n rid (let p : before.0 < n = before.2 in omega arith) ((known.fitting before.0 before.2).was_asked rid before.1 before.3))
      | inr here ↦ asked_is_not (nth trace n) rid rid q here.0 is here.1
    ]

pub known-more : (stage after : ℕ → Option Stage) (trace : List TraceEvent) (n : ℕ) (e : TraceEvent) → nth trace n ≡ Some e → Known stage trace n → fits e (stage (id_of e)) ≡ true → after (id_of e) ≡ Some (stage_after e) → ((r : ℕ) → r ≢ id_of e → after r ≡ stage r) → Known after trace (n + 1)
known-more stage after trace n (Asked rid q) is known fit here others =
    let new : ¬ IsAskedBefore trace n rid = stage_from stage trace n rid None known (new_fits rid q (stage rid) fit) in
    let now : StageIs trace (n + 1) rid (Some Open) = ((n, q, omega arith, is), not_answered stage trace n rid q is known new) in
    let P : Option Stage → Type 0 = λ o. StageIs trace (n + 1) rid o in
    record {
      stages = stages-more stage after trace n (Asked rid q) is known others (subst P (sym here) now);
      fitting = fitting-more trace n known.fitting (fitting-asked trace n rid q is new);
    }
known-more stage after trace n (Answered rid x) is known fit here others =
    let was : StageIs trace n rid (Some Open) = stage_from stage trace n rid (Some Open) known (open_fits rid x (stage rid) fit) in
    let now : StageIs trace (n + 1) rid (Some Closed) = (asked_before-more trace n (n + 1) rid (omega arith) was.0, (n, x, omega arith, is)) in
    let P : Option Stage → Type 0 = λ o. StageIs trace (n + 1) rid o in
    record {
      stages = stages-more stage after trace n (Answered rid x) is known others (subst P (sym here) now);
      fitting = fitting-more trace n known.fitting (fitting-answered trace n rid x is was.0 was.1);
    }

-- an event that doesn't fit what is known
misfit : (trace : List TraceEvent) (n : ℕ) (e : TraceEvent) (o : Option Stage) → nth trace n ≡ Some e → StageIs trace n (id_of e) o → fits e o ≡ false → IsAskedAgain trace n (id_of e) ⊎ IsAnsweredInVain trace n (id_of e)
misfit trace n (Asked rid q) None is h unfit = absurd (cc)
misfit trace n (Asked rid q) (Some Open) is h unfit = inl (q, is, h.0)
misfit trace n (Asked rid q) (Some Closed) is h unfit = inl (q, is, h.0)
misfit trace n (Answered rid x) None is h unfit = inr (x, is, inl h)
misfit trace n (Answered rid x) (Some Open) is h unfit = absurd (cc)
misfit trace n (Answered rid x) (Some Closed) is h unfit = inr (x, is, inr h.1)

pub known-misfit : (stage : ℕ → Option Stage) (trace : List TraceEvent) (n : ℕ) (e : TraceEvent) → nth trace n ≡ Some e → Known stage trace n → fits e (stage (id_of e)) ≡ false → IsAskedAgain trace n (id_of e) ⊎ IsAnsweredInVain trace n (id_of e)
known-misfit stage trace n e is known unfit = misfit trace n e (stage (id_of e)) is (known.stages (id_of e)) unfit
