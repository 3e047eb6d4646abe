-- From what is known of the whole trace to whether it is balanced.
use Rattle.std.proofs.Common.{◌≡◌, ◌≢◌, ℕ, ◌<◌, List, length, Option, Some, None, ◌⊎◌, inl, inr, refl, arith}
use Rattle.std.proofs.lemmas.Bool.{cases_lt, cases_order}
use Rattle.basis.proofs.Places.{nth_within}
use Rattle.basis.specs.Lists.{nth}
use Rattle.script_tree.specs.Requests.{Request}
use Rattle.period.specs.Traces.{IsBalanced}
use Rattle.script_tree.specs.declared.request.Response.{Response}
use Rattle.period.specs.declared.trace.TraceEvent.{TraceEvent}
use Rattle.period.specs.declared.trace.TraceEvent.TheVariants.{Asked, Answered}
use Rattle.trace_format.specs.Balance.{IsAskedBefore, IsAnswered, IsFitting, IsAskedAgain, IsAnsweredInVain, IsFirstFault}
use Rattle.trace_format.specs.Stages.{NoneOpen, IsFirstOpen}
use Rattle.trace_format.specs.declared.balance.Stage.{Stage}
use Rattle.trace_format.specs.declared.balance.Stage.TheVariants.{Open, Closed}
use Rattle.trace_format.proofs.StageSteps.{Known, StageIs}

misfit_unbalanced : (trace : List TraceEvent) (n r : ℕ) → IsBalanced trace → IsAskedAgain trace n r ⊎ IsAnsweredInVain trace n r → ⊥
misfit_unbalanced trace n r b (inl (q, is, before)) =
    let same : before.0 ≡ n = b.asked_once r before.0 n before.1 q before.3 is in
    let less : before.0 < n = before.2 in
    omega arith
misfit_unbalanced trace n r b (inr (x, is, inr before)) =
    let same : before.0 ≡ n = b.answered_once r before.0 n before.1 x before.3 is in
    let less : before.0 < n = before.2 in
    omega arith
misfit_unbalanced trace n r b (inr (x, is, inl never)) =
    let asked : (i : ℕ) × (q : Request) × (nth trace i ≡ Some (Asked r q)) = b.was_asked r n x is in
    let answer : (j : ℕ) × (y : Response) × (asked.0 < j) × (nth trace j ≡ Some (Answered r y)) = b.is_answered r asked.0 asked.1 asked.2 in
    let same : answer.0 ≡ n = b.answered_once r answer.0 n answer.1 x answer.3 is in
    let less : asked.0 < answer.0 = answer.2 in
    never (asked.0, asked.1, omega arith, asked.2)

pub misfit_is_fault : (trace : List TraceEvent) (n r : ℕ) → ((k : ℕ) → k < n → IsFitting trace k)
    → IsAskedAgain trace n r ⊎ IsAnsweredInVain trace n r → IsFirstFault trace (Some r)
misfit_is_fault trace n r before here = (λ b. misfit_unbalanced trace n r b here, inl (record { place = n; before = before; here = here }))

fitting_all : (stage : ℕ → Option Stage) (trace : List TraceEvent) → Known stage trace (length trace) → (k : ℕ) → IsFitting trace k
fitting_all stage trace known k =
    elim (cases_lt k (length trace)) [
      | inl inside ↦ known.fitting k inside
      | inr outside ↦ record {
        is_new = λ r q e. absurd (let p : k < length trace = nth_within trace k (Asked r q) e in omega arith);
        was_asked = λ r x e. absurd (let p : k < length trace = nth_within trace k (Answered r x) e in omega arith);
        is_open = λ r x e. absurd (let p : k < length trace = nth_within trace k (Answered r x) e in omega arith);
      }
    ]

answered_unless_open : (trace : List TraceEvent) (i r : ℕ) (q : Request) (o : Option Stage)
    → nth trace i ≡ Some (Asked r q) → StageIs trace (length trace) r o → o ≢ Some Open → IsAnswered trace r
answered_unless_open trace i r q None is h closed = absurd (h (i, q, nth_within trace i (Asked r q) is, is))
answered_unless_open trace i r q (Some Open) is h closed = absurd (closed refl)
answered_unless_open trace i r q (Some Closed) is h closed = (h.1.0, h.1.1, h.1.3)

asked_once : (trace : List TraceEvent) → ((k : ℕ) → IsFitting trace k) → (r i j : ℕ) (p q : Request)
    → nth trace i ≡ Some (Asked r p) → nth trace j ≡ Some (Asked r q) → i ≡ j
asked_once trace fitting r i j p q e f =
    elim (cases_order i j) [
      | inl same ↦ same
      | inr (inl less) ↦ absurd ((fitting j).is_new r q f (i, p, less, e))
      | inr (inr more) ↦ absurd ((fitting i).is_new r p e (j, q, more, f))
    ]

answered_once : (trace : List TraceEvent) → ((k : ℕ) → IsFitting trace k) → (r i j : ℕ) (x y : Response)
    → nth trace i ≡ Some (Answered r x) → nth trace j ≡ Some (Answered r y) → i ≡ j
answered_once trace fitting r i j x y e f =
    elim (cases_order i j) [
      | inl same ↦ same
      | inr (inl less) ↦ absurd ((fitting j).is_open r y f (i, x, less, e))
      | inr (inr more) ↦ absurd ((fitting i).is_open r x e (j, y, more, f))
    ]

answered_later : (trace : List TraceEvent) → ((k : ℕ) → IsFitting trace k) → (r i : ℕ) (q : Request)
    → nth trace i ≡ Some (Asked r q) → IsAnswered trace r
    → (j : ℕ) × (x : Response) × (i < j) × (nth trace j ≡ Some (Answered r x))
answered_later trace fitting r i q is (j, x, e) =
    let asked : IsAskedBefore trace j r = (fitting j).was_asked r x e in
    let same : asked.0 ≡ i = asked_once trace fitting r asked.0 i asked.1 q asked.3 is in
    let less : asked.0 < j = asked.2 in
    (j, x, omega arith, e)

asked_somewhere : (trace : List TraceEvent) → ((k : ℕ) → IsFitting trace k) → (r j : ℕ) (x : Response)
    → nth trace j ≡ Some (Answered r x) → (i : ℕ) × (q : Request) × (nth trace i ≡ Some (Asked r q))
asked_somewhere trace fitting r j x is =
    let asked : IsAskedBefore trace j r = (fitting j).was_asked r x is in
    (asked.0, asked.1, asked.3)

balanced : (stage : ℕ → Option Stage) (trace : List TraceEvent) → Known stage trace (length trace) → NoneOpen stage trace (length trace) → IsBalanced trace
balanced stage trace known none =
    let fitting : (k : ℕ) → IsFitting trace k = fitting_all stage trace known in
    record {
      asked_once = asked_once trace fitting;
      answered_once = answered_once trace fitting;
      is_answered = λ r i q e. answered_later trace fitting r i q e
          (answered_unless_open trace i r q (stage r) e (known.stages r)
          (none i r q (nth_within trace i (Asked r q) e) e));
      was_asked = asked_somewhere trace fitting;
    }

open_unanswered : (trace : List TraceEvent) (r : ℕ) (o : Option Stage) → StageIs trace (length trace) r o → o ≡ Some Open → ¬ IsAnswered trace r
open_unanswered trace r None h e = absurd (cc)
open_unanswered trace r (Some Open) h e = λ (k, x, is). h.1 (k, x, nth_within trace k (Answered r x) is, is)
open_unanswered trace r (Some Closed) h e = absurd (cc)

-- the first open request, if any, is the verdict on a trace whose events fit
pub first_open_is_fault : (stage : ℕ → Option Stage) (trace : List TraceEvent) (o : Option ℕ)
    → Known stage trace (length trace) → IsFirstOpen stage trace o → IsFirstFault trace o
first_open_is_fault stage trace None known h = balanced stage trace known h
first_open_is_fault stage trace (Some r) known (place, q, is, waits, none) =
    let unanswered : ¬ IsAnswered trace r = open_unanswered trace r (stage r) (known.stages r) waits in (
      λ b. let answer : (j : ℕ) × (y : Response) × (place < j) × (nth trace j ≡ Some (Answered r y)) = b.is_answered r place q is in unanswered (answer.0, answer.1, answer.3),
      inr (record {
        fitting = fitting_all stage trace known;
        place = place;
        request = q;
        asks = is;
        unanswered = unanswered;
        before = λ k s p less e. answered_unless_open trace k s p (stage s) e (known.stages s) (none k s p less e);
      }),
    )
