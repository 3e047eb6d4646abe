-- What the head of an event tells of it.
use Rattle.std.proofs.Common.{◌≡◌, ◌≢◌, ◌∙◌, ◌<◌, ◌+◌, ℕ, zero, suc, List, [], ◌∷◌, length, Option, Some, None, true, false, true≢false, inl, inr, ap, sym, subst, refl, arith}
use Rattle.std.proofs.lemmas.Bool.{cases_eq}
use Rattle.basis.specs.Lists.{nth}
use Rattle.script_tree.specs.Requests.{Request}
use Rattle.period.specs.declared.trace.TraceEvent.{TraceEvent}
use Rattle.period.specs.declared.trace.TraceEvent.TheVariants.{Asked, Answered}
use Rattle.trace_format.specs.Heads.{head_of, HasHead}
use Rattle.trace_format.specs.Stages.{head_id, is_open, asks_open, NoneOpen, IsFirstOpen}
use Rattle.trace_format.specs.declared.balance.Stage.{Stage}
use Rattle.trace_format.specs.declared.balance.Stage.TheVariants.{Open, Closed}
use Rattle.trace_format.specs.declared.trace_file.EventHead.{EventHead}

-- an event stands at each place
pub some_at : (xs : List TraceEvent) (i : ℕ) → i < length xs → (e : TraceEvent) × (nth xs i ≡ Some e)
some_at [] i lt = absurd (omega (arith, lt))
some_at (x ∷ xs) zero lt = (x, refl)
some_at (x ∷ xs) (suc i) lt = some_at xs i (omega (arith, lt))

open_is : (o : Option Stage) → is_open o ≡ true → o ≡ Some Open
open_is None e = absurd (true≢false (sym e))
open_is (Some Open) e = refl
open_is (Some Closed) e = absurd (true≢false (sym e))

-- a request of an open id
pub asked_open : (stage : ℕ → Option Stage) (e : TraceEvent) → asks_open stage (head_of e) ≡ true
    → (q : Request) × (e ≡ Asked (head_id (head_of e)) q) × (stage (head_id (head_of e)) ≡ Some Open)
asked_open stage (Asked r q) t = (q, refl, open_is (stage r) t)
asked_open stage (Answered r x) t = absurd (true≢false (sym t))

pub first_asked : (stage : ℕ → Option Stage) (trace : List TraceEvent) (place : ℕ) (head : EventHead)
    → place < length trace → HasHead trace place head → asks_open stage head ≡ true
    → NoneOpen stage trace place → IsFirstOpen stage trace (Some (head_id head))
first_asked stage trace place head lt has t so_far =
    let e = some_at trace place lt in
    let is : head ≡ head_of e.0 = has e.0 e.1 in
    let asked = asked_open stage e.0 (ap (asks_open stage) (sym is) ∙ t) in
    subst (λ h. IsFirstOpen stage trace (Some (head_id h))) (sym is) (place, asked.0, e.1 ∙ ap (λ f. Some f) asked.1, asked.2, so_far)

not_open : (stage : ℕ → Option Stage) (s : ℕ) (q : Request) → asks_open stage (head_of (Asked s q)) ≡ false → stage s ≢ Some Open
not_open stage s q f e = true≢false (sym (ap is_open e) ∙ f)

-- one place more without a request of an open id
pub none_more : (stage : ℕ → Option Stage) (trace : List TraceEvent) (place : ℕ) (head : EventHead) → HasHead trace place head → asks_open stage head ≡ false
    → NoneOpen stage trace place → NoneOpen stage trace (place + 1)
none_more stage trace place head has shut so_far k s q lt at =
    elim (cases_eq k place) [
      | inl same ↦ not_open stage s q (ap (asks_open stage) (sym (has (Asked s q) (ap (nth trace) (sym same) ∙ at))) ∙ shut)
      | inr apart ↦ so_far k s q (omega (arith, lt, apart)) at
    ]
