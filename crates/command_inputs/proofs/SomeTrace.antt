-- A trace is balanced, or a request names its fault.
use Rattle.std.proofs.Common.{◌≡◌, ◌≢◌, ℕ, zero, suc, ◌+◌, List, length, Bool, true, false, Option, Some, None, inl, inr, refl, ap, subst, cond, arith}
use Rattle.std.specs.Prelude.{nat_eq, if◌then◌else◌}
use Rattle.std.proofs.lemmas.Bool.Decides.{eqb_tells}
use Rattle.basis.proofs.Options.{some_once}
use Rattle.basis.specs.Lists.{nth}
use Rattle.period.specs.declared.trace.TraceEvent.{TraceEvent}
use Rattle.trace_format.specs.Balance.{IsFirstFault}
use Rattle.trace_format.specs.Heads.{head_of, HasHead}
use Rattle.trace_format.specs.Stages.{asks_open, fits, head_id, id_of, stage_after, IsFirstOpen, NoneOpen}
use Rattle.trace_format.specs.declared.balance.Stage.{Stage}
use Rattle.trace_format.proofs.Heads.{first_asked, none_more, some_at}
use Rattle.trace_format.proofs.StageSteps.{Known, known-misfit, known-more, known-start}
use Rattle.trace_format.proofs.Verdicts.{first_open_is_fault, misfit_is_fault}

-- what is known of each id behind an event
abbrev stage_behind : TraceEvent → (ℕ → Option Stage) → ℕ → Option Stage
stage_behind e stage r = if nat_eq r (id_of e) then Some (stage_after e) else stage r

module _ (trace : List TraceEvent) where
  -- the id that names its fault, or none
  abbrev Judged : Type 0
  Judged = (o : Option ℕ) × IsFirstFault trace o

  -- the first request of an open id, from a place on
  first_open : (stage : ℕ → Option Stage) (fuel place : ℕ) → place + fuel ≡ length trace → NoneOpen stage trace place
      → (o : Option ℕ) × IsFirstOpen stage trace o
  first_open stage zero place all so_far = (None, subst (NoneOpen stage trace) (omega (arith, all)) so_far)
  first_open stage (suc fuel) place all so_far =
      by (asks_open stage (head_of e.0)) refl (λ more. first_open stage fuel (place + 1) (omega (arith, all)) more)
    where
      e : (e : TraceEvent) × (nth trace place ≡ Some e)
      e = some_at trace place (omega (arith, all))

      has : HasHead trace place (head_of e.0)
      has other is = ap head_of (some_once (nth trace place) e.0 other e.1 is)

      by : (b : Bool) → asks_open stage (head_of e.0) ≡ b → (NoneOpen stage trace (place + 1) → (o : Option ℕ) × IsFirstOpen stage trace o)
          → (o : Option ℕ) × IsFirstOpen stage trace o
      by true is later = (Some (head_id (head_of e.0)), first_asked stage trace place (head_of e.0) (omega (arith, all)) has is so_far)
      by false is later = later (none_more stage trace place (head_of e.0) has is so_far)

  judged_from : (fuel n : ℕ) (stage : ℕ → Option Stage) → n + fuel ≡ length trace → Known stage trace n → Judged
  judged_from zero n stage all known =
      let whole : Known stage trace (length trace) = subst (Known stage trace) (omega (arith, all)) known in
      let found = first_open stage (length trace) 0 (omega arith) (λ k s q below. absurd (omega (arith, below))) in
      (found.0, first_open_is_fault stage trace found.0 whole found.1)
  judged_from (suc fuel) n stage all known =
      by (fits e.0 (stage (id_of e.0))) refl (λ after more. judged_from fuel (n + 1) after (omega (arith, all)) more)
    where
      e : (e : TraceEvent) × (nth trace n ≡ Some e)
      e = some_at trace n (omega (arith, all))

      by : (b : Bool) → fits e.0 (stage (id_of e.0)) ≡ b → ((after : ℕ → Option Stage) → Known after trace (n + 1) → Judged) → Judged
      by true fit later =
          later (stage_behind e.0 stage) (known-more stage (stage_behind e.0 stage) trace n e.0 e.1 known fit here others)
        where
          here : stage_behind e.0 stage (id_of e.0) ≡ Some (stage_after e.0)
          here = elim (eqb_tells (id_of e.0) (id_of e.0)) [
            | inl (is, same) ↦ ap (λ b. cond b (Some (stage_after e.0)) (stage (id_of e.0))) is
            | inr (is, other) ↦ absurd (other refl)
          ]

          others : (r : ℕ) → r ≢ id_of e.0 → stage_behind e.0 stage r ≡ stage r
          others r apart = elim (eqb_tells r (id_of e.0)) [
            | inl (is, same) ↦ absurd (apart same)
            | inr (is, other) ↦ ap (λ b. cond b (Some (stage_after e.0)) (stage r)) is
          ]
      by false unfit later = (Some (id_of e.0), misfit_is_fault trace n (id_of e.0) known.fitting (known-misfit stage trace n e.0 e.1 known unfit))

  pub judged : Judged
  judged = judged_from (length trace) 0 (λ r. None) (omega arith) (known-start (λ r. None) trace (λ r. refl))
