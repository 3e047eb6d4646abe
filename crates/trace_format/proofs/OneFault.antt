-- A trace has one fault of balance at most.
use Rattle.std.proofs.Common.{◌≡◌, ℕ, List, Some, None, ◌⊎◌, inl, inr, ap, sym, ◌∙◌, refl}
use Rattle.std.proofs.lemmas.Bool.{cases_order}
use Rattle.basis.proofs.Options.{some_once}
use Rattle.basis.specs.Lists.{nth}
use Rattle.period.specs.declared.trace.TraceEvent.{TraceEvent}
use Rattle.period.specs.declared.trace.TraceEvent.TheVariants.{Asked, Answered}
use Rattle.trace_format.specs.Balance.{IsFitting, IsAskedAgain, IsAnsweredInVain, IsFirstMisfit, IsFirstUnanswered, IsOneFault}
use Rattle.trace_format.specs.Stages.{id_of}

misfit_apart : (trace : List TraceEvent) (n r : ℕ) → IsFitting trace n → IsAskedAgain trace n r ⊎ IsAnsweredInVain trace n r → ⊥
misfit_apart trace n r fit (inl (q, is, before)) = fit.is_new r q is before
misfit_apart trace n r fit (inr (x, is, inl never)) = never (fit.was_asked r x is)
misfit_apart trace n r fit (inr (x, is, inr before)) = fit.is_open r x is before

misfit_event : (trace : List TraceEvent) (n r : ℕ) → IsAskedAgain trace n r ⊎ IsAnsweredInVain trace n r
    → (e : TraceEvent) × (nth trace n ≡ Some e) × (id_of e ≡ r)
misfit_event trace n r (inl (q, is, before)) = (Asked r q, is, refl)
misfit_event trace n r (inr (x, is, why)) = (Answered r x, is, refl)

one_misfit : (trace : List TraceEvent) (r s : ℕ) → IsFirstMisfit trace r → IsFirstMisfit trace s → r ≡ s
one_misfit trace r s a b =
    elim (cases_order a.place b.place) [
      | inl same ↦
          let first = misfit_event trace a.place r a.here in
          let second = misfit_event trace b.place s b.here in
          let one : first.0 ≡ second.0 = some_once (nth trace b.place) first.0 second.0 (ap (nth trace) (sym same) ∙ first.1) second.1 in
          sym first.2 ∙ (ap id_of one ∙ second.2)
      | inr (inl less) ↦ absurd (misfit_apart trace a.place r (b.before a.place less) a.here)
      | inr (inr more) ↦ absurd (misfit_apart trace b.place s (a.before b.place more) b.here)
    ]

one_unanswered : (trace : List TraceEvent) (r s : ℕ) → IsFirstUnanswered trace r → IsFirstUnanswered trace s → r ≡ s
one_unanswered trace r s a b =
    elim (cases_order a.place b.place) [
      | inl same ↦ ap id_of (some_once (nth trace b.place) (Asked r a.request) (Asked s b.request) (ap (nth trace) (sym same) ∙ a.asks) b.asks)
      | inr (inl less) ↦ absurd (a.unanswered (b.before a.place r a.request less a.asks))
      | inr (inr more) ↦ absurd (b.unanswered (a.before b.place s b.request more b.asks))
    ]

pub one_fault : IsOneFault
one_fault trace None None h k = refl
one_fault trace None (Some s) h k = absurd (k.0 h)
one_fault trace (Some r) None h k = absurd (h.0 k)
one_fault trace (Some r) (Some s) (out, inl a) (apart, inl b) = ap Some (one_misfit trace r s a b)
one_fault trace (Some r) (Some s) (out, inl a) (apart, inr b) = absurd (misfit_apart trace a.place r (b.fitting a.place) a.here)
one_fault trace (Some r) (Some s) (out, inr a) (apart, inl b) = absurd (misfit_apart trace b.place s (a.fitting b.place) b.here)
one_fault trace (Some r) (Some s) (out, inr a) (apart, inr b) = ap Some (one_unanswered trace r s a b)
