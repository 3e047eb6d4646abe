-- Tests of the code and of the definitions.
use Rattle.std.proofs.Common.{◌≡◌, ◌∙◌, ℕ, List, Option, Some, None, Bool, true, false, not, cond, nat_eq, is_none, refl, ◌||◌, ap, sym, true≢false}
use Rattle.std.specs.Prelude.{is_some}
use Rattle.std.proofs.lemmas.Bool.{eqb-true, eq-eqb}
use Rattle.period.specs.Traces.{request_of}
use Rattle.period.specs.declared.trace.TraceEvent.{TraceEvent}
use Rattle.trace_index.specs.Places.{request_place}
use Rattle.trace_index.proofs.PlaceFacts.{request_absent, request_here}
use Rattle.basis.proofs.Options.{none_is_not}
use Rattle.audit_meaning.proofs.Places.{first_none}
use Rattle.period.specs.Traces.{request_in}
use Rattle.period.specs.declared.trace.TraceEvent.TheVariants.{Asked}
use Rattle.trace_index.proofs.HeadFacts.{nth_got}

pub same_bool : (a b : Bool) → (a ≡ true → b ≡ true) → (b ≡ true → a ≡ true) → a ≡ b
same_bool true b f g = sym (f refl)
same_bool false true f g = g refl
same_bool false false f g = refl

pub eq_sym : (a b : ℕ) → nat_eq a b ≡ nat_eq b a
eq_sym a b = same_bool (nat_eq a b) (nat_eq b a) (λ t. eq-eqb b a (sym (eqb-true a b t))) (λ t. eq-eqb a b (sym (eqb-true b a t)))

eq_itself : (a : ℕ) → nat_eq a a ≡ true
eq_itself a = eq-eqb a a refl

absent_is : (es : List TraceEvent) (r : ℕ) (o : Option ℕ) → request_place es r ≡ o → is_none o ≡ is_none (request_of es r)
unfolding request_of
absent_is es r None e = ap is_none (sym (request_absent r es e))
absent_is es r (Some p) e =
    let here = request_here r es p e in
    go (request_of es r) (λ none. none_is_not
    (sym (first_none (request_in r) es p (Asked r here.0) none (nth_got es p ∙ here.1)) ∙ ap (λ b. cond b (Some here.0) None) (eq_itself r)))
  where
    go : {A : Type 0} (o : Option A) → (o ≡ None → ⊥) → false ≡ is_none o
    go None h = absurd (h refl)
    go (Some x) h = refl

-- a request has no place exactly where it isn't in the trace
pub place_tells : (es : List TraceEvent) (r : ℕ) → is_none (request_place es r) ≡ is_none (request_of es r)
place_tells es r = absent_is es r (request_place es r) refl

pub none_not_some : {A : Type 0} (o : Option A) → is_some o ≡ not (is_none o)
none_not_some None = refl
none_not_some (Some x) = refl

pub none_result : {A : Type 0} (r : Bool) (o : Option A) → is_some o ≡ not r → r ≡ is_none o
none_result true None e = refl
none_result false (Some x) e = refl
none_result true (Some x) e = absurd (true≢false e)
none_result false None e = absurd (true≢false (sym e))

pub not_true : (b : Bool) → not b ≡ true → b ≡ false
not_true false e = refl
not_true true e = absurd (true≢false (sym e))

pub or_flip : (a b : Bool) → (a || b) ≡ (b || a)
or_flip true true = refl
or_flip true false = refl
or_flip false true = refl
or_flip false false = refl
