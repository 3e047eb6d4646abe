-- What the head of an event tells of it.
use Rattle.std.proofs.Common.{◌≡◌, ◌<◌, ℕ, zero, suc, List, [], ◌∷◌, length, get_or, Some, nat_eq, false, ap, sym, refl, arith}
use Rattle.std.proofs.lemmas.Bool.{false_from_ne_true, eqb-true}
use Rattle.std.specs.List.{slice_get}
use Rattle.basis.specs.Lists.{nth}
use Rattle.basis.proofs.Options.{some_is, none_is_not}
use Rattle.script_tree.specs.Requests.{Request}
use Rattle.script_tree.specs.declared.request.Response.{Response}
use Rattle.period.specs.declared.trace.TraceEvent.{TraceEvent}
use Rattle.period.specs.declared.trace.TraceEvent.TheVariants.{Asked, Answered}
use Rattle.trace_format.specs.Heads.{head_of}
use Rattle.trace_format.specs.declared.trace_file.EventHead.TheVariants.{Asks, Answers}

pub nth_got : {A : Type 0} (xs : List A) (i : ℕ) → nth xs i ≡ slice_get xs i
nth_got [] i = refl
nth_got (x ∷ xs) zero = refl
nth_got (x ∷ xs) (suc i) = nth_got xs i

pub tell_apart : (r x : ℕ) → (x ≡ r → ⊥) → nat_eq r x ≡ false
tell_apart r x ne = false_from_ne_true (nat_eq r x) (λ t. ne (sym (eqb-true r x t)))

pub same_asks : (r q : ℕ) → Asks r ≡ Asks q → r ≡ q
same_asks r q e = cc

pub same_answers : (r q : ℕ) → Answers r ≡ Answers q → r ≡ q
same_answers r q e = cc

-- an event stands at each place
pub there : (es : List TraceEvent) (i : ℕ) → i < length es → (e : TraceEvent) × (slice_get es i ≡ Some e)
there [] i lt = absurd (omega (arith, lt))
there (e ∷ es) zero lt = (e, refl)
there (e ∷ es) (suc i) lt = there es i (omega (arith, lt))

pub read_there : (es : List TraceEvent) (i : ℕ) (e : TraceEvent) → slice_get es i ≡ Some e → e ≡ get_or es i e
read_there [] i e at = absurd (none_is_not at)
read_there (x ∷ es) zero e at = sym (some_is at)
read_there (x ∷ es) (suc i) e at = read_there es i e at

-- the event of a head
pub is_asked : (e : TraceEvent) (r : ℕ) → Asks r ≡ head_of e → (q : Request) × (e ≡ Asked r q)
is_asked (Asked p q) r is = (q, ap (λ n. Asked n q) (sym (same_asks r p is)))
is_asked (Answered p x) r is = absurd cc

pub is_answered : (e : TraceEvent) (r : ℕ) → Answers r ≡ head_of e → (x : Response) × (e ≡ Answered r x)
is_answered (Asked p q) r is = absurd cc
is_answered (Answered p x) r is = (x, ap (λ n. Answered n x) (sym (same_answers r p is)))
