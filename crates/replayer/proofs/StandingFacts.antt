-- Facts on going through a trace.
use Rattle.std.proofs.Common.{◌≡◌, ◌∙◌, ℕ, zero, suc, ◌+◌, ◌<◌, List, [], ◌∷◌, ◌++◌, length, map, take, drop, get_or, Some, None, Bool, true, false, cond, refl, ap, sym, arith, add-one}
use Rattle.std.specs.List.{slice_get}
use Rattle.std.proofs.lemmas.List.{take_more, drop_more, map-append}
use Rattle.period.specs.declared.trace.TraceEvent.{TraceEvent}
use Rattle.period.specs.declared.trace.TraceEvent.TheVariants.{Asked, Answered}
use Rattle.replayer.specs.Differences.{left_open, first_not_departed}
use Rattle.replayer.specs.Standings.{waits, first_waiting}
use Rattle.replayer.specs.declared.reason.ReplayReason.{ReplayReason}
use Rattle.replayer.specs.declared.reason.ReplayReason.TheVariants.{Open as LeftOpen}

-- ---- a list of what is found for each member

pub pushed : {A B : Type 0} (f : A → B) (xs : List A) (i : ℕ) (x : A) (ys new : List B) (y : B) → i < length xs
    → x ≡ get_or xs i x → ys ≡ map f (take i xs) → y ≡ f x → new ≡ ys ++ y ∷ [] → new ≡ map f (take (i + 1) xs)
pushed f xs i x ys new y inside is so_far here made =
    made ∙ ap (λ zs. zs ++ y ∷ []) so_far ∙ ap (λ z. map f (take i xs) ++ z ∷ []) (here ∙ ap f is)
    ∙ sym (map-append f (take i xs) (get_or xs i x ∷ [])) ∙ ap (map f) (sym (take_more xs i x inside))

-- ---- requests that have not departed

pub left_open-none : (d : ℕ → Bool) (es : List TraceEvent) (e : TraceEvent) → left_open d e ≡ None → first_not_departed d (e ∷ es) ≡ first_not_departed d es
left_open-none d es (Asked rid q) h = departed (d rid) h
  where
    departed : (b : Bool) → cond b None (Some (LeftOpen rid)) ≡ None → cond b (first_not_departed d es) (Some (LeftOpen rid)) ≡ first_not_departed d es
    departed true h = refl
    departed false h = cc
left_open-none d es (Answered rid x) h = refl

pub left_open-some : (d : ℕ → Bool) (es : List TraceEvent) (e : TraceEvent) (r : ReplayReason) → left_open d e ≡ Some r → first_not_departed d (e ∷ es) ≡ Some r
left_open-some d es (Asked rid q) r h = left (d rid) h
  where
    left : (b : Bool) → cond b None (Some (LeftOpen rid)) ≡ Some r → cond b (first_not_departed d es) (Some (LeftOpen rid)) ≡ Some r
    left true h = absurd cc
    left false h = h
left_open-some d es (Answered rid x) r h = absurd cc

pub passed : (d : ℕ → Bool) (es : List TraceEvent) (i : ℕ) (e : TraceEvent) → i < length es → e ≡ get_or es i e
    → left_open d e ≡ None → first_not_departed d (drop i es) ≡ first_not_departed d (drop (i + 1) es)
passed d es i e inside is h = ap (first_not_departed d)
    (drop_more es i e inside ∙ ap (λ x. x ∷ drop (i + 1) es) (sym is)) ∙ left_open-none d (drop (i + 1) es) e h

pub met : (d : ℕ → Bool) (es : List TraceEvent) (i : ℕ) (e : TraceEvent) (r : ReplayReason) → i < length es
    → e ≡ get_or es i e → left_open d e ≡ Some r → first_not_departed d (drop i es) ≡ Some r
met d es i e r inside is h = ap (first_not_departed d)
    (drop_more es i e inside ∙ ap (λ x. x ∷ drop (i + 1) es) (sym is)) ∙ left_open-some d (drop (i + 1) es) e r h

-- ---- responses that are waited for

waits_not : (d : ℕ → Bool) (es : List TraceEvent) (i : ℕ) (b : Bool) → i < length es
    → ((e : TraceEvent) → slice_get es i ≡ Some e → b ≡ waits d e) → b ≡ false
    → first_waiting d (drop i es) ≡ suc (first_waiting d (drop (suc i) es))
waits_not d [] i b inside told h = absurd (omega arith)
waits_not d (e ∷ es) zero b inside told h = ap (λ c. cond c 0 (suc (first_waiting d es))) (sym (told e refl) ∙ h)
waits_not d (e ∷ es) (suc i) b inside told h = waits_not d es i b (omega arith) told h

pub waits_on : (d : ℕ → Bool) (es : List TraceEvent) (i : ℕ) (b : Bool) → i < length es
    → ((e : TraceEvent) → slice_get es i ≡ Some e → b ≡ waits d e) → b ≡ false
    → i + first_waiting d (drop i es) ≡ (i + 1) + first_waiting d (drop (i + 1) es)
waits_on d es i b inside told h =
    let next : first_waiting d (drop (suc i) es) ≡ first_waiting d (drop (i + 1) es) = ap (λ n. first_waiting d (drop n es)) (sym (add-one i)) in
    omega (arith, waits_not d es i b inside told h, next)

pub waits_here : (d : ℕ → Bool) (es : List TraceEvent) (i : ℕ) (b : Bool) → i < length es
    → ((e : TraceEvent) → slice_get es i ≡ Some e → b ≡ waits d e) → b ≡ true → first_waiting d (drop i es) ≡ 0
waits_here d [] i b inside told h = absurd (omega arith)
waits_here d (e ∷ es) zero b inside told h = ap (λ c. cond c 0 (suc (first_waiting d es))) (sym (told e refl) ∙ h)
waits_here d (e ∷ es) (suc i) b inside told h = waits_here d es i b (omega arith) told h
