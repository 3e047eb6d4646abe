-- Facts on places in lists.
use Rattle.std.proofs.Common.{◌≡◌, ℕ, zero, suc, ◌<◌, Bool, true, false, List, [], ◌∷◌, ◌++◌, length, take, get_or, Some, None, Option, inl, inr, refl, sym, ap, ◌∙◌, arith, true≢false}
use Rattle.std.specs.List.{list_all, list_any}
use Rattle.std.proofs.lemmas.Bool.{or_cases, or_parts, false_from_ne_true, true_from_ne_false}
use Rattle.basis.specs.Lists.{nth, first_answer, or_else}
use Rattle.basis.proofs.Booleans.{both-left, both-right}
use Rattle.basis.proofs.Options.{some_is, none_is_not}

abbrev pub In : {A : Type 0} → List A → A → Type 0
In xs x = (i : ℕ) × (nth xs i ≡ Some x)

pub nth_left : {A : Type 0} (xs ys : List A) (i : ℕ) (x : A) → nth xs i ≡ Some x → nth (xs ++ ys) i ≡ Some x
nth_left [] ys i x e = absurd (none_is_not e)
nth_left (z ∷ xs) ys zero x e = e
nth_left (z ∷ xs) ys (suc i) x e = nth_left xs ys i x e

pub nth_next : {A : Type 0} (xs ys : List A) (y : A) → nth (xs ++ y ∷ ys) (length xs) ≡ Some y
nth_next [] ys y = refl
nth_next (x ∷ xs) ys y = nth_next xs ys y

pub nth_within : {A : Type 0} (xs : List A) (i : ℕ) (x : A) → nth xs i ≡ Some x → i < length xs
nth_within [] i x e = absurd (none_is_not e)
nth_within (y ∷ xs) zero x e = omega arith
nth_within (y ∷ xs) (suc i) x e = let h : i < length xs = nth_within xs i x e in omega arith

pub nth_before : {A : Type 0} (xs ys : List A) (i : ℕ) (x : A) → i < length xs → nth (xs ++ ys) i ≡ Some x → nth xs i ≡ Some x
nth_before [] ys i x l e = absurd (omega arith)
nth_before (z ∷ xs) ys zero x l e = e
nth_before (z ∷ xs) ys (suc i) x l e = nth_before xs ys i x (omega arith) e

pub nth_take : {A : Type 0} (xs : List A) (n i : ℕ) (x : A) → i < n → nth xs i ≡ Some x → nth (take n xs) i ≡ Some x
nth_take [] n i x l e = absurd (none_is_not e)
nth_take (y ∷ xs) zero i x l e = absurd (omega arith)
nth_take (y ∷ xs) (suc n) zero x l e = e
nth_take (y ∷ xs) (suc n) (suc i) x l e = nth_take xs n i x (omega arith) e

pub take_nth : {A : Type 0} (xs : List A) (n i : ℕ) (x : A) → nth (take n xs) i ≡ Some x → (i < n) × (nth xs i ≡ Some x)
take_nth [] zero i x e = absurd (none_is_not e)
take_nth [] (suc n) i x e = absurd (none_is_not e)
take_nth (y ∷ xs) zero i x e = absurd (none_is_not e)
take_nth (y ∷ xs) (suc n) zero x e = (omega arith, e)
take_nth (y ∷ xs) (suc n) (suc i) x e = let more = take_nth xs n i x e in (omega (arith, more.0), more.1)

pub nth-get_or : {A : Type 0} (d : A) (xs : List A) (i : ℕ) → i < length xs → nth xs i ≡ Some (get_or xs i d)
nth-get_or d [] i h = absurd (omega arith)
nth-get_or d (x ∷ xs) zero h = refl
nth-get_or d (x ∷ xs) (suc i) h = nth-get_or d xs i (omega arith)

-- ---- tests of members

pub any_true : {A : Type 0} (p : A → Bool) (xs : List A) → list_any p xs ≡ true → (x : A) × (In xs x) × (p x ≡ true)
any_true p [] e = absurd (true≢false (sym e))
any_true p (y ∷ xs) e = elim (or_cases (p y) (list_any p xs) e) [
  | inl h ↦ (y, (0, refl), h)
  | inr h ↦ let more = any_true p xs h in (more.0, (suc more.1.0, more.1.1), more.2)
]

pub any_false : {A : Type 0} (p : A → Bool) (xs : List A) (i : ℕ) (x : A) → list_any p xs ≡ false → nth xs i ≡ Some x → p x ≡ false
any_false p [] i x e h = absurd (none_is_not h)
any_false p (y ∷ xs) zero x e h = ap p (sym (some_is h)) ∙ (or_parts (p y) (list_any p xs) e).0
any_false p (y ∷ xs) (suc i) x e h = any_false p xs i x (or_parts (p y) (list_any p xs) e).1 h

pub true_any : {A : Type 0} (p : A → Bool) (xs : List A) (i : ℕ) (x : A) → nth xs i ≡ Some x → p x ≡ true → list_any p xs ≡ true
true_any p xs i x h t = true_from_ne_false (list_any p xs) (λ e. true≢false (sym t ∙ any_false p xs i x e h))

pub false_any : {A : Type 0} (p : A → Bool) (xs : List A) → ((i : ℕ) (x : A) → nth xs i ≡ Some x → p x ≡ true → ⊥) → list_any p xs ≡ false
false_any p xs n = false_from_ne_true (list_any p xs) (λ e. let x = any_true p xs e in n x.1.0 x.0 x.1.1 x.2)

-- what holds of all holds of each
pub all_at : {A : Type 0} (f : A → Bool) (xs : List A) (i : ℕ) (x : A) → list_all f xs ≡ true → i < length xs → x ≡ get_or xs i x → f x ≡ true
all_at f [] i x a h p = absurd (omega arith)
all_at f (y ∷ ys) zero x a h p = rw p (both-left (f y) _ a)
all_at f (y ∷ ys) (suc i) x a h p = all_at f ys i x (both-right (f y) _ a) (omega arith) p

-- ---- first answers

pub first_some : {A B : Type 0} (f : A → Option B) (xs : List A) (y : B) → first_answer f xs ≡ Some y → (x : A) × (In xs x) × (f x ≡ Some y)
unfolding first_answer or_else
first_some f [] y e = absurd (none_is_not e)
first_some {A} {B} f (x ∷ xs) y e = go (f x) refl e (λ h. first_some f xs y h)
  where
    go : (o : Option B) → f x ≡ o → or_else o (first_answer f xs) ≡ Some y
        → (first_answer f xs ≡ Some y → (z : A) × (In xs z) × (f z ≡ Some y))
        → (z : A) × (In (x ∷ xs) z) × (f z ≡ Some y)
    go None p h rest = let more = rest h in (more.0, (suc more.1.0, more.1.1), more.2)
    go (Some w) p h rest = (x, (0, refl), p ∙ h)

pub some_first : {A B : Type 0} (f : A → Option B) (xs : List A) (i : ℕ) (x : A) (y : B) → nth xs i ≡ Some x
    → f x ≡ Some y → (z : B) × (first_answer f xs ≡ Some z)
unfolding first_answer or_else
some_first f [] i x y h e = absurd (none_is_not h)
some_first f (w ∷ xs) zero x y h e = (y, ap (λ o. or_else o (first_answer f xs)) (ap f (some_is h) ∙ e))
some_first {A} {B} f (w ∷ xs) (suc i) x y h e = go (f w) (some_first f xs i x y h e)
  where
    go : (o : Option B) → (z : B) × (first_answer f xs ≡ Some z) → (z : B) × (or_else o (first_answer f xs) ≡ Some z)
    go None more = more
    go (Some v) more = (v, refl)
