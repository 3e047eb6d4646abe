-- First answers, one member after another.
use Rattle.std.proofs.Common.{◌≡◌, ◌∙◌, ℕ, zero, suc, ◌<◌, ◌+◌, List, [], ◌∷◌, ◌++◌, length, take, get_or, Option, Some, None, Bool, true, false, ◌||◌, inl, inr, refl, ap, sym, arith, append_assoc}
use Rattle.std.specs.List.{list_any}
use Rattle.std.proofs.lemmas.Bool.{cases_eq}
use Rattle.std.proofs.lemmas.List.{append-nil}
use Rattle.std.proofs.lemmas.List.Folds.{list_any-append}
use Rattle.basis.proofs.Booleans.{or-false}
use Rattle.basis.specs.Lists.{nth, or_else, first_answer}
use Rattle.audit_meaning.specs.Lists.{befores_from, answer_if}
use Rattle.basis.proofs.Options.{some_is, none_is_not}
use Rattle.basis.proofs.Places.{nth_within}
use Rattle.audit_meaning.proofs.Places.{none_first}

-- no answer comes of the first n
abbrev pub NoneBelow : {A B : Type 0} → (A → Option B) → List A → ℕ → Type 0
NoneBelow {A} f xs n = (k : ℕ) (x : A) → k < n → nth xs k ≡ Some x → f x ≡ None

pub none_start : {A B : Type 0} (f : A → Option B) (xs : List A) → NoneBelow f xs 0
none_start f xs k x lt at = absurd (omega arith)

pub none_more : {A B : Type 0} (f : A → Option B) (xs : List A) (n : ℕ) (x : A) → NoneBelow f xs n → nth xs n ≡ Some x → f x ≡ None → NoneBelow f xs (n + 1)
none_more f xs n x h at is k y lt there =
    elim (cases_eq k n) [
      | inl same ↦ ap f (some_is (sym there ∙ ap (nth xs) same ∙ at)) ∙ is
      | inr apart ↦ h k y (omega arith) there
    ]

pub found : {A B : Type 0} (f : A → Option B) (xs : List A) (n : ℕ) (x : A) (y : B) → NoneBelow f xs n → nth xs n ≡ Some x → f x ≡ Some y
    → first_answer f xs ≡ Some y
unfolding first_answer or_else
found f [] n x y h at is = absurd (none_is_not at)
found f (z ∷ xs) zero x y h at is = ap (λ o. or_else o (first_answer f xs)) (ap f (some_is at) ∙ is)
found f (z ∷ xs) (suc n) x y h at is =
    ap (λ o. or_else o (first_answer f xs)) (h 0 z (omega arith) refl) ∙ found f xs n x y (λ k w lt st. h (suc k) w (omega arith) st) at is

pub none_all : {A B : Type 0} (f : A → Option B) (xs : List A) → NoneBelow f xs (length xs) → first_answer f xs ≡ None
none_all f xs h = none_first f xs (λ i x at. h i x (nth_within xs i x at) at)

-- ---- answers of tests

pub answers : {A : Type 0} (b : Bool) (x : A) → b ≡ true → answer_if b x ≡ Some x
unfolding answer_if
answers true x e = refl
answers false x e = absurd (cc)

pub silent : {A : Type 0} (b : Bool) (x : A) → b ≡ false → answer_if b x ≡ None
unfolding answer_if
silent true x e = absurd (cc)
silent false x e = refl

-- ---- one member more

or_none : {B : Type 0} (a : Option B) → or_else a None ≡ a
unfolding or_else
or_none None = refl
or_none (Some x) = refl

or_assoc : {B : Type 0} (a b c : Option B) → or_else (or_else a b) c ≡ or_else a (or_else b c)
unfolding or_else
or_assoc None b c = refl
or_assoc (Some x) b c = refl

pub first_both : {A B : Type 0} (f : A → Option B) (xs ys : List A) → first_answer f (xs ++ ys) ≡ or_else (first_answer f xs) (first_answer f ys)
unfolding first_answer or_else
first_both f [] ys = refl
first_both f (x ∷ xs) ys = ap (or_else (f x)) (first_both f xs ys) ∙ sym (or_assoc (f x) (first_answer f xs) (first_answer f ys))

pub first_one : {A B : Type 0} (f : A → Option B) (x : A) → first_answer f (x ∷ []) ≡ f x
unfolding first_answer
first_one f x = or_none (f x)

pub first_more : {A B : Type 0} (f : A → Option B) (xs : List A) (x : A) → first_answer f (xs ++ x ∷ []) ≡ or_else (first_answer f xs) (f x)
first_more f xs x = first_both f xs (x ∷ []) ∙ ap (or_else (first_answer f xs)) (first_one f x)

pub any_more : {A : Type 0} (p : A → Bool) (xs : List A) (x : A) → list_any p (xs ++ x ∷ []) ≡ (list_any p xs || p x)
any_more p xs x = list_any-append p xs (x ∷ []) ∙ ap (λ b. list_any p xs || b) (or-false (p x))

pub befores_both : {A : Type 0} (past xs ys : List A) → befores_from past (xs ++ ys) ≡ befores_from past xs ++ befores_from (past ++ xs) ys
befores_both past [] ys = ap (λ p. befores_from p ys) (sym (append-nil past))
befores_both past (x ∷ xs) ys = ap (λ zs. (past, x) ∷ zs)
    (befores_both (past ++ x ∷ []) xs ys ∙ ap (λ p. befores_from (past ++ x ∷ []) xs ++ befores_from p ys) (append_assoc past (x ∷ []) xs))

-- ---- places

pub some_at : {A : Type 0} (xs : List A) (i : ℕ) (x : A) → i < length xs → x ≡ get_or xs i x → nth xs i ≡ Some x
some_at [] i x lt is = absurd (omega arith)
some_at (y ∷ xs) zero x lt is = ap (λ z. Some z) (sym is)
some_at (y ∷ xs) (suc i) x lt is = some_at xs i x (omega arith) is

pub cut_at : {A : Type 0} (xs : List A) (i : ℕ) (x : A) → nth xs i ≡ Some x → (rest : List A) × (xs ≡ take i xs ++ x ∷ rest)
cut_at [] i x at = absurd (none_is_not at)
cut_at (y ∷ xs) zero x at = (xs, ap (λ z. z ∷ xs) (some_is at))
cut_at (y ∷ xs) (suc i) x at = let more = cut_at xs i x at in (more.0, ap (λ zs. y ∷ zs) more.1)
