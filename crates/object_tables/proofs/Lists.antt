-- Places in lists.
use Rattle.std.proofs.Common.{◌≡◌, ◌<◌, ◌≤◌, ℕ, zero, suc, List, [], ◌∷◌, length, get_or, set, refl, sym, ap, arith}
use Rattle.basis.specs.Lists.{nth_or, with_nth}

pub nth_or_is : {A : Type 0} (d x : A) (xs : List A) (i : ℕ) → i < length xs → x ≡ get_or xs i x → nth_or d xs i ≡ x
nth_or_is d x [] i h e = absurd (omega arith)
nth_or_is d x (y ∷ ys) zero h e = sym e
nth_or_is d x (y ∷ ys) (suc i) h e = nth_or_is d x ys i (omega arith) e

pub nth_or_past : {A : Type 0} (d : A) (xs : List A) (i : ℕ) → length xs ≤ i → nth_or d xs i ≡ d
nth_or_past d [] i h = refl
nth_or_past d (y ∷ ys) zero h = absurd (omega arith)
nth_or_past d (y ∷ ys) (suc i) h = nth_or_past d ys i (omega arith)

pub with_nth-set : {A : Type 0} (xs : List A) (i : ℕ) (y : A) → with_nth i y xs ≡ set xs i y
with_nth-set [] i y = refl
with_nth-set (x ∷ xs) zero y = refl
with_nth-set (x ∷ xs) (suc i) y = ap (λ ys. x ∷ ys) (with_nth-set xs i y)

pub nth_or-with_nth : {A : Type 0} (d : A) (xs : List A) (i : ℕ) (y : A) → i < length xs → nth_or d (with_nth i y xs) i ≡ y
nth_or-with_nth d [] i y h = absurd (omega arith)
nth_or-with_nth d (x ∷ xs) zero y h = refl
nth_or-with_nth d (x ∷ xs) (suc i) y h = nth_or-with_nth d xs i y (omega arith)

-- the last write stands
pub with_nth-with_nth : {A : Type 0} (xs : List A) (i : ℕ) (y z : A) → with_nth i z (with_nth i y xs) ≡ with_nth i z xs
with_nth-with_nth [] i y z = refl
with_nth-with_nth (x ∷ xs) zero y z = refl
with_nth-with_nth (x ∷ xs) (suc i) y z = ap (λ ys. x ∷ ys) (with_nth-with_nth xs i y z)

-- what is there, written back
pub with_nth_same : {A : Type 0} (d : A) (xs : List A) (i : ℕ) → with_nth i (nth_or d xs i) xs ≡ xs
with_nth_same d [] i = refl
with_nth_same d (x ∷ xs) zero = refl
with_nth_same d (x ∷ xs) (suc i) = ap (λ ys. x ∷ ys) (with_nth_same d xs i)

pub length-with_nth : {A : Type 0} (xs : List A) (i : ℕ) (y : A) → length (with_nth i y xs) ≡ length xs
length-with_nth [] i y = refl
length-with_nth (x ∷ xs) zero y = refl
length-with_nth (x ∷ xs) (suc i) y = ap suc (length-with_nth xs i y)
