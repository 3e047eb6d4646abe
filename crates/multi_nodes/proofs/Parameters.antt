-- Two lists of parameters, place by place.
use Rattle.std.proofs.Common.{◌≡◌, ◌<◌, ◌+◌, ℕ, zero, suc, Bool, true, false, ◌&&◌, List, [], ◌∷◌, length, get_or, drop, refl, ap, subst, arith}
use Rattle.basis.specs.Lists.{each}

pub unlike : {A : Type 0} (f : A → A → Bool) (a b : List A) → (length a ≡ length b → ⊥) → each f a b ≡ false
unlike f [] [] h = absurd (h refl)
unlike f [] (y ∷ b) h = refl
unlike f (x ∷ a) [] h = refl
unlike f (x ∷ a) (y ∷ b) h = rw (unlike f a b (λ e. h (ap suc e))) (no_more (f x y))
  where
    no_more : (t : Bool) → (t && false) ≡ false
    no_more true = refl
    no_more false = refl

pub one_place : {A : Type 0} (f : A → A → Bool) (a b : List A) (i : ℕ) (x y : A) → i < length a → i < length b
    → each f (drop i a) (drop i b) ≡ (f (get_or a i x) (get_or b i y) && each f (drop (i + 1) a) (drop (i + 1) b))
one_place f [] b i x y h k = absurd (omega (arith, h))
one_place f (x ∷ a) [] i u v h k = absurd (omega (arith, k))
one_place f (x ∷ a) (y ∷ b) zero u v h k = refl
one_place f (x ∷ a) (y ∷ b) (suc i) u v h k =
    let e : suc (i + 1) ≡ suc i + 1 = omega arith in
    subst (λ j. each f (drop i a) (drop i b)
    ≡ (f (get_or a i u) (get_or b i v) && each f (drop j (x ∷ a)) (drop j (y ∷ b)))) e
    (one_place f a b i u v (omega (arith, h)) (omega (arith, k)))
