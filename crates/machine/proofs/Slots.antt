-- Slots that are written twice.
use Rattle.std.proofs.Common.{◌≡◌, ℕ, zero, suc, List, [], ◌∷◌, refl, ap}
use Rattle.std.specs.Prelude.{slice_set}

pub last_stays : {A : Type 0} (xs : List A) (i : ℕ) (a b : A) → slice_set (slice_set xs i a) i b ≡ slice_set xs i b
last_stays [] i a b = refl
last_stays (x ∷ xs) zero a b = refl
last_stays (x ∷ xs) (suc i) a b = ap (λ ys. x ∷ ys) (last_stays xs i a b)
