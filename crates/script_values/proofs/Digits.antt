-- The value of digits.
use Rattle.std.proofs.Common.{◌≡◌, ◌≤◌, ◌<◌, ◌+◌, ◌-◌, ◌*◌, ℕ, List, [], ◌∷◌, length, get_or, drop, arith}
use Rattle.std.proofs.lemmas.List.{at_drop_more}
use Rattle.script_meaning.specs.Operators.{digits_value}

-- it never falls
pub digits_grow : (n : ℕ) (ds : List ℕ) → n ≤ digits_value n ds
digits_grow n [] = omega arith
digits_grow n (d ∷ ds) = omega (arith, digits_grow (10 * n + (d - 48)) ds)

-- one digit more
pub digits_step : (n : ℕ) (ds : List ℕ) (i : ℕ) → i < length ds → digits_value n (drop i ds) ≡ digits_value (10 * n + (get_or ds i 0 - 48)) (drop (i + 1) ds)
digits_step n ds i h = at_drop_more (digits_value n) ds i 0 h

pub digits_above : (n : ℕ) (ds : List ℕ) (i : ℕ) → i < length ds → 10 * n + (get_or ds i 0 - 48) ≤ digits_value n (drop i ds)
digits_above n ds i h = omega (arith, digits_step n ds i h, digits_grow (10 * n + (get_or ds i 0 - 48)) (drop (i + 1) ds))
