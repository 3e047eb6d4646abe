-- Numbers that 64 bits hold.
use Rattle.std.proofs.Common.{◌≡◌, true, false, ℤ, pos, negsuc, zero, suc, Option, Some, None, SomeIff, arith, refl, FitsSigned, w64}
use Rattle.std.proofs.Math.Nat.{pos_of_ne-zero}
use Rattle.std.proofs.lemmas.Bool.Decides.{nat_tests}
use Rattle.std.specs.Int.{CanDivide}
use Rattle.std.specs.Ordering.{int_eq}
use Rattle.std.specs.Int.RustNames.{int_div}
use mir.Val.{of_z}
use Rattle.script_meaning.specs.Operators.{in_64_bits}

pub fits_in : (z : ℤ) → FitsSigned w64 z → in_64_bits z ≡ true
fits_in (pos n) h = grind (arith, nat_tests)
fits_in (negsuc n) h = grind (arith, nat_tests)

pub fits_from : (z : ℤ) → in_64_bits z ≡ true → FitsSigned w64 z
fits_from (pos n) h = record { sfits = grind (arith, nat_tests) }
fits_from (negsuc n) h = record { sfits = grind (arith, nat_tests) }

-- what is computed where 64 bits hold it
pub if_in_range : (o : Option ℤ) (z : ℤ) → SomeIff o (FitsSigned w64 z) z → SomeIff o (in_64_bits z ≡ true) z
if_in_range None z h = λ e. h (fits_from z e)
if_in_range (Some x) z h = (fits_in z h.0, h.1)

-- a number whose bits aren't those of zero
pub not_zero : (n : ℤ) → (of_z w64 n ≡ 0 → ⊥) → int_eq n (pos 0) ≡ false
not_zero (pos zero) h = absurd (h refl)
not_zero (pos (suc k)) h = grind (arith, nat_tests)
not_zero (negsuc k) h = refl

-- what is computed of a quotient where 64 bits hold that
pub if_divided : (o : Option ℤ) (m n z : ℤ) → (of_z w64 n ≡ 0 → ⊥) → SomeIff o (CanDivide w64 m n) z
    → SomeIff o (in_64_bits (int_div m n) ≡ true) z
if_divided None m n z nonzero h = λ e. h (pos_of_ne-zero nonzero, fits_from (int_div m n) e)
if_divided (Some x) m n z nonzero h = (fits_in (int_div m n) h.0.1, h.1)
