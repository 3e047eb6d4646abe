-- Bytes and digits.
use Rattle.std.proofs.Common.{◌≡◌, ◌<◌, ◌≤◌, ◌+◌, ◌-◌, ◌*◌, ◌/◌, ℕ, zero, suc, List, [], ◌∷◌, length, take, get_or, Bool, true, false, IsTrue, if◌then◌else◌, None, refl, arith}
use Rattle.std.proofs.lemmas.Bool.Decides.{nat_tests}
use Rattle.script_tokens.specs.Tokens.{value_from, within_limit, is_digit, in_class, span}
use Rattle.script_tokens.specs.declared.lexeme.Class.{Class}

pub grows : (ds : List ℕ) (n : ℕ) → n ≤ value_from n ds
grows [] n = omega arith
grows (d ∷ ds) n = omega (arith, grows ds (n * 10 + (d - 48)))

pub over : (n : ℕ) → 9223372036854775807 < n → within_limit n ≡ None
over n h = grind (arith, nat_tests)

-- a value that is too large stays so, whatever digits follow
pub too_large : (ds rest : List ℕ) (value d0 : ℕ) → value_from 0 ds ≡ value_from value (d0 ∷ rest) → d0 - 48 ≤ 9
    → (9223372036854775807 - (d0 - 48)) / 10 < value → within_limit (value_from 0 ds) ≡ None
too_large ds rest value d0 t s l =
    let g : value * 10 + (d0 - 48) ≤ value_from (value * 10 + (d0 - 48)) rest = grows rest (value * 10 + (d0 - 48)) in
    let m : 9223372036854775807 < value * 10 + (d0 - 48) = omega arith in
    over (value_from 0 ds) (rw t (omega (arith, g, m)))

pub digit_small : (b : ℕ) → IsTrue (is_digit b) → b - 48 ≤ 9
digit_small b h = grind (arith, nat_tests)

span_case : (c : Class) (b : ℕ) (bs : List ℕ) (k d : ℕ) (t : Bool) → in_class c b ≡ t
    → ((j : ℕ) → j < length (take (span c bs) bs) → IsTrue (in_class c (get_or (take (span c bs) bs) j d)))
    → k < length (take (if t then suc (span c bs) else 0) (b ∷ bs)) → IsTrue (in_class c (get_or (take (if t then suc (span c bs) else 0) (b ∷ bs)) k d))
span_case c b bs zero d true e more h = rw e refl
span_case c b bs (suc k) d true e more h = more k (omega arith)
span_case c b bs k d false e more h = absurd (omega arith)

-- each byte of a run is of its class
pub span_all : (c : Class) (bs : List ℕ) (k d : ℕ) → k < length (take (span c bs) bs) → IsTrue (in_class c (get_or (take (span c bs) bs) k d))
span_all c [] k d h = absurd (omega arith)
span_all c (b ∷ bs) k d h = span_case c b bs k d (in_class c b) refl (λ j l. span_all c bs j d l) h
