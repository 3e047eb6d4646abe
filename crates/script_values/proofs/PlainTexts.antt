-- A text of plain bytes is spelled as it is.
use Rattle.std.proofs.Common.{◌≡◌, ◌==◌, ℕ, Bool, true, false, List, [], ◌∷◌, codes, if◌then◌else◌, refl, ap}
use Rattle.std.proofs.lemmas.Bool.{and_parts}
use Rattle.script_meaning.specs.Operators.{escaped_byte, escaped_bytes}
use Rattle.script_values.specs.Plain.{is_plain, are_plain}

by_tests : (amp less greater quote apostrophe : Bool) (b : ℕ)
    → (if amp then false else (if less then false else (if greater then false else (if quote then false else (if apostrophe then false else true))))) ≡ true
    → (if amp then codes "&amp;" else (if less then codes "&lt;" else (if greater then codes "&gt;" else (if quote then codes "&quot;" else (if apostrophe then codes "&#39;" else b ∷ []))))) ≡ b ∷ []
by_tests true less greater quote apostrophe b h = cc
by_tests false true greater quote apostrophe b h = cc
by_tests false false true quote apostrophe b h = cc
by_tests false false false true apostrophe b h = cc
by_tests false false false false true b h = cc
by_tests false false false false false b h = refl

plain_stays : (b : ℕ) → is_plain b ≡ true → escaped_byte b ≡ b ∷ []
plain_stays b h = by_tests (b == 38) (b == 60) (b == 62) (b == 34) (b == 39) b h

pub plain_text_stays : (bytes : List ℕ) → are_plain bytes ≡ true → escaped_bytes bytes ≡ bytes
plain_text_stays [] h = refl
plain_text_stays (b ∷ bytes) h =
    let parts = and_parts (is_plain b) (are_plain bytes) h in
    rw (plain_stays b parts.0) (ap (λ rest. b ∷ rest) (plain_text_stays bytes parts.1))
