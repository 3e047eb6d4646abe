-- What begins with a tag.
use Rattle.std.proofs.Common.{◌≡◌, ℕ, ◌+◌, ◌<◌, List, [], ◌∷◌, sym, subst}
use Rattle.wire.specs.Spellings.{IsSpelled, IsFieldAt, byte_field}
use Rattle.wire.proofs.OneSpelling.{byte_one}
use Rattle.wire.proofs.Spelled.{first_part, joined, second_part, same_field}

-- The tag is the byte that was read, and the rest stands behind it.
pub behind : (bytes : List ℕ) (at t mid tag : ℕ) (rest : List ℕ) (next : ℕ) → IsFieldAt byte_field bytes at t mid
    → tag < 256 → IsSpelled bytes at (tag ∷ rest) next → (t ≡ tag) × IsSpelled bytes mid rest next
behind bytes at t mid tag rest next here small p =
    let same = same_field byte_field byte_one bytes at t tag mid (at + 1) here (small, first_part bytes (tag ∷ []) rest at next p) in
    let Behind : ℕ → Type 0 = λ n. IsSpelled bytes n rest next in
    (same.0, subst Behind (sym same.1) (second_part bytes (tag ∷ []) rest at next p))

-- What stands behind the tag that was read is spelled with it.
pub tagged : (bytes : List ℕ) (at t mid tag : ℕ) (rest : List ℕ) (next : ℕ) → IsFieldAt byte_field bytes at t mid → t ≡ tag
    → IsSpelled bytes mid rest next → IsSpelled bytes at (tag ∷ rest) next
tagged bytes at t mid tag rest next here is p =
    let Spelled : ℕ → Type 0 = λ n. IsSpelled bytes at (n ∷ rest) next in
    subst Spelled is (joined bytes (byte_field.spelling t) rest at mid next here.1 p)
