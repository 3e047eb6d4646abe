-- Places rise, and stay within the file.
use Rattle.std.proofs.Common.{ℕ, zero, suc, ◌+◌, ◌-◌, ◌≤◌, List, [], ◌∷◌, length, Option, Some, None, arith}
use Rattle.script_tokens.specs.Kinds.{Token, token}
use Rattle.script_tokens.specs.Tokens.{Lexeme, blank, whole, wrong, lexeme_of}
use Rattle.script_tokens.specs.Scans.{Scan, scan, scanned, counted, bracket_of, open_behind}
use Rattle.script_tokens.specs.Laws.{Rises, PlacesRise, TokensAreWithin, place_of_end}
use Rattle.script_tokens.specs.declared.fault.End.{End}

abbrev Up : ℕ → Scan → Type 0
Up at s = Rises at s.tokens s.end

from_less : (a b : ℕ) (ts : List Token) (end : End) → a ≤ b → Rises b ts end → Rises a ts end
from_less a b [] end h r = omega arith
from_less a b (t ∷ ts) end h r = (omega arith, r.1)

counted_rises : (t : Token) (o : Option ℕ) (rest : ℕ → Scan) → ((d : ℕ) → Up (t.at + 1) (rest d)) → Up t.at (counted t o rest)
counted_rises t None rest h = omega arith
counted_rises t (Some d) rest h = (omega arith, h d)

scanned_rises : (at depth : ℕ) (x : Lexeme) (rest : ℕ → ℕ → Scan) → ((d n : ℕ) → Up (at + 1) (rest d n)) → Up at (scanned at depth x rest)
scanned_rises at depth (blank n) rest h = from_less at (at + 1) (rest depth (n - 1)).tokens (rest depth (n - 1)).end (omega arith) (h depth (n - 1))
scanned_rises at depth (whole kind n) rest h = counted_rises (token at kind) (open_behind (bracket_of kind) depth) (λ d. rest d (n - 1)) (λ d. h d (n - 1))
scanned_rises at depth (wrong kind) rest h = omega arith

rises : (bs : List ℕ) (at depth n : ℕ) → Up at (scan bs at depth n)
rises [] at depth n = omega arith
rises (b ∷ bs) at depth (suc n) = from_less at (at + 1) (scan bs (at + 1) depth n).tokens
    (scan bs (at + 1) depth n).end (omega arith) (rises bs (at + 1) depth n)
rises (b ∷ bs) at depth zero = scanned_rises at depth (lexeme_of b bs) (λ d n. scan bs (at + 1) d n) (λ d n. rises bs (at + 1) d n)

pub places_rise : PlacesRise
places_rise bytes = rises bytes 0 0 0

-- so many tokens and so many bytes at most from a place on
abbrev Within : ℕ → ℕ → Scan → Type 0
Within at len s = (length s.tokens ≤ len) × (place_of_end s.end ≤ at + len)

one_less : (at len : ℕ) (s : Scan) → Within (at + 1) len s → Within at (suc len) s
one_less at len s h = (omega arith, omega arith)

counted_within : (t : Token) (len : ℕ) (o : Option ℕ) (rest : ℕ → Scan) → ((d : ℕ) → Within (t.at + 1) len (rest d)) → Within t.at (suc len) (counted t o rest)
counted_within t len None rest h = (omega arith, omega arith)
counted_within t len (Some d) rest h = let w = h d in (omega (arith, w.0), omega (arith, w.1))

scanned_within : (at depth len : ℕ) (x : Lexeme) (rest : ℕ → ℕ → Scan) → ((d n : ℕ) → Within (at + 1) len (rest d n))
    → Within at (suc len) (scanned at depth x rest)
scanned_within at depth len (blank n) rest h = one_less at len (rest depth (n - 1)) (h depth (n - 1))
scanned_within at depth len (whole kind n) rest h =
    counted_within (token at kind) len (open_behind (bracket_of kind) depth) (λ d. rest d (n - 1)) (λ d. h d (n - 1))
scanned_within at depth len (wrong kind) rest h = (omega arith, omega arith)

within : (bs : List ℕ) (at depth n : ℕ) → Within at (length bs) (scan bs at depth n)
within [] at depth n = (omega arith, omega arith)
within (b ∷ bs) at depth (suc n) = one_less at (length bs) (scan bs (at + 1) depth n) (within bs (at + 1) depth n)
within (b ∷ bs) at depth zero = scanned_within at depth (length bs) (lexeme_of b bs) (λ d n. scan bs (at + 1) d n) (λ d n. within bs (at + 1) d n)

pub tokens_are_within : TokensAreWithin
tokens_are_within bytes =
    let w = within bytes 0 0 0 in (w.0, omega (arith, w.1))
