-- The tokens of a file never open one bracket too many.
use Rattle.std.proofs.Common.{◌≡◌, ℕ, zero, suc, ◌+◌, ◌-◌, List, [], ◌∷◌, map, Option, Some, None, refl, sym, subst}
use Rattle.script_tokens.specs.Kinds.{Kind, Token, token}
use Rattle.script_tokens.specs.Tokens.{Lexeme, blank, whole, wrong, lexeme_of}
use Rattle.script_tokens.specs.Scans.{Scan, scan, scanned, counted, bracket_of, open_behind}
use Rattle.script_print.specs.Laws.{NestsWithin}

abbrev pub kinds : List Token → List Kind
kinds ts = map (λ t. t.kind) ts

abbrev Nests : ℕ → Scan → Type 0
Nests depth s = NestsWithin (Some depth) (kinds s.tokens)

counted_nests : (t : Token) (depth : ℕ) (o : Option ℕ) (rest : ℕ → Scan) → open_behind (bracket_of t.kind) depth ≡ o
    → ((d : ℕ) → Nests d (rest d)) → Nests depth (counted t o rest)
counted_nests t depth None rest is h = tt
counted_nests t depth (Some d) rest is h = subst (λ o. NestsWithin o (kinds (rest d).tokens)) (sym is) (h d)

scanned_nests : (at depth : ℕ) (x : Lexeme) (rest : ℕ → ℕ → Scan) → ((d n : ℕ) → Nests d (rest d n)) → Nests depth (scanned at depth x rest)
scanned_nests at depth (blank n) rest h = h depth (n - 1)
scanned_nests at depth (whole kind n) rest h =
    counted_nests (token at kind) depth (open_behind (bracket_of kind) depth) (λ d. rest d (n - 1)) refl
    (λ d. h d (n - 1))
scanned_nests at depth (wrong kind) rest h = tt

pub nests : (bs : List ℕ) (at depth n : ℕ) → Nests depth (scan bs at depth n)
nests [] at depth n = tt
nests (b ∷ bs) at depth (suc n) = nests bs (at + 1) depth n
nests (b ∷ bs) at depth zero = scanned_nests at depth (lexeme_of b bs) (λ d n. scan bs (at + 1) d n) (λ d n. nests bs (at + 1) d n)
