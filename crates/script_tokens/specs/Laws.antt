-- What holds of the tokens of each file.
use Rattle.std.specs.Prelude.{ℕ, ◌+◌, ◌≤◌, List, [], ◌∷◌, length, All}
use Rattle.script_tokens.specs.Kinds.{Token}
use Rattle.script_tokens.specs.Tokens.{IsSpelled}
use Rattle.script_tokens.specs.Scans.{scan_of}
use Rattle.script_tokens.specs.declared.fault.End.{End}
use Rattle.script_tokens.specs.declared.fault.End.TheVariants.{File, Fault}

-- where the tokens end: the length of the file, or the place of its fault
abbrev pub place_of_end : End → ℕ
place_of_end (File at) = at
place_of_end (Fault fault) = fault.at

-- no place is below the first bound, each token's is above the one before it, and the end's is behind them all
abbrev pub Rises : ℕ → List Token → End → Type 0
Rises from [] end = from ≤ place_of_end end
Rises from (t ∷ ts) end = (from ≤ t.at) × Rises (t.at + 1) ts end

-- in each file a token stands behind the one before it, and the end behind all of them
abbrev pub PlacesRise : Type 0
PlacesRise = (bytes : List ℕ) → Rises 0 (scan_of bytes).tokens (scan_of bytes).end

-- no more tokens than bytes, and an end within the file
abbrev pub TokensAreWithin : Type 0
TokensAreWithin =
    (bytes : List ℕ) → (length (scan_of bytes).tokens ≤ length bytes) × (place_of_end (scan_of bytes).end ≤ length bytes)

-- each token of a file is one that some bytes spell
abbrev pub EachIsSpelled : Type 0
EachIsSpelled = (bytes : List ℕ) → All (λ t. IsSpelled t.kind) (scan_of bytes).tokens
