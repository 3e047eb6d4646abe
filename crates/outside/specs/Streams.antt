-- Pieces of streams.
use Rattle.std.specs.Prelude.{◌≡◌, ℕ, ◌<◌, ◌≤◌, List, [], ◌++◌, length, take, drop, Option}
use Rattle.std.specs.Option.{option_map}

-- A write takes this many of these bytes: at least one, unless there is none.
pub record IsTakenFrom (bytes : List ℕ) (count : ℕ) : Type 0 where
  pub within : count ≤ length bytes
  pub some : 0 < length bytes → 0 < count

-- This many of the bytes that were left came into a piece, from their front, and the piece keeps
-- what is behind them. None came only into an empty piece or at the end.
pub record IsGivenFrom (left old new : List ℕ) (count : ℕ) : Type 0 where
  pub within : count ≤ length left
  pub piece : new ≡ take count left ++ drop count old
  pub end : count ≡ 0 → 0 < length old → left ≡ []

-- the bytes written, and these behind them, where it is told
abbrev pub and_then : Option (List ℕ) → List ℕ → Option (List ℕ)
and_then written bytes = option_map (λ before. before ++ bytes) written

-- What was written still stands, and some bytes may stand behind it.
abbrev pub Extends : Option (List ℕ) → Option (List ℕ) → Type 0
Extends before after = (more : List ℕ) × (after ≡ and_then before more)
