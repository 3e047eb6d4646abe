-- Files by name.
use Rattle.std.specs.Prelude.{◌≡◌, ◌≢◌, ℕ, ◌<◌, ◌≤◌, ◌-◌, List, ◌++◌, length, take, drop, Option, Some, is_some}
use Rattle.std.specs.Ordering.{nat_cmp}
use Rattle.std.specs.Cmp.Lexicographic.{slice_cmp}
use Rattle.std.specs.FinMap.{FinMap, get}

-- from names, as their bytes, to bytes
abbrev pub Files : Type 0
Files = FinMap (slice_cmp nat_cmp) (List ℕ)

-- This many bytes of the named file, from the offset on, came into a piece, which keeps what is
-- behind them. None came only into an empty piece or at the file's end.
pub record IsReadFrom (files : Files) (name : List ℕ) (offset : ℕ) (old new : List ℕ) (count : ℕ)
    : Type 0 where
  pub bytes : List ℕ
  pub there : get files name ≡ Some bytes
  pub within : count ≤ length bytes - offset
  pub piece : new ≡ take count (drop offset bytes) ++ drop count old
  pub end : count ≡ 0 → 0 < length old → length bytes ≤ offset

-- Told alike, with the same bytes under every other name.
pub record OthersStay (before after : Option Files) (name : List ℕ) : Type 0 where
  pub told : is_some after ≡ is_some before
  pub others : (old new : Files) → before ≡ Some old → after ≡ Some new
      → (other : List ℕ) → other ≢ name → get new other ≡ get old other
