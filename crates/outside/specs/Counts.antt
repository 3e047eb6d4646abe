-- Counts of 64 bits, which stay at their last number.
use Rattle.std.specs.Prelude.{◌≡◌, ℕ, ◌+◌, ◌≤◌, min, max}
use Rattle.outside.specs.declared.TheConstants.{LAST_COUNT}

-- one more, up to the last number
abbrev pub next_count : ℕ → ℕ
next_count n = max n (min (n + 1) LAST_COUNT)

-- The count is at least one more, or stands at the last number.
abbrev pub HasRisen : ℕ → ℕ → Type 0
HasRisen before after = next_count before ≤ after

-- What calls do to a count of something: it never falls, has risen where that came about, and else
-- is what it was.
pub record RisesWhere (before after : ℕ) (so : Type 0) : Type 0 where
  pub no_fall : before ≤ after
  pub risen : so → HasRisen before after
  pub stays : ¬ so → after ≡ before
