-- How many workers there may be.
use Rattle.std.specs.Prelude.{ℕ, ◌<◌, ◌≤◌}
use Rattle.claims.specs.declared.workers.TheConstants.{MOST_WORKERS}

-- There may be so many workers: at least one.
abbrev pub MayBe : ℕ → Type 0
MayBe count = (0 < count) × (count ≤ MOST_WORKERS)
