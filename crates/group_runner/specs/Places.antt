-- The least place at which something is wrong.
use Rattle.std.specs.Prelude.{◌≡◌, ℕ, ◌<◌, Bool, true, false, Option, Some, None}

-- It is the least place that passes a test; none where no place does.
abbrev pub IsLeastPlace : (ℕ → Bool) → Option ℕ → Type 0
IsLeastPlace test None = (i : ℕ) → test i ≡ false
IsLeastPlace test (Some p) = (test p ≡ true) × ((i : ℕ) → i < p → test i ≡ false)
