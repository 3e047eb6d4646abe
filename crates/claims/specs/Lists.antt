-- Words on lists of numbers.
use Rattle.std.specs.Prelude.{ℕ, ◌<◌, ◌≤◌, List, All, Contains}
use Rattle.std.specs.List.{AllPairs, range_with_len}

-- the numbers below a limit, in order
abbrev pub numbers_below : ℕ → List ℕ
numbers_below limit = range_with_len 0 limit

-- It is one of the numbers, and none of them is less.
pub record IsLeastOf (numbers : List ℕ) (least : ℕ) : Type 0 where
  pub is_one : Contains numbers least
  pub none_less : All (λ number. least ≤ number) numbers

-- The number is greater than each of the numbers.
abbrev pub IsGreaterThanAll : List ℕ → ℕ → Type 0
IsGreaterThanAll numbers number = All (λ n. n < number) numbers

-- Each of the numbers is greater than those before it.
abbrev pub IsRising : List ℕ → Type 0
IsRising numbers = AllPairs (λ earlier later. earlier < later) numbers
