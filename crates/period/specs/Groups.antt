-- Groups of requests.
use Rattle.std.specs.Prelude.{◌≢◌, ℕ, List, [], Option}
use Rattle.std.specs.Option.{SomeIff}

-- There is at least one.
abbrev pub IsSome : List ℕ → Type 0
IsSome rids = rids ≢ []

-- There is a group of these requests exactly where there are any.
abbrev pub IsGroupOf : List ℕ → Option (List ℕ) → Type 0
IsGroupOf rids group = SomeIff group (IsSome rids) rids
