-- How the code keeps the members of groups.
use Rattle.std.specs.Prelude.{◌≡◌, ℕ, List, nat_eq}
use Rattle.std.specs.BTreeSet.{BTreeSet, contains}
use Rattle.std.specs.List.{list_any}
use Rattle.std.specs.Ordering.{nat_cmp}

-- The set has exactly these.
abbrev pub AreMembers : List ℕ → BTreeSet ℕ → Type 0
AreMembers rids set = (r : ℕ) → contains nat_cmp set r ≡ list_any (nat_eq r) rids
