-- A group of the code, as definitions see it.
use Rattle.std.specs.Prelude.{ℕ, List}
use Rattle.period.specs.Groups.{IsSome}
use Rattle.period.specs.declared.group.Group.TheInside.{Inside}

-- the ids of a group's requests
abbrev pub rids_in : Inside → List ℕ
rids_in g = g.rids.items

-- A group of the code has at least one request.
abbrev pub HasSome : Inside → Type 0
HasSome g = IsSome (rids_in g)
