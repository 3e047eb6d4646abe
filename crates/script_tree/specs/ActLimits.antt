-- When the values of an act are within the limits of a value.
use Rattle.std.specs.Prelude.{List, [], ◌∷◌, map}
use Rattle.script_tree.specs.Datum.{Datum, IsWithinLimits}
use Rattle.script_tree.specs.declared.operation.Act.{Act}
use Rattle.script_tree.specs.declared.operation.Act.TheVariants.{Read, Write, Get, Put, Remove, Transact, Now, Roll}
use Rattle.script_tree.specs.declared.transaction.Statement.{Statement}
use Rattle.script_tree.specs.declared.transaction.Statement.TheVariants.{Insert, Select, Update, Delete, Expect}
use Rattle.script_tree.specs.declared.transaction.Test.{Test}

-- Each of these values is within the limits of a value.
abbrev pub AreWithinLimits : List Datum → Type 0
AreWithinLimits [] = Unit {0}
AreWithinLimits (d ∷ ds) = IsWithinLimits d × AreWithinLimits ds

-- the values that tests compare with
abbrev pub tested : List Test → List Datum
tested tests = map (λ t. t.value) tests

-- The values that a statement inserts, sets and tests with are within the limits of a value.
abbrev pub IsStatementWithinLimits : Statement → Type 0
IsStatementWithinLimits (Insert t row) = AreWithinLimits row
IsStatementWithinLimits (Select t columns tests) = AreWithinLimits (tested tests)
IsStatementWithinLimits (Update t changes tests) = AreWithinLimits (map (λ c. c.value) changes) × AreWithinLimits (tested tests)
IsStatementWithinLimits (Delete t tests) = AreWithinLimits (tested tests)
IsStatementWithinLimits (Expect n t tests) = AreWithinLimits (tested tests)

-- The values of all these statements are within the limits of a value.
abbrev pub AreStatementsWithinLimits : List Statement → Type 0
AreStatementsWithinLimits [] = Unit {0}
AreStatementsWithinLimits (s ∷ ss) = IsStatementWithinLimits s × AreStatementsWithinLimits ss

-- The values that an act writes, puts, or takes in its statements are within the limits of a value.
abbrev pub IsActWithinLimits : Act → Type 0
IsActWithinLimits Read = Unit {0}
IsActWithinLimits (Write d) = IsWithinLimits d
IsActWithinLimits (Get k) = Unit {0}
IsActWithinLimits (Put k d) = IsWithinLimits d
IsActWithinLimits (Remove k) = Unit {0}
IsActWithinLimits (Transact ss) = AreStatementsWithinLimits ss
IsActWithinLimits Now = Unit {0}
IsActWithinLimits (Roll bound) = Unit {0}
