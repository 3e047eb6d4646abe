-- When the values that statements store are within the limits of a value.
use Rattle.std.specs.Prelude.{List, [], ◌∷◌, map}
use Rattle.script_tree.specs.ActLimits.{AreWithinLimits}
use Rattle.script_tree.specs.Datum.{Datum}
use Rattle.script_tree.specs.declared.transaction.Statement.{Statement}
use Rattle.script_tree.specs.declared.transaction.Statement.TheVariants.{Insert, Select, Update, Delete, Expect}

-- the values that a statement stores: those of a row, and those that changes give
abbrev pub stored_by : Statement → List Datum
stored_by (Insert t row) = row
stored_by (Select t columns tests) = []
stored_by (Update t changes tests) = map (λ c. c.value) changes
stored_by (Delete t tests) = []
stored_by (Expect n t tests) = []

-- what each of the statements stores is within the limits
abbrev pub StoreWithinLimits : List Statement → Type 0
StoreWithinLimits [] = Unit {0}
StoreWithinLimits (s ∷ ss) = AreWithinLimits (stored_by s) × StoreWithinLimits ss
