-- The row at a key.
use Rattle.std.specs.Prelude.{ℕ, Bool, List, [], ◌∷◌, Option, Some, None, if◌then◌else◌}
use Rattle.std.specs.Ordering.{is_eq}
use Rattle.script_tree.specs.Datum.{text}
use Rattle.script_tree.specs.Order.{compare}
use Rattle.script_tree.specs.Transactions.{Row, Table, key}

-- this text is the key of the row
abbrev pub is_key : List ℕ → Row → Bool
is_key k row = is_eq (compare (text k) (key row))

-- the row of a key, where there is one
abbrev pub row_at : List ℕ → Table → Option Row
row_at k [] = None
row_at k (row ∷ rows) = if is_key k row then Some row else row_at k rows

-- two options as one: something only where both have it
abbrev pub or_none : {X : Type 0} → Option (Option X) → Option X
or_none None = None
or_none (Some o) = o
