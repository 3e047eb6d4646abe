-- What a table of operations holds.
use Rattle.std.specs.Prelude.{◌≡◌, ℕ, ◌+◌, ◌-◌, ◌&&◌, List, length, Option, Some, None, nat_eq, if◌then◌else◌}
use Rattle.std.specs.BTreeMap.{get}
use Rattle.std.specs.List.{slice_get}
use Rattle.std.specs.Option.{option_or}
use Rattle.std.specs.Ordering.{nat_cmp, ordering_then}
use Rattle.std.specs.declared.cmp.Ordering.{Ordering}
use Rattle.request_tables.specs.declared.operation_table.OperationTable.{OperationTable}

-- the order of the map's keys: by request, then by number
abbrev pub by_operation : ℕ × ℕ → ℕ × ℕ → Ordering
by_operation x y = ordering_then (nat_cmp x.0 y.0) (nat_cmp x.1 y.1)

-- the place of an operation in a row, which begins with that of operation 1
abbrev pub place_at : List (ℕ × ℕ) → ℕ → Option (ℕ × ℕ)
place_at row k = if nat_eq k 0 then None else slice_get row (k - 1)

-- the place of an operation in its request's row
abbrev pub place_in_row : OperationTable → ℕ → ℕ → Option (ℕ × ℕ)
place_in_row table r k = elim (slice_get table.rows.items r) [ None ↦ None | Some row ↦ place_at row.items k ]

-- the number of the operation that would come next in a request's row
abbrev pub next_in_row : OperationTable → ℕ → Option ℕ
next_in_row table r = elim (slice_get table.rows.items r) [ None ↦ None | Some row ↦ Some (length row.items + 1) ]

-- the place of an operation, in its row or in the map
abbrev pub place_of : OperationTable → ℕ → ℕ → Option (ℕ × ℕ)
place_of table r k = option_or (place_in_row table r k) (get by_operation table.others (r, k))

-- Afterwards this operation has this place, and every other one what it had.
abbrev pub Puts : ℕ → ℕ → ℕ × ℕ → OperationTable → OperationTable → Type 0
Puts r k place old new = (a b : ℕ) → place_of new a b ≡ (if nat_eq r a && nat_eq k b then Some place else place_of old a b)
