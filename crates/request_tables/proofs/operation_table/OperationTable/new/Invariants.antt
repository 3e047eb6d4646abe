use Rattle.std.proofs.Common.{◌≡◌, ℕ, None}
use Rattle.request_tables.proofs.Rows.{in_rows}
use Rattle.request_tables.proofs.operation_table.OperationTable.new.Given as goal

abbrev pub invariant-loop : goal.invariant-loop
invariant-loop l = (r k : ℕ) → in_rows (λ (row : _). row.items) l.rows.items r k ≡ None
