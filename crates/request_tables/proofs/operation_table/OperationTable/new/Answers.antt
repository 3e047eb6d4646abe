use Rattle.std.proofs.Common.{◌∙◌, ap}
use Rattle.std.specs.Option.{option_or}
use Rattle.std.specs.BTreeMap.{get, is_at}
use Rattle.std.specs.Map.{lookup}
use Rattle.request_tables.specs.OperationTables.{by_operation}
use Rattle.request_tables.proofs.operation_table.OperationTable.new.Goals as goal

pub returns : goal.returns
returns c = λ r k.
    ap (λ o. option_or o (get by_operation c.new-2.result (r, k))) (c.loop.invariant r k)
    ∙ ap (lookup (is_at (by_operation (r, k)))) c.new-2.ensures.empty
