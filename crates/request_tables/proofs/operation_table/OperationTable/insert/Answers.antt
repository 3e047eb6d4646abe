use Rattle.std.proofs.Common.{◌≡◌, ◌∙◌, ◌++◌, ◌∷◌, [], sym, ap}
use Rattle.std.specs.List.{slice_get}
use Rattle.std.proofs.lemmas.Option.{get_or_from_slice_get, slice_get_within}
use Rattle.request_tables.specs.OperationTables.{place_in_row}
use Rattle.request_tables.proofs.Rows.{row_more, map_more, missing, next_there}
use Rattle.request_tables.proofs.operation_table.OperationTable.insert.Goals as goal

pub returns-in_ok-push-clause-puts : goal.returns-in_ok-push-clause-puts
returns-in_ok-push-clause-puts c = λ yes a b.
    let rows = c.args.self.now.rows.items in
    let n = next_there (λ (row : _). row.items) (slice_get rows c.args.rid) c.args.number (c.is_next.ensures c.if-is_next.true) in
    let same : c.index_mut.result.now ≡ n.0 = c.index_mut.ensures.value ∙ get_or_from_slice_get rows c.args.rid n.0 c.index_mut.result.now n.1 in
    row_more (λ (row : _). row.items) rows c.args.rid c.args.number a b c.args.place n.0 c.push.new.self _ n.1
    (slice_get_within rows c.args.rid n.0 n.1) n.2 (c.in_ok-push.ensures.items ∙ ap (λ (row : _). row.items ++ c.args.place ∷ []) same)

pub returns-in_ok-insert-clause-puts : goal.returns-in_ok-insert-clause-puts
returns-in_ok-insert-clause-puts c = λ yes a b.
    let none = missing c.get.result (sym c.is_some.ensures ∙ c.if-is_some.false) in
    map_more c.args.self.now.others c.insert.new.self (place_in_row c.args.self.now) c.args.rid c.args.number a b c.args.place
    c.in_ok-insert.ensures.updates (sym c.get.ensures ∙ none)
