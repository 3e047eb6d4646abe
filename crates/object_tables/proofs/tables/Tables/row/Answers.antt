use Rattle.std.proofs.Common.{◌<◌, ◌∙◌, ap, vec_len, length, sym, refl, arith}
use Rattle.script_tree.specs.Transactions.{table_at}
use Rattle.object_tables.specs.TableSets.{TableSet}
use Rattle.object_tables.proofs.Keeping.{tables_each}
use Rattle.object_tables.proofs.Places.{there, rows_there, filed_here}
use Rattle.object_tables.specs.Keys.{row_at}
use Rattle.object_tables.specs.Slots.{rows_of}
use Rattle.object_tables.proofs.KeyFacts.{row_there}
use Rattle.object_tables.proofs.tables.Tables.row.Goals as goal

pub index-requires : goal.index-requires
index-requires c = tables_each c.self.inside.widths.items c.args.self.now.widths c.self.inside.storage.tables.items c.args.table (vec_len c.self.inside.storage.tables)
    (ap (λ (s : TableSet). s.widths) c.self.view_is) c.self.invariant.fit c.requires (omega arith)

pub returns : goal.returns
returns c =
    let ts = c.self.inside.storage.tables.items in
    let k = c.args.key.now in
    let l : c.args.table < length ts =
    tables_each c.self.inside.widths.items c.args.self.now.widths ts c.args.table _
    (ap (λ (s : TableSet). s.widths) c.self.view_is) c.self.invariant.fit c.requires refl in
    c.row.ensures.is ∙ row_there k c.index.result.now c.row.ensures.ordered
    (filed_here ts c.args.table c.index.result.now c.self.invariant.filed l c.index.ensures)
    ∙ ap (λ es. row_at k (rows_of es)) (there ts c.args.table c.index.result.now l c.index.ensures) ∙ ap (row_at k) (sym (rows_there ts c.args.table))
    ∙ ap (λ (s : TableSet). row_at k (table_at c.args.table s.tables)) c.self.view_is
