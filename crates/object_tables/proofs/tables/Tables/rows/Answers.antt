use Rattle.std.proofs.Common.{◌<◌, ◌∙◌, ap, vec_len, length, sym, refl, arith}
use Rattle.script_tree.specs.Transactions.{table_at}
use Rattle.object_tables.specs.TableSets.{TableSet}
use Rattle.object_tables.proofs.Keeping.{tables_each}
use Rattle.object_tables.proofs.Places.{there, rows_there}
use Rattle.object_tables.specs.Slots.{rows_of}
use Rattle.object_tables.proofs.tables.Tables.rows.Goals as goal

pub index-requires : goal.index-requires
index-requires c = tables_each c.self.inside.widths.items c.args.self.now.widths c.self.inside.storage.tables.items c.args.table (vec_len c.self.inside.storage.tables)
    (ap (λ (s : TableSet). s.widths) c.self.view_is) c.self.invariant.fit c.requires (omega arith)

pub returns : goal.returns
returns c =
    let l : c.args.table < length c.self.inside.storage.tables.items =
    tables_each c.self.inside.widths.items c.args.self.now.widths c.self.inside.storage.tables.items c.args.table _
    (ap (λ (s : TableSet). s.widths) c.self.view_is) c.self.invariant.fit c.requires refl in
    c.rows.ensures ∙ ap rows_of (there c.self.inside.storage.tables.items c.args.table c.index.result.now l c.index.ensures) ∙ sym (rows_there c.self.inside.storage.tables.items c.args.table)
    ∙ ap (λ (s : TableSet). table_at c.args.table s.tables) c.self.view_is
