use Rattle.std.proofs.Common.{◌≡◌, ap, vec_len, arith}
use Rattle.object_tables.specs.TableSets.{TableSet}
use Rattle.script_fit.specs.FitsTransaction.{FitsRow}
use Rattle.object_tables.proofs.Keeping.{tables_each, row_kept, place_of}
use Rattle.object_tables.proofs.tables.Tables.insert_row.Goals as goal

pub insert_in-requires-clause-within : goal.insert_in-requires-clause-within
insert_in-requires-clause-within c = tables_each c.self.inside.widths.items c.args.self.now.widths c.self.inside.storage.tables.items c.args.table (vec_len c.self.inside.storage.tables)
    (ap (λ (s : TableSet). s.widths) c.self.view_is) c.self.invariant.fit (place_of c.args.self.now.widths c.args.table c.args.row c.requires) (omega arith)

pub invariant_of-self : goal.invariant_of-self
invariant_of-self c =
    let w : c.self.inside.widths.items ≡ c.args.self.now.widths = ap (λ (s : TableSet). s.widths) c.self.view_is in
    let f : FitsRow c.self.inside.widths.items c.args.table c.args.row = rw w c.requires in
    record {
      fit = row_kept c.self.inside.widths.items c.args.table c.args.row c.self.inside.storage.tables.items c.insert_in.new.tables.items c.insert_in.result
          f c.self.invariant.fit c.insert_in.ensures.done c.insert_in.ensures.err;
      filed = c.insert_in.ensures.filed;
      whole = c.insert_in.ensures.whole c.self.invariant.whole;
      undo_log = c.self.invariant.undo_log;
    }
