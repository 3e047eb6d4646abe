use Rattle.std.proofs.Common.{◌≡◌, ap}
use Rattle.script_fit.specs.FitsTransaction.{FitsRow}
use Rattle.object_set.specs.ObjectSets.{HeldObjects}
use Rattle.object_set.proofs.Acting.{row_kept}
use Rattle.object_set.proofs.set.ObjectSet.insert_row.Goals as goal

pub invariant_of-self : goal.invariant_of-self
invariant_of-self c =
    let widths : c.self.inside.tables.widths ≡ c.args.self.now.tables.widths = ap (λ (h : HeldObjects). h.tables.widths) c.self.view_is in
    let fits : FitsRow c.self.inside.tables.widths c.args.table c.args.row = rw widths c.requires in
    record {
      registers = c.self.invariant.registers;
      stores = c.self.invariant.stores;
      tables = row_kept c.args.table c.args.row c.self.inside.tables c.insert_row.new.self c.insert_row.result c.self.invariant.tables fits
          c.insert_row.ensures.done c.insert_row.ensures.widths c.insert_row.ensures.err;
      clock = c.self.invariant.clock;
    }
