use Rattle.std.proofs.Common.{IfOk, sym, subst}
use Rattle.script_tree.specs.declared.operation.Act.TheVariants.{Transact}
use Rattle.script_tree.specs.declared.operation.Object.TheVariants.{Tables}
use Rattle.object_set.specs.Applied.{DoesTimes, op_of}
use Rattle.object_set.specs.ObjectSets.{held_objects}
use Rattle.object_set.specs.ObjectSetView.{objects_in}
use Rattle.object_set.proofs.Acting.{transact_times, tables_kept}
use Rattle.object_set.proofs.set.ObjectSet.on_tables_copies.Goals as goal

pub invariant_of-self : goal.invariant_of-self
invariant_of-self c = record {
  registers = c.self.invariant.registers;
  stores = c.self.invariant.stores;
  tables = tables_kept c.self.inside.tables c.transact_copies.new.self c.transact_copies.result c.self.invariant.tables c.transact_copies.ensures.fit c.transact_copies.ensures.err;
  clock = c.self.invariant.clock;
}

pub returns-clause-done : goal.returns-clause-done
returns-clause-done c = λ choice.
    subst (λ act. IfOk c.transact_copies.result
    (DoesTimes c.args.count (op_of Tables act) choice c.args.self.now
    (held_objects c.self.inside.registers c.self.inside.stores c.transact_copies.new.self c.self.inside.clock)))
    (sym c.in-Transact.is)
    (subst (λ h. IfOk c.transact_copies.result (DoesTimes c.args.count (op_of Tables (Transact c.in-Transact.statements)) choice h (held_objects c.self.inside.registers c.self.inside.stores c.transact_copies.new.self c.self.inside.clock))) c.self.view_is
    (transact_times c.args.count c.in-Transact.statements choice (objects_in c.self.inside) c.transact_copies.new.self c.transact_copies.result c.transact_copies.ensures.given c.transact_copies.ensures.widths))
