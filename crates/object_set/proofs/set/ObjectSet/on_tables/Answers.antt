use Rattle.std.proofs.Common.{subst}
use Rattle.script_tree.specs.declared.operation.Act.TheVariants.{Transact}
use Rattle.script_tree.specs.declared.operation.Object.TheVariants.{Tables}
use Rattle.object_tables.specs.TransactionEnds.{answer_of}
use Rattle.object_set.specs.Applied.{Does, op_of}
use Rattle.object_set.specs.ObjectSets.{held_objects}
use Rattle.object_set.specs.ObjectSetView.{objects_in}
use Rattle.object_set.proofs.Acting.{transact_does}
use Rattle.object_set.proofs.set.ObjectSet.on_tables.Goals as goal

pub invariant_of-self-in-Transact-1 : goal.invariant_of-self-in-Transact-1
invariant_of-self-in-Transact-1 c = record {
  registers = c.self.invariant.registers;
  stores = c.self.invariant.stores;
  tables = c.in_ok-outcome-in-Transact.ensures.fit;
  clock = c.self.invariant.clock;
}

pub returns-clause-done : goal.returns-clause-done
returns-clause-done c = λ choice.
    rw (c.in-Transact.is, c.into_answer.ensures)
    (subst (λ h. Does (op_of Tables (Transact c.in-Transact.statements)) choice h (held_objects c.self.inside.registers c.self.inside.stores c.transact.new.self c.self.inside.clock) (answer_of c.in_ok-outcome-in-Transact.outcome)) c.self.view_is
    (transact_does c.in-Transact.statements choice (objects_in c.self.inside) c.transact.new.self (answer_of c.in_ok-outcome-in-Transact.outcome) c.in_ok-outcome-in-Transact.ensures.answer c.transact.ensures.widths))
