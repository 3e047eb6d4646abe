use Rattle.std.proofs.Common.{◌≡◌, sym, subst, Some, IfOk}
use Rattle.script_tree.specs.declared.operation.Act.TheVariants.{Read, Write}
use Rattle.script_tree.specs.declared.operation.Object.TheVariants.{Register}
use Rattle.object_cells.specs.Cells.{Changes}
use Rattle.object_set.specs.Applied.{Does, op_of}
use Rattle.object_set.specs.ObjectSets.{held_objects}
use Rattle.object_set.specs.ObjectSetView.{objects_in}
use Rattle.object_set.proofs.Acting.{read_each, write_does}
use Rattle.object_set.proofs.set.ObjectSet.on_register.Goals as goal

pub returns-in-Read-clause-done : goal.returns-in-Read-clause-done
returns-in-Read-clause-done c = λ choice.
    subst (λ act. IfOk c.get.result (Does (op_of (Register c.args.name.now) act) choice c.args.self.now c.args.self.now)) (sym c.in-Read.is)
    (subst (λ h. IfOk c.get.result (Does (op_of (Register c.args.name.now) Read) choice h h)) c.self.view_is
    (read_each c.args.name.now choice (objects_in c.self.inside) c.get.result c.get.ensures.value))

pub returns-in_ok-put-in-Write-clause-done : goal.returns-in_ok-put-in-Write-clause-done
returns-in_ok-put-in-Write-clause-done c = λ choice.
    let name : c.in_ok-clone-in-Write.field-0 ≡ c.args.name.now = c.in_ok-clone-in-Write.ensures.cases in
    let value : c.in_ok-copy_within_limits-in-Write.field-0 ≡ c.in-Write.value = c.in_ok-copy_within_limits-in-Write.ensures.copy in
    let changes : Changes c.args.name.now (Some c.in-Write.value) c.self.inside.registers c.put.new.self =
    rw (sym name, sym value) c.in_ok-put-in-Write.ensures.put in
    rw (c.in-Write.is, c.null.ensures) (subst (λ h. Does (op_of (Register c.args.name.now) (Write c.in-Write.value)) choice h (held_objects c.put.new.self c.self.inside.stores c.self.inside.tables c.self.inside.clock) Rattle.script_tree.specs.Datum.null) c.self.view_is
    (write_does c.args.name.now c.in-Write.value choice (objects_in c.self.inside) c.put.new.self changes))
