use Rattle.std.proofs.Common.{◌≡◌, sym, subst, Some, IfOk}
use Rattle.script_tree.specs.Datum.{null}
use Rattle.script_tree.specs.declared.operation.Act.TheVariants.{Get, Put, Remove}
use Rattle.script_tree.specs.declared.operation.Object.TheVariants.{Store}
use Rattle.object_cells.specs.Stores.{ChangesIn}
use Rattle.object_set.specs.Applied.{Does, op_of}
use Rattle.object_set.specs.ObjectSets.{held_objects}
use Rattle.object_set.specs.ObjectSetView.{objects_in}
use Rattle.object_set.proofs.Acting.{get_each, put_does, remove_does}
use Rattle.object_set.proofs.set.ObjectSet.on_store.Goals as goal

pub returns-in-Get-clause-done : goal.returns-in-Get-clause-done
returns-in-Get-clause-done c = λ choice.
    subst (λ act. IfOk c.get.result (Does (op_of (Store c.args.name.now) act) choice c.args.self.now c.args.self.now)) (sym c.in-Get.is)
    (subst (λ h. IfOk c.get.result (Does (op_of (Store c.args.name.now) (Get c.in-Get.key)) choice h h)) c.self.view_is
    (get_each c.args.name.now c.in-Get.key choice (objects_in c.self.inside) c.get.result c.get.ensures.value))

pub returns-in_ok-put-in-Put-clause-done : goal.returns-in_ok-put-in-Put-clause-done
returns-in_ok-put-in-Put-clause-done c = λ choice.
    let key : c.in_ok-clone-in-Put.field-0 ≡ c.in-Put.key = c.in_ok-clone-in-Put.ensures.cases in
    let value : c.in_ok-copy_within_limits-in-Put.field-0 ≡ c.in-Put.value = c.in_ok-copy_within_limits-in-Put.ensures.copy in
    let changes : ChangesIn c.args.name.now c.in-Put.key (Some c.in-Put.value) c.self.inside.stores c.put.new.self =
    rw (sym key, sym value) c.in_ok-put-in-Put.ensures.put in
    rw (c.in-Put.is, c.null.ensures)
    (subst (λ h. Does (op_of (Store c.args.name.now) (Put c.in-Put.key c.in-Put.value)) choice h (held_objects c.self.inside.registers c.put.new.self c.self.inside.tables c.self.inside.clock) null) c.self.view_is
    (put_does c.args.name.now c.in-Put.key c.in-Put.value choice (objects_in c.self.inside) c.put.new.self changes))

pub returns-in-Remove-clause-done : goal.returns-in-Remove-clause-done
returns-in-Remove-clause-done c = λ choice.
    rw (c.in-Remove.is, c.null-in-Remove.ensures)
    (subst (λ h. Does (op_of (Store c.args.name.now) (Remove c.in-Remove.key)) choice h (held_objects c.self.inside.registers c.remove.new.self c.self.inside.tables c.self.inside.clock) null) c.self.view_is
    (remove_does c.args.name.now c.in-Remove.key choice (objects_in c.self.inside) c.remove.new.self c.remove.ensures))
