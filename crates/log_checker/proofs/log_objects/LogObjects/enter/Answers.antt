use Rattle.log_checker.proofs.ObjectFacts.{register_entered, store_entered}
use Rattle.log_checker.proofs.log_objects.LogObjects.enter.Goals as goal

pub returns-in_ok-insert-in-Register-clause-enters : goal.returns-in_ok-insert-in-Register-clause-enters
returns-in_ok-insert-in-Register-clause-enters c =
    register_entered c.args.self.now c.insert.new.self c.as_bytes.result c.args.object.now c.in-Register.name c.in-Register.is c.as_bytes.ensures
    c.in_ok-insert-in-Register.ensures.updates

pub returns-in_ok-insert-in-Store-clause-enters : goal.returns-in_ok-insert-in-Store-clause-enters
returns-in_ok-insert-in-Store-clause-enters c =
    store_entered c.args.self.now c.insert-in-Store.new.self c.as_bytes-in-Store.result c.args.object.now c.in-Store.name c.in-Store.is
    c.as_bytes-in-Store.ensures c.in_ok-insert-in-Store.ensures.updates
