use Rattle.script_check.proofs.InTurn.{puts_new, puts_none}
use Rattle.script_check.proofs.declared.declare_function.Goals as goal

pub returns-in_ok-insert-clause-puts : goal.returns-in_ok-insert-clause-puts
returns-in_ok-insert-clause-puts c = puts_new c.args.arities.now c.insert.new.self c.as_bytes-text.result c.args.name.now.text c.args.parameters c.contains_key-is_new.result c.as_bytes-text.ensures c.contains_key-is_new.ensures c.if-is_new-2.true c.in_ok-insert.ensures.updates

pub returns-else-is_new-2-clause-puts : goal.returns-else-is_new-2-clause-puts
returns-else-is_new-2-clause-puts c = puts_none c.args.arities.now c.as_bytes-text.result c.args.name.now.text c.args.parameters c.contains_key-is_new.result c.as_bytes-text.ensures c.contains_key-is_new.ensures c.if-is_new-2.false
