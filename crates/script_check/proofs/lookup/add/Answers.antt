use Rattle.std.proofs.Common.{refl}
use Rattle.script_check.proofs.InTurn.{puts_new, puts_none}
use Rattle.script_check.proofs.lookup.add.Goals as goal

pub returns-in_ok-insert : goal.returns-in_ok-insert
returns-in_ok-insert g c =
    puts_new c.args.map.now c.insert.new.self c.args.name c.args.name.now c.args.found c.contains_key.result refl c.contains_key.ensures c.if-not-contains_key.true c.in_ok-insert.ensures.updates

pub returns-else-not-contains_key : goal.returns-else-not-contains_key
returns-else-not-contains_key g c =
    puts_none c.args.map.now c.args.name c.args.name.now c.args.found c.contains_key.result refl c.contains_key.ensures c.if-not-contains_key.false
