use Rattle.std.proofs.Common.{rules}
use Rattle.versioned_tables.proofs.KeyFacts.{finds_only, grows_one}
use Rattle.versioned_tables.proofs.keys.add_tested.Goals as goal

pub returns-in_ok-push-in-Some-clause-finds : goal.returns-in_ok-push-in-Some-clause-finds
returns-in_ok-push-in-Some-clause-finds c =
    finds_only c.args.keys.now.items c.push.new.self.items c.args.table c.in-Some.key.now c.in_ok-clone-in-Some.field-0 c.args.tests.now c.args.histories.now c.in-Some.ensures (search rules)
    c.in_ok-push-in-Some.ensures.items

pub returns-in_ok-push-in-Some-clause-grows : goal.returns-in_ok-push-in-Some-clause-grows
returns-in_ok-push-in-Some-clause-grows c = grows_one c.args.keys.now.items c.push.new.self.items _ c.in_ok-push-in-Some.ensures.items
