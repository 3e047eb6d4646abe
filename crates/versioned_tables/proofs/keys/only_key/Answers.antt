use Rattle.versioned_tables.proofs.KeyFacts.{only_one}
use Rattle.versioned_tables.proofs.keys.only_key.Goals as goal

pub returns-in-Some : goal.returns-in-Some
returns-in-Some c = only_one c.args.tests.now c.loop-test.test-index c.test-item.result c.in-Some.key.now c.loop-test-test.true c.test-item.is c.in-Some.ensures
