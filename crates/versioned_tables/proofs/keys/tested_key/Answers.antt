use Rattle.versioned_tables.proofs.KeyFacts.{tested, IfSome-map}
use Rattle.versioned_tables.proofs.keys.tested_key.Goals as goal

pub returns-in-Equal : goal.returns-in-Equal
returns-in-Equal c = IfSome-map c.text_in.result (λ only is. tested c.args.test.now only.now c.if-test-ne0.false c.in-Equal.is is) c.text_in.ensures
