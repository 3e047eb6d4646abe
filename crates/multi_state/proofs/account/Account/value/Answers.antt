use Rattle.std.proofs.Common.{Ok, length, subst, refl}
use Rattle.script_meaning.specs.Run.{give}
use Rattle.multivalue.specs.Many.{member_value}
use Rattle.multi_state.specs.AllDo.{NodesDo, NodesPart, given_at, node_at}
use Rattle.multi_state.proofs.Parts.{halted}
use Rattle.multi_state.proofs.account.Account.value.Goals as goal

pub returns-in-Ok-Values-clause-does : goal.returns-in-Ok-Values-clause-does
returns-in-Ok-Values-clause-does g c =
    subst (λ t. NodesDo c.args.evaluations.now c.node.new.evaluations c.args.group.now c.args.primitive c.args.operands.now c.args.self.now (Ok t) c.node.new.self) c.in-Ok-Values.field-0-is c.in-Ok-Values.ensures.does

pub returns-in-Err-clause-does : goal.returns-in-Err-clause-does
returns-in-Err-clause-does g c =
    let qs = c.args.group.now in
    let parts = NodesPart qs c.args.primitive c.args.operands.now c.args.self.now in
    halted (length qs) c.args.evaluations.now c.node.new.evaluations (node_at qs c.args.primitive c.args.operands.now) (λ i o. o) given_at
    (λ i m. give (member_value m i)) parts parts (λ p. p) c.in-Err.apart c.args.self.now c.node.new.self (λ i f p. refl) c.in-Err.ensures.does
