use Rattle.std.proofs.Common.{Ok, refl, subst}
use Rattle.multi_state.specs.AllDo.{NodesDo}
use Rattle.multi_state.proofs.Following.{put_values, put_wants, put_halts}
use Rattle.multi_state.proofs.state.State.put.Goals as goal

pub returns-in_ok-push-in-Ok-Values-clause-puts : goal.returns-in_ok-push-in-Ok-Values-clause-puts
returns-in_ok-push-in-Ok-Values-clause-puts g c =
    let old = c.args.self.now in
    let new = record old { stack = c.push.new.self; account = c.node.new.self } in
    let does = subst (λ t. NodesDo c.args.evaluations.now c.node.new.evaluations c.args.group.now c.args.primitive c.args.operands.now old.account (Ok t) c.node.new.self) c.in-Ok-Values.field-0-is c.in-Ok-Values.ensures.does in
    put_values c.args.evaluations.now c.node.new.evaluations c.args.group.now c.args.primitive c.args.operands.now old new c.in-Ok-Values.values c.in_ok-push-in-Ok-Values.ensures refl does

pub returns-in-Ok-Wants-clause-puts : goal.returns-in-Ok-Wants-clause-puts
returns-in-Ok-Wants-clause-puts g c =
    let old = c.args.self.now in
    let new = record old { account = c.node.new.self } in
    let does = subst (λ t. NodesDo c.args.evaluations.now c.node.new.evaluations c.args.group.now c.args.primitive c.args.operands.now old.account (Ok t) c.node.new.self) c.in-Ok-Wants.field-0-is c.in-Ok-Wants.ensures.does in
    put_wants c.args.evaluations.now c.node.new.evaluations c.args.group.now c.args.primitive c.args.operands.now old new c.in-Ok-Wants.ops refl refl does

pub returns-in-Err-clause-puts : goal.returns-in-Err-clause-puts
returns-in-Err-clause-puts g c =
    let old = c.args.self.now in
    let new = record old { account = c.node.new.self } in
    put_halts c.args.evaluations.now c.node.new.evaluations c.args.group.now c.args.primitive c.args.operands.now old new c.in-Err.apart c.in-Err.ensures.does
