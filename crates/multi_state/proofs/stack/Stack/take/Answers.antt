use Rattle.std.proofs.Common.{arith}
use Rattle.multi_state.specs.Stacks.{stack_at}
use Rattle.multi_state.proofs.Stacks.{takes_one}
use Rattle.multi_state.proofs.stack.Stack.take.Goals as goal

pub loop-values-preserved : goal.loop-values-preserved
loop-values-preserved c i =
    takes_one i c.args.count (stack_at i c.args.self.now) c.loop-values.values.items c.push.new.self.items
    (stack_at i c.loop-values.self) (stack_at i c.pop.new.self) c.in_ok-pop.field-0
    (omega (arith, c.loop-values-test.true, c.len-in-loop-values.ensures, c.loop-values.values.ok.0)) c.in_ok-push.ensures.items (c.in_ok-pop.ensures i) (c.loop-values.invariant i)
