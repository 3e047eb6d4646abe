use Rattle.std.proofs.Common.{◌-◌, ℕ, length}
use Rattle.multi_state.specs.Stacks.{stack_at}
use Rattle.multi_state.proofs.Stacks.{IsTaking}
use Rattle.multi_state.proofs.stack.Stack.take.Given as goal

abbrev pub invariant-loop-values : goal.invariant-loop-values
invariant-loop-values l = (i : ℕ) → IsTaking i l.count (stack_at i l.fn.self) l.values.items (stack_at i l.self)

abbrev pub decreases-loop-values : goal.decreases-loop-values
decreases-loop-values l = l.count - length l.values.items
