use Rattle.std.proofs.Common.{◌-◌, length}
use Rattle.std.specs.Prelude.{reverse}
use Rattle.machine.proofs.Stacks.{IsTaking}
use Rattle.machine.proofs.stack.Stack.move_into.Given as goal

abbrev pub invariant-loop-alloc : goal.invariant-loop-alloc
invariant-loop-alloc l = IsTaking l.count l.fn.self l.values.items (reverse l.self-inside.cells.items)

abbrev pub decreases-loop-alloc : goal.decreases-loop-alloc
decreases-loop-alloc l = l.count - length l.values.items
