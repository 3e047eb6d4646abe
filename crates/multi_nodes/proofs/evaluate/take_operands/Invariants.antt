use Rattle.std.proofs.Common.{◌≡◌, ◌++◌, drop}
use Rattle.multi_nodes.specs.Members.{members_at}
use Rattle.multi_nodes.proofs.evaluate.take_operands.Given as goal

abbrev pub invariant-loop-operand : goal.invariant-loop-operand
invariant-loop-operand l = l.own.items ++ members_at l.member (drop l.operand-index l.operands) ≡ members_at l.member l.operands
