use Rattle.std.proofs.Common.{◌≡◌, ◌≤◌, ◌<◌, ◌+◌, ℕ, Err}
use Rattle.multi_nodes.specs.Members.{answer_at}
use Rattle.multi_nodes.proofs.evaluate.faults.Given as goal

abbrev pub invariant-loop-member : goal.invariant-loop-member
invariant-loop-member g l = record {
  begun : 1 ≤ l.member;
  got : (i : ℕ) → i < l.member → answer_at l.group l.primitive l.operands i ≡ Err l.fault;
  cost : l.evaluations + 1 ≡ l.fn.evaluations + l.member;
}
