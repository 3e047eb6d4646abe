use Rattle.std.proofs.Common.{◌≡◌, ◌≤◌, ◌<◌, ◌+◌, ℕ, get_or, length, Ok}
use Rattle.script_values.specs.declared.builtins.Called.TheVariants.{Operation}
use Rattle.multi_nodes.specs.Answers.{nothing}
use Rattle.multi_nodes.specs.Members.{answer_at}
use Rattle.multi_nodes.proofs.evaluate.operations.Given as goal

abbrev pub invariant-loop-member : goal.invariant-loop-member
invariant-loop-member g l = record {
  begun : 1 ≤ l.member;
  count : length l.ops.items ≡ l.member;
  got : (i : ℕ) → i < l.member → answer_at l.group l.primitive l.operands i ≡ Ok (Operation (get_or l.ops.items i nothing));
  cost : l.evaluations + 1 ≡ l.fn.evaluations + l.member;
}
