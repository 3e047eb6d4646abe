use Rattle.std.proofs.Common.{◌≡◌, ◌≤◌, ◌<◌, ◌+◌, ℕ, get_or, length, Ok}
use Rattle.script_tree.specs.Datum.{null}
use Rattle.script_values.specs.declared.builtins.Called.TheVariants.{Value}
use Rattle.multi_nodes.specs.Members.{answer_at}
use Rattle.multi_nodes.proofs.evaluate.values.Given as goal

abbrev pub invariant-loop-member : goal.invariant-loop-member
invariant-loop-member g l = record {
  begun : 1 ≤ l.member;
  count : length l.values.items ≡ l.member;
  got : (i : ℕ) → i < l.member → answer_at l.group l.primitive l.operands i ≡ Ok (Value (get_or l.values.items i null));
  cost : l.evaluations + 1 ≡ l.fn.evaluations + l.member;
}
