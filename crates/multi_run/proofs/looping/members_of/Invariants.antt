use Rattle.std.proofs.Common.{◌≡◌, ◌<◌, ℕ, get_or, length}
use Rattle.script_tree.specs.Datum.{null}
use Rattle.script_nodes.specs.NodeLaws.{member_at}
use Rattle.multivalue.specs.Many.{member_value}
use Rattle.multi_run.proofs.looping.members_of.Given as goal

abbrev pub invariant-loop-member : goal.invariant-loop-member
invariant-loop-member l = record {
  count : length l.values.items ≡ l.member;
  got : (i : ℕ) → i < l.member → member_at l.place (member_value l.lists i) ≡ get_or l.values.items i null;
}
