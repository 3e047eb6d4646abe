use Rattle.std.proofs.Common.{◌≡◌, true}
use Rattle.script_tree.specs.Alike.{same_datum}
use Rattle.multivalue.specs.Many.{member_value}
use Rattle.multi_nodes.specs.Members.{all_below}
use Rattle.multi_nodes.proofs.evaluate.are_equal.Given as goal

abbrev pub invariant-loop-member : goal.invariant-loop-member
invariant-loop-member l = all_below l.member (λ i. same_datum (member_value l.values 0) (member_value l.values i)) ≡ true
