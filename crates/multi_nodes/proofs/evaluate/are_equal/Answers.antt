use Rattle.std.proofs.Common.{◌≡◌, ◌<◌, false, sym, rules}
use Rattle.script_tree.specs.Alike.{same_datum}
use Rattle.multivalue.specs.Many.{member_value}
use Rattle.multi_nodes.proofs.Below.{some_not}
use Rattle.multi_nodes.proofs.evaluate.are_equal.Goals as goal

pub returns-then-differs : goal.returns-then-differs
returns-then-differs c =
    let m = c.args.values.now in
    let i = c.loop-member.member in
    let within : i < c.args.members = search rules in
    let unlike : same_datum (member_value m 0) (member_value m i) ≡ false = search rules in
    sym (some_not c.args.members (λ j. same_datum (member_value m 0) (member_value m j)) i within unlike)
