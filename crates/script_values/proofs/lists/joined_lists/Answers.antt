use Rattle.std.proofs.Common.{◌≡◌, ◌++◌, arith}
use Rattle.std.proofs.lemmas.Grind.{common_steps}
use Rattle.script_tree.specs.Datum.{members-data_of}
use Rattle.script_values.proofs.lists.joined_lists.Goals as goal

pub returns : goal.returns
returns c =
    let whole : c.loop-value.all.items ≡ c.args.values ++ c.in_ok-others.others.now = grind (arith, common_steps) in
    rw (members-data_of c.args.values, c.in_ok-others.ensures, ← whole) c.listed.ensures
