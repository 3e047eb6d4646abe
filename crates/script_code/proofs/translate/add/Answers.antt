use Rattle.std.proofs.Common.{subst, Some}
use Rattle.std.specs.BTreeMap as tree
use Rattle.std.specs.Cmp.Lexicographic.{slice_cmp}
use Rattle.std.specs.Ordering.{nat_cmp}
use Rattle.script_code.proofs.Entries.{puts_new, puts_none}
use Rattle.script_code.proofs.translate.add.Goals as goal

pub returns-in_ok-insert : goal.returns-in_ok-insert
returns-in_ok-insert c =
    puts_new c.args.pages.now c.insert.new.self c.args.path.now c.args.entry c.contains_key.result c.contains_key.ensures c.if-not-contains_key.true
    (subst (λ path. tree.UpdatesBy (slice_cmp nat_cmp) (slice_cmp nat_cmp path) c.args.pages.now c.insert.new.self (Some c.args.entry)) c.in_ok-clone.ensures.cases c.in_ok-insert.ensures.updates)

pub returns-else-not-contains_key : goal.returns-else-not-contains_key
returns-else-not-contains_key c =
    puts_none c.args.pages.now c.args.path.now c.args.entry c.contains_key.result c.contains_key.ensures c.if-not-contains_key.false
