use Rattle.std.proofs.Common.{◌≡◌, ◌∙◌, ◌++◌, length, Some, ap, sym, arith}
use Rattle.basis.specs.Lists.{nth}
use Rattle.log_checker.proofs.Firsts.{some_at}
use Rattle.log_checker.proofs.GroupFacts.{members_more, members_all}
use Rattle.log_checker.proofs.grouping.members_of.Goals as goal

pub loop-group-preserved : goal.loop-group-preserved
loop-group-preserved c =
    let i = c.loop-group.group-index in
    let group = c.group-item.result in
    let at : nth c.args.report.now.groups i ≡ Some group =
    sym (ap (λ xs. nth xs i) c.as_slice-group-items.ensures) ∙ some_at c.as_slice-group-items.result.now i group c.loop-group-test.true c.group-item.is in
    c.in_ok-extend_from_slice.ensures.items ∙ ap (λ xs. c.loop-group.rids.items ++ xs) c.rids.ensures.rids
    ∙ members_more c.args.report.now.groups i group c.loop-group.rids.items at c.loop-group.invariant

pub returns : goal.returns
returns c = members_all c.args.report.now c.loop-group.group-index c.loop-group.rids.items
    (omega (arith, ap length c.as_slice-group-items.ensures)) c.loop-group.invariant
