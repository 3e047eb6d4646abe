use Rattle.std.proofs.Common.{◌≡◌, ◌∙◌, Some}
use Rattle.audit_meaning.specs.GroupFaults.{members}
use Rattle.log_checker.proofs.Carried.{carried, handed, here, later}
use Rattle.log_checker.proofs.GroupFacts.{group_order}
use Rattle.log_checker.proofs.grouping.check_groups.Goals as goal

pub returns-in_err-check_members : goal.returns-in_err-check_members
returns-in_err-check_members c =
    let report = c.args.report.now in
    let rids : c.deref.result.now ≡ members report = c.deref.ensures.value ∙ c.in_ok-rids.ensures in
    carried _ _ _ c.in_err-check_members.field-0.0 c.from_residual-in_err-check_members.result c.from_residual-in_err-check_members.ensures.1
    (c.in_err-check_members.ensures report rids)
    (λ r is. group_order c.args.trace.now report (Some r) (here _ _ r is))

pub returns-in_err-grouped : goal.returns-in_err-grouped
returns-in_err-grouped c =
    let report = c.args.report.now in
    let rids : c.deref.result.now ≡ members report = c.deref.ensures.value ∙ c.in_ok-rids.ensures in
    let again : c.deref-2.result.now ≡ members report = c.deref-2.ensures.value ∙ c.in_ok-rids.ensures in
    carried _ _ _ c.in_err-grouped.field-0.0 c.from_residual-in_err-grouped.result c.from_residual-in_err-grouped.ensures.1
    (c.in_err-grouped.ensures report again)
    (λ r is. group_order c.args.trace.now report (Some r) (later _ _ _ (c.in_ok-check_members.ensures report rids) (here _ _ r is)))

pub returns : goal.returns
returns c =
    let report = c.args.report.now in
    let rids : c.deref.result.now ≡ members report = c.deref.ensures.value ∙ c.in_ok-rids.ensures in
    let again : c.deref-2.result.now ≡ members report = c.deref-2.ensures.value ∙ c.in_ok-rids.ensures in
    let found = c.in_ok-grouped.ensures report again in
    handed _ _ c.check_grouped.result (c.check_grouped.ensures report found.1)
    (λ o is. group_order c.args.trace.now report o (later _ _ _ (c.in_ok-check_members.ensures report rids) (later _ _ _ found.0 is)))
