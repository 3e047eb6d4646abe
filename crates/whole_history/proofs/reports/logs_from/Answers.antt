use Rattle.std.proofs.Common.{◌∙◌, ap, subst}
use Rattle.trace_and_report.specs.Grouped.{groups_in}
use Rattle.trace_and_report.proofs.Groups.{lists, lists_in}
use Rattle.whole_history.specs.Drafts.{log_of}
use Rattle.whole_history.proofs.ReportDrafts.{AreMade, none_made, one_made, all_made}
use Rattle.whole_history.proofs.reports.logs_from.Goals as goal

pub loop-object-init : goal.loop-object-init
loop-object-init c =
    none_made log_of (groups_in c.args.logs) (lists c.into_iter-object-iterator.result) _ c.in_ok-made.ensures.items
    (lists_in c.args.logs c.into_iter-object-iterator.result c.into_iter-object-iterator.ensures.into_iter_gives.0)

pub loop-object-preserved : goal.loop-object-preserved
loop-object-preserved c =
    let under = subst (λ left. AreMade log_of (groups_in c.args.logs) left c.loop-object.made.items) (ap lists c.in-Some.ensures.steps) c.loop-object.invariant in
    one_made log_of (groups_in c.args.logs) (lists c.next.new.self)
    (c.in-Some.object, c.in-Some.entries.items) _ c.loop-object.made.items c.push.new.self.items under
    (λ i. record { object = c.in-Some.object; entries = c.from_vec.ensures i }) c.in_ok-push.ensures.items

pub returns : goal.returns
returns c =
    c.from_vec-2.ensures ∙ all_made log_of (groups_in c.args.logs) (lists c.loop-object.object-iterator) c.loop-object.made.items c.loop-object.invariant
    (ap lists c.in-None.ensures.steps.0)
