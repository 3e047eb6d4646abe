use Rattle.std.proofs.Common.{◌∙◌, map}
use Rattle.trace_and_report.specs.Draft.{count_at}
use Rattle.whole_history.proofs.ReportDrafts.{report_is}
use Rattle.whole_history.proofs.reports.ReportDraft.finish.Goals as goal

pub returns : goal.returns
returns c = λ names is.
    report_is names c.args.self c.in_ok-counts.counts c.in_ok-logs.logs c.in_ok-groups.groups is
    (c.in_ok-counts.ensures ∙ (λ i. map (count_at (c.deref-2.ensures.value i)) (c.deref.ensures.value i))) c.in_ok-logs.ensures c.in_ok-groups.ensures
