use Rattle.history.specs.Names.{names}
use Rattle.history.specs.ReportOf.{report_of}
use Rattle.whole_history.proofs.Acceptance.{report_told}
use Rattle.whole_history.proofs.ReportDrafts.{have_members}
use Rattle.whole_history.proofs.reports.report_of.Goals as goal

pub finish-requires : goal.finish-requires
finish-requires c = have_members _ c.in_ok-draft.draft c.in_ok-draft.ensures

pub returns-clause-report : goal.returns-clause-report
unfolding report_of
returns-clause-report c = c.finish.ensures (names c.args.history.now) c.in_ok-draft.ensures

pub returns-clause-accepted : goal.returns-clause-accepted
unfolding report_of
returns-clause-accepted c =
    report_told c.recorded_is_accepted.ensures c.args.history.now c.finish.result
    (c.finish.ensures (names c.args.history.now) c.in_ok-draft.ensures)
