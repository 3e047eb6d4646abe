use Rattle.std.proofs.Common.{◌∙◌, refl}
use Rattle.trace_and_report.specs.Grouped.{groups_in}
use Rattle.trace_and_report.proofs.Alike.{by_object}
use Rattle.trace_and_report.proofs.Drafts.{on_ok}
use Rattle.whole_history.proofs.ReportDrafts.{acts, same_entry}
use Rattle.whole_history.proofs.reports.ReportDraft.act.Goals as goal

pub returns : goal.returns
returns c = λ names is.
    let logs = groups_in c.args.self.now.logs in
    on_ok c.add_member.result
    (λ added. acts names c.args.self.now _ c.args.rid c.args.number c.args.op.now c.args.choice is refl c.in_ok-count.ensures
    (added ∙ by_object c.in_ok-object.object _ logs
    ∙ same_entry c.args.rid c.args.number c.args.choice c.in_ok-object.object c.in_ok-act.act c.args.op.now logs c.in_ok-object.ensures c.in_ok-act.ensures) refl)
    c.add_member.ensures
