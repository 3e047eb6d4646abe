use Rattle.std.proofs.Common.{◌∙◌, refl, ap}
use Rattle.script_tree.specs.Paths.{same_path}
use Rattle.trace_and_report.specs.Grouped.{groups_in, and_member}
use Rattle.trace_and_report.proofs.Alike.{by_path}
use Rattle.trace_and_report.proofs.Drafts.{on_ok}
use Rattle.whole_history.proofs.ReportDrafts.{departs}
use Rattle.whole_history.proofs.reports.ReportDraft.depart.Goals as goal

pub returns : goal.returns
returns c = λ names is.
    let groups = groups_in c.args.self.now.groups in
    on_ok c.add_member.result
    (λ added. departs names c.args.self.now _ c.args.rid c.args._response.now c.args.path.now is refl refl refl
    (added ∙ by_path c.in_ok-path.path c.args.rid groups ∙ ap (λ p. and_member same_path p c.args.rid groups) c.in_ok-path.ensures))
    c.add_member.ensures
