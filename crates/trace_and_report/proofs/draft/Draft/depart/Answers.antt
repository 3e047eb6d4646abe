use Rattle.std.proofs.Common.{◌∙◌, refl}
use Rattle.trace_and_report.proofs.Alike.{by_path}
use Rattle.trace_and_report.proofs.Drafts.{departs, on_ok}
use Rattle.trace_and_report.proofs.draft.Draft.depart.Goals as goal

pub returns : goal.returns
returns c = λ names of.
    on_ok c.add_member.result
    (λ added. departs names c.args.self.now _ c.args.rid c.args.response.now c.args.path of c.in_ok-add_response.ensures refl refl refl
    (added ∙ by_path c.args.path c.args.rid _) c.in_ok-keep_widths.ensures c.in_ok-keep_widths-2.ensures)
    c.add_member.ensures
