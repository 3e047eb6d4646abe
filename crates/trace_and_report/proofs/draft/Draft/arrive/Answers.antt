use Rattle.std.proofs.Common.{refl}
use Rattle.trace_and_report.proofs.Drafts.{arrives}
use Rattle.trace_and_report.proofs.draft.Draft.arrive.Goals as goal

pub returns : goal.returns
returns c = λ names of.
    arrives names c.args.self.now _ c.args.rid c.args.request.now of c.in_ok-add_request.ensures c.in_ok-push.ensures.items refl refl refl
    c.in_ok-keep_widths.ensures c.requires
