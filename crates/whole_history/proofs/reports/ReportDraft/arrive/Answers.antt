use Rattle.std.proofs.Common.{refl}
use Rattle.whole_history.proofs.ReportDrafts.{arrives}
use Rattle.whole_history.proofs.reports.ReportDraft.arrive.Goals as goal

pub returns : goal.returns
returns c = λ names is. arrives names c.args.self.now _ c.args.rid c.args._request.now is c.in_ok-push.ensures.items refl refl refl
