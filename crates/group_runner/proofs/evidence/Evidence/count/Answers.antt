use Rattle.std.proofs.Common.{◌∙◌, ap}
use Rattle.audit_meaning.specs.Spots.{count_of}
use Rattle.group_runner.proofs.Entries.{count_is}
use Rattle.group_runner.proofs.evidence.Evidence.count.Goals as goal

pub returns : goal.returns
returns c = c.count.ensures ∙ count_is c.self.inside.report.now c.self.inside.map.now c.args.rid c.self.invariant.mapped ∙ ap (λ t. count_of t.report c.args.rid) c.self.view_is
