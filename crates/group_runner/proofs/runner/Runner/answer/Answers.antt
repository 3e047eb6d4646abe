use Rattle.std.proofs.Common.{sym}
use Rattle.group_runner.proofs.Runs.{not_wanted}
use Rattle.group_runner.proofs.runner.Runner.answer.Goals as goal

pub returns-in-Ends : goal.returns-in-Ends
returns-in-Ends c = sym (not_wanted c.args.self.now.evidence.now c.args.rid c.args.number c.args.step.now c.in-Ends.field-0 c.in-Ends.field-1 c.in-Ends.is)
