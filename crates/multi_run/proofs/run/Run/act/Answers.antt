use Rattle.multi_run.proofs.Runs.{halt_acts}
use Rattle.multi_run.proofs.run.Run.act.Goals as goal

pub returns-in-Halt-clause-acts : goal.returns-in-Halt-clause-acts
returns-in-Halt-clause-acts g c = halt_acts c.args.evaluations.now c.args.group.now c.args.code.now.functions.items c.args.instruction.now c.args.self.now c.in-Halt.is
