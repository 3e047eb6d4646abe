use Rattle.std.proofs.Common.{◌≡◌, ◌+◌, arith}
use Rattle.multi_run.proofs.Runs.{does_acts}
use Rattle.multi_run.proofs.run.Run.do_next.Goals as goal

pub returns-clause-acts : goal.returns-clause-acts
returns-clause-acts g c functions =
    let place : c.pass.new.self.place ≡ c.args.self.now.place + 1 = omega (arith, c.in_ok-pass.ensures.place) in
    does_acts c.args.evaluations.now c.act.new.evaluations c.args.group.now functions c.args.instruction.now c.args.self.now c.pass.new.self c.act.new.self c.act.result c.in_ok-pass.ensures.frames place c.in_ok-pass.ensures.state c.act.ensures.does
