use Rattle.std.proofs.Common.{ap}
use Rattle.script_code.specs.declared.instruction.Instruction.TheVariants as instruction
use Rattle.multi_run.proofs.Running.{freely, passed}
use Rattle.multi_run.proofs.run.Run.jump.Goals as goal

pub returns-clause-acts : goal.returns-clause-acts
returns-clause-acts c n qs functions =
    let old = c.args.self.now in
    freely n qs functions (instruction.Jump c.args.count) old c.pass.new.self (ap (λ s. s.account) c.in_ok-pass.ensures.state)
    (λ next i. passed next i old c.pass.new.self c.args.count c.in_ok-pass.ensures.frames c.in_ok-pass.ensures.state c.in_ok-pass.ensures.place)
