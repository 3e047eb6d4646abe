use Rattle.command_inputs.specs.declared.role.Role.TheVariants as role
use Rattle.std.proofs.Common.{[]}
use Rattle.commands.proofs.Steps.{reads_stop}
use Rattle.commands.proofs.check.check_file.Goals as goal

pub returns-in_err-program-clause-reads : goal.returns-in_err-program-clause-reads
returns-in_err-program-clause-reads g c =
    reads_stop _ _ _ role.Program _ ([]) _ _
    c.in_err-program.ensures.once c.in_err-program.ensures.of_input c.from_residual.ensures.1
