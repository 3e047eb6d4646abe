use Rattle.command_inputs.specs.declared.role.Role.TheVariants as role
use Rattle.std.proofs.Common.{[], option_map, subst, sym}
use Rattle.commands.specs.Asked.{turns_inputs}
use Rattle.commands.specs.Reads.{AreReadFor}
use Rattle.commands.proofs.Steps.{reads_stop}
use Rattle.commands.proofs.record.read_way.Goals as goal

pub returns-in_err-read_turns-in-Some-clause-reads : goal.returns-in_err-read_turns-in-Some-clause-reads
returns-in_err-read_turns-in-Some-clause-reads g c =
    let old = g.F.Shelf.calls c.args.shelf.now in
    let new = g.F.Shelf.calls c.read_turns.new.shelf in
    subst (λ turns. AreReadFor (turns_inputs (option_map (λ n. n.now) turns)) old new c.from_residual.result) (sym c.in-Some.is)
    (reads_stop _ old new role.Turns _ [] _ _ c.in_err-read_turns-in-Some.ensures.once c.in_err-read_turns-in-Some.ensures.of_input c.from_residual.ensures.1)
