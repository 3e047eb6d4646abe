use Rattle.std.proofs.Common.{◌≡◌, Err, rules, subst}
use Rattle.state_file.specs.Starts.{IsStart}
use Rattle.state_file.specs.States.{HasStateFault}
use Rattle.state_file.specs.declared.fault.StateFault.{StateFault}
use Rattle.command_inputs.specs.declared.fault.InputFault.TheVariants.{State}
use Rattle.command_inputs.proofs.States.{fault_of_whole, start_of_whole}
use Rattle.command_inputs.proofs.state.read_state.Goals as goal

pub returns-in_err-map_err-clause-read : goal.returns-in_err-map_err-clause-read
returns-in_err-map_err-clause-read g c = λ files told.
    let e : (fault : StateFault) × (c.in_ok-objects.objects ≡ Err fault) × (c.in_err-map_err.field-0.0 ≡ State fault) = search rules in
    let fault : HasStateFault c.args.program.now c.deref.result.now e.0 = rw e.1 at (rw c.in_ok-objects.ensures.told at c.read_state.ensures) in
    let input = fault_of_whole c.args.program.now c.args.most _ _ e.0 (c.in_ok-bytes.ensures.read files told)
    (subst (λ bs. HasStateFault c.args.program.now bs e.0) c.deref.ensures.value fault) in
    search rules

pub returns-clause-read : goal.returns-clause-read
returns-clause-read g c = λ files told.
    let start : IsStart c.args.program.now c.in_ok-bytes.bytes.items c.in_ok-map_err.field-0 = search rules in
    start_of_whole c.args.program.now c.args.most _ _ _ (c.in_ok-bytes.ensures.read files told) start
