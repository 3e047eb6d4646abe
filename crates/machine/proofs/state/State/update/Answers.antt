use Rattle.std.proofs.Common.{Some, ◌+◌}
use Rattle.std.proofs.lemmas.Result.{err_from_is_err_and}
use Rattle.script_code.specs.CodeRun.{step}
use Rattle.script_code.specs.declared.instruction.Instruction.TheVariants.{Assign}
use Rattle.machine.proofs.Parts.{stops_leaves}
use Rattle.machine.proofs.state.State.update.Goals as goal

pub returns-in_err-left-clause-does : goal.returns-in_err-left-clause-does
returns-in_err-left-clause-does c q functions next fs pc ops more =
    let w = err_from_is_err_and c.from_residual.result c.from_residual.ensures.1 in
    rw (w.1, w.2) (stops_leaves (next fs (pc + 1 + 1)) ops more c.pop_two.new.self c.in_err-left.field-0.0 _
    (c.in_err-left.ensures.stops c.args.operator q functions (step q functions (Some (Assign c.args.slot)) next) fs pc ops more))
