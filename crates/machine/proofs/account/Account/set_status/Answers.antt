use Rattle.std.proofs.lemmas.Result.{err_from_is_err_and}
use Rattle.machine.specs.Gives.{progress_of}
use Rattle.machine.proofs.Parts.{output_stops}
use Rattle.machine.proofs.account.Account.set_status.Goals as goal

pub returns-in_err-set_status-clause-gives : goal.returns-in_err-set_status-clause-gives
returns-in_err-set_status-clause-gives c ops more =
    let w = err_from_is_err_and c.from_residual.result c.from_residual.ensures.1 in
    rw (w.1, w.2) (output_stops c.in_err-set_status.field-0.0 _ _ (c.in_err-set_status.ensures (progress_of c.args.self.now ops more)))

pub returns-clause-gives : goal.returns-clause-gives
returns-clause-gives c ops more = c.in_ok-set_status.ensures (progress_of c.args.self.now ops more)
