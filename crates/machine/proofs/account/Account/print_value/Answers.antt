use Rattle.std.proofs.lemmas.Result.{err_from_is_err_and}
use Rattle.machine.specs.Gives.{progress_of}
use Rattle.machine.proofs.Parts.{output_stops}
use Rattle.machine.proofs.account.Account.print_value.Goals as goal

pub returns-in_err-print_value-clause-gives : goal.returns-in_err-print_value-clause-gives
returns-in_err-print_value-clause-gives c ops more =
    let w = err_from_is_err_and c.from_residual.result c.from_residual.ensures.1 in
    rw (w.1, w.2) (output_stops c.in_err-print_value.field-0.0 _ _ (c.in_err-print_value.ensures (progress_of c.args.self.now ops more)))

pub returns-clause-gives : goal.returns-clause-gives
returns-clause-gives c ops more = c.in_ok-print_value.ensures (progress_of c.args.self.now ops more)
