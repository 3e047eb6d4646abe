use Rattle.multi_state.proofs.Parting.{all_print}
use Rattle.multi_state.proofs.account.Account.print.Goals as goal

pub returns-clause-prints : goal.returns-clause-prints
returns-clause-prints c = all_print c.args.members c.args.texts c.args.self.now c.print.new.self c.print.result c.print.ensures
