use Rattle.multi_state.proofs.Totals.{total_is}
use Rattle.multi_state.proofs.law.total_is_group_cost.Goals as goal

pub returns : goal.returns
returns c = total_is
