use Rattle.group_laws.proofs.Spending.{one_member}
use Rattle.group_laws.proofs.law.one_member_costs_its_steps.Goals as goal

pub returns : goal.returns
returns c = one_member c.keeping_costs_changes_nothing.ensures
