use Rattle.group_laws.proofs.Spending.{at_most}
use Rattle.group_laws.proofs.law.evaluated_is_at_most_plain.Goals as goal

pub returns : goal.returns
returns c = at_most c.keeping_costs_changes_nothing.ensures
