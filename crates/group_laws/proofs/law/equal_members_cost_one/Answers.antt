use Rattle.group_laws.proofs.EqualMembers.{equal_cost_one}
use Rattle.group_laws.proofs.law.equal_members_cost_one.Goals as goal

pub returns : goal.returns
returns c = equal_cost_one c.keeping_costs_changes_nothing.ensures c.equal_members_share.ensures
