use Rattle.group_laws.proofs.Blind.{changes_nothing}
use Rattle.group_laws.proofs.law.keeping_costs_changes_nothing.Goals as goal

pub returns : goal.returns
returns c = changes_nothing
