use Rattle.multi_state.specs.Spending.{HaveStatuses}
use Rattle.multi_state.proofs.spending.are_statuses.Given as goal

abbrev pub invariant-loop-member : goal.invariant-loop-member
invariant-loop-member l = HaveStatuses l.member l.statuses
