use Rattle.log_checker.proofs.GroupFacts.{if_no_request}
use Rattle.log_checker.proofs.Firsts.{NoneBelow}
use Rattle.log_checker.proofs.grouping.check_members.Given as goal

abbrev pub invariant-loop-member : goal.invariant-loop-member
invariant-loop-member l = NoneBelow (if_no_request l.trace) l.rids l.member-index
