use Rattle.std.proofs.Common.{take}
use Rattle.audit_meaning.specs.Lists.{befores}
use Rattle.log_checker.specs.Grouping.{AreMembers}
use Rattle.log_checker.proofs.GroupFacts.{if_earlier}
use Rattle.log_checker.proofs.Firsts.{NoneBelow}
use Rattle.log_checker.proofs.grouping.members_once.Given as goal

abbrev pub invariant-loop-member : goal.invariant-loop-member
invariant-loop-member l = record {
  once : NoneBelow if_earlier (befores l.rids) l.member-index;
  of : AreMembers (take l.member-index l.rids) l.seen;
}
