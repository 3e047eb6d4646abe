use Rattle.std.proofs.Common.{◌∙◌, get_or, take, length, ap, sym, subst, arith}
use Rattle.basis.specs.Lists.{nth}
use Rattle.basis.proofs.Places.{nth-get_or}
use Rattle.audit_meaning.specs.Lists.{befores}
use Rattle.log_checker.specs.Grouping.{AreMembers}
use Rattle.log_checker.proofs.Firsts.{NoneBelow, none_start}
use Rattle.log_checker.proofs.GroupFacts.{if_earlier, earlier_is, earlier_next, earlier_end, members_next, empty_set}
use Rattle.log_checker.proofs.grouping.members_once.Goals as goal

pub loop-member-init : goal.loop-member-init
loop-member-init c = record { once = none_start _ _; of = empty_set c.new-seen.result c.new-seen.ensures.empty }

pub returns-then-not-branch : goal.returns-then-not-branch
returns-then-not-branch c = λ report is.
    let i = c.loop-member.member-index in
    let r = get_or c.args.rids.now i 0 in
    earlier_is report i r c.loop-member.seen c.in_ok-insert.field-0 (subst (λ rids. NoneBelow if_earlier (befores rids) i) is c.loop-member.invariant.once)
    (sym (ap (λ rids. nth rids i) is) ∙ nth-get_or 0 c.args.rids.now i c.loop-member-test.true)
    (subst (λ rids. AreMembers (take i rids) c.loop-member.seen) is c.loop-member.invariant.of) c.in_ok-insert.ensures.added c.if-not-branch.true

pub loop-member-preserved : goal.loop-member-preserved
loop-member-preserved c =
    let i = c.loop-member.member-index in
    let r = get_or c.args.rids.now i 0 in
    let at = nth-get_or 0 c.args.rids.now i c.loop-member-test.true in
    record {
      once = earlier_next c.args.rids.now i r c.loop-member.seen c.in_ok-insert.field-0 c.loop-member.invariant.once at c.loop-member.invariant.of
          c.in_ok-insert.ensures.added c.if-not-branch.false;
      of = members_next c.args.rids.now i r c.loop-member.seen c.insert.new.self at c.loop-member.invariant.of c.in_ok-insert.ensures.updates;
    }

pub returns : goal.returns
returns c = λ report is.
    let n = c.loop-member.member-index in
    earlier_end report n c.loop-member.seen (omega (arith, ap length is))
    (subst (λ rids. NoneBelow if_earlier (befores rids) n) is c.loop-member.invariant.once)
    (subst (λ rids. AreMembers (take n rids) c.loop-member.seen) is c.loop-member.invariant.of)
