use Rattle.std.proofs.Common.{◌∙◌, is_none, get_or, ap, length, sym, subst, arith}
use Rattle.basis.specs.Lists.{nth}
use Rattle.basis.proofs.Places.{nth-get_or}
use Rattle.log_checker.proofs.Firsts.{NoneBelow, none_start}
use Rattle.log_checker.proofs.GroupFacts.{if_no_request, none_is, none_next, none_end}
use Rattle.log_checker.proofs.Tests.{place_tells, none_result}
use Rattle.log_checker.proofs.grouping.check_members.Goals as goal

pub loop-member-init : goal.loop-member-init
loop-member-init c = none_start _ _

pub returns-then-is_none : goal.returns-then-is_none
returns-then-is_none c = λ report is.
    let i = c.loop-member.member-index in
    let r = get_or c.args.rids.now i 0 in
    none_is c.args.trace.now report i r c.is_none.result (subst (λ rids. NoneBelow (if_no_request c.args.trace.now) rids i) is c.loop-member.invariant)
    (sym (ap (λ rids. nth rids i) is) ∙ nth-get_or 0 c.args.rids.now i c.loop-member-test.true)
    (none_result c.is_none.result c.place.result c.is_none.ensures ∙ ap is_none c.place.ensures.place ∙ place_tells c.args.trace.now r) c.if-is_none.true

pub loop-member-preserved : goal.loop-member-preserved
loop-member-preserved c =
    let i = c.loop-member.member-index in
    let r = get_or c.args.rids.now i 0 in
    none_next c.args.trace.now c.args.rids.now i r c.is_none.result c.loop-member.invariant (nth-get_or 0 c.args.rids.now i c.loop-member-test.true)
    (none_result c.is_none.result c.place.result c.is_none.ensures ∙ ap is_none c.place.ensures.place ∙ place_tells c.args.trace.now r) c.if-is_none.false

pub returns : goal.returns
returns c = λ report is.
    none_end c.args.trace.now report c.loop-member.member-index (omega (arith, ap length is))
    (subst (λ rids. NoneBelow (if_no_request c.args.trace.now) rids c.loop-member.member-index) is c.loop-member.invariant)
