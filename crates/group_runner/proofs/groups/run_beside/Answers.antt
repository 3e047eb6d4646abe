use Rattle.std.proofs.Common.{◌∷◌, ◌++◌, [], take, get_or, sym, subst, arith}
use Rattle.basis.proofs.Places.{nth-get_or}
use Rattle.log_checker.proofs.EntryFacts.{next_take}
use Rattle.group_runner.specs.Findings.{FindsAll}
use Rattle.group_runner.specs.MembersTold.{IsGroupRunOf}
use Rattle.group_runner.proofs.Grouped.{first_told, more_told, steps_more}
use Rattle.group_runner.proofs.groups.run_beside.Goals as goal

pub loop-rid-init : goal.loop-rid-init
loop-rid-init c = λ program of first.
    let t = c.args.runner.evidence.now in
    let spent = first.steps' in
    record {
      found = λ group. first_told program t group c.args.first_rid c.in_ok-findings.findings (c.in_ok-findings.ensures program t group first c.count.ensures);
      steps' = omega (arith, spent, c.from-steps.ensures);
    }

pub loop-rid-preserved : goal.loop-rid-preserved
loop-rid-preserved c = λ program of first.
    let t = c.args.runner.evidence.now in
    let i = c.loop-rid.rid-index in
    let rids = take i c.args.others.now in
    let rid = get_or c.args.others.now i 0 in
    let all = c.loop-rid.invariant program of first in
    let member = c.in_ok-member.ensures program of in
    let spent = member.steps' in
    let so_far = all.steps' in
    let more = steps_more program t (c.args.first_rid ∷ rids) rid in
    subst (λ rs. IsGroupRunOf program t c.args.first_rid rs (record { findings = c.and-findings.result; steps = c.in_ok-steps.steps }))
    (sym (next_take c.args.others.now i rid (nth-get_or 0 c.args.others.now i c.loop-rid-test.true))) (record {
      found = λ group.
          subst (FindsAll program t group c.args.first_rid (rids ++ rid ∷ [])) (sym c.and-findings.ensures)
          (more_told program t group c.args.first_rid rids rid c.loop-rid.findings c.in_ok-beside.field-0 (all.found group)
          (c.in_ok-beside.ensures program t group c.args.first_rid first member c.count-in-loop-rid.ensures));
      steps' = omega (arith, spent, so_far, more, c.from-more.ensures, c.in_ok-steps.ensures);
    })
