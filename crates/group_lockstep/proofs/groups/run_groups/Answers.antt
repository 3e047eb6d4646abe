use Rattle.std.proofs.Common.{◌≡◌, ◌∙◌, length, ap, sym, arith}
use Rattle.basis.specs.Lists.{nth}
use Rattle.log_checker.proofs.Carried.{carried}
use Rattle.log_checker.proofs.Firsts.{some_at}
use Rattle.group_lockstep.proofs.AllGroups.{groups_told, unsound_at, sound_more, spent_next, all_sound, spent_all}
use Rattle.group_lockstep.proofs.groups.run_groups.Goals as goal

pub returns-in_err-more : goal.returns-in_err-more
returns-in_err-more g c = λ program of.
    let t = c.args.evidence.now in
    let i = c.loop-number.number in
    let group = c.group-item.result in
    let at = sym (ap (λ xs. nth xs i) c.groups-group-items.ensures) ∙ some_at c.groups-group-items.result.now i group c.loop-number-test.true c.group-item.is in
    carried _ _ _ c.in_err-more.field-0.0 c.from_residual-in_err-more.result c.from_residual-in_err-more.ensures.1 (c.in_err-more.ensures program of)
    (λ reason is. unsound_at program t i group c.rids-rids.result.now c.in_ok-narrow.field-0 at c.in_ok-narrow.ensures c.rids-rids.ensures.rids reason (c.loop-number.invariant.sound program of) is)

pub loop-number-preserved : goal.loop-number-preserved
loop-number-preserved g c =
    let t = c.args.evidence.now in
    let i = c.loop-number.number in
    let group = c.group-item.result in
    let at = sym (ap (λ xs. nth xs i) c.groups-group-items.ensures) ∙ some_at c.groups-group-items.result.now i group c.loop-number-test.true c.group-item.is in
    record {
      sound = λ program of.
          sound_more program t i group c.rids-rids.result.now c.in_ok-narrow.field-0 at c.in_ok-narrow.ensures c.rids-rids.ensures.rids (c.loop-number.invariant.sound program of) (c.in_ok-more.ensures program of).0;
      spends = λ program of.
          spent_next program t i group c.rids-rids.result.now c.in_ok-narrow.field-0 at c.in_ok-narrow.ensures c.rids-rids.ensures.rids
          c.args.evaluations.now c.loop-number.evaluations c.run_group.new.evaluations c.loop-number.steps c.in_ok-more.more c.in_ok-steps.steps
          (c.loop-number.invariant.spends program of) (c.in_ok-more.ensures program of).1 c.in_ok-steps.ensures;
    }

pub returns : goal.returns
returns g c = λ program of.
    let t = c.args.evidence.now in
    let n = c.loop-number.number in
    let all : n ≡ length (groups_told program t) = omega (arith, c.loop-number-test.false, c.loop-number.auto.number-end, ap length c.groups-group-items.ensures) in (
      all_sound program t n all (c.loop-number.invariant.sound program of),
      spent_all program t n c.args.evaluations.now c.loop-number.evaluations c.loop-number.steps all (c.loop-number.invariant.spends program of),
    )
