use Rattle.std.proofs.Common.{◌≡◌, ◌∙◌, ap, sym, subst, refl, ◌+◌, ◌<◌, [], ◌∷◌, Some, length, take, drop, arith}
use Rattle.std.proofs.lemmas.List.{length-take-le, drop_all}
use Rattle.script_meaning.specs.Replay.{opening, after}
use Rattle.replayer.specs.Differences.{difference_from}
use Rattle.replayer.specs.Stages.{Shows, departed_of}
use Rattle.replayer.specs.declared.reason.ReplayReason.TheVariants.{AtMoment}
use Rattle.replayer.proofs.Moments.{comes_next, comes_last}
use Rattle.replayer.proofs.StageFacts.{stops_here, ends_here, steps_on}
use Rattle.replayer.proofs.replay.difference_on.Goals as goal

pub loop-place-init : goal.loop-place-init
loop-place-init g c = λ objects shown. (opening objects, shown, refl)

pub returns-in-Some : goal.returns-in-Some
returns-in-Some g c = λ objects opened.
    let stage = c.loop-place.stage in
    let ms = c.args.schedule.now in
    let place = c.loop-place.place in
    let m = c.moment-moment.result in
    let inside : place < length ms = omega (arith, c.loop-place-test.true, c.len-place-end.ensures) in
    let here = comes_next ms place m inside c.moment-moment.ensures in
    let shown = c.loop-place.invariant objects opened in
    let s = c.in_ok-reason.ensures.step (take place ms) shown.0 shown.1 in
    let stop =
    ap (difference_from stage.index.now stage.trace (take place ms) shown.0) here
    ∙ stops_here stage.index.now stage.trace (take place ms) shown.0 m (drop (place + 1) ms) c.in-Some.reason (s.named ∙ c.in-Some.is) in
    let long : length (take place ms) ≡ place = length-take-le place ms (omega arith) in
    ap (λ k. Some (AtMoment c.in-Some.reason k c.rid_of.result)) (sym long)
    ∙ ap (λ r. Some (AtMoment c.in-Some.reason (length (take place ms)) r)) c.rid_of.ensures
    ∙ sym stop ∙ sym shown.2

pub loop-place-preserved : goal.loop-place-preserved
loop-place-preserved g c = λ objects opened.
    let stage = c.loop-place.stage in
    let ms = c.args.schedule.now in
    let place = c.loop-place.place in
    let m = c.moment-moment.result in
    let inside : place < length ms = omega (arith, c.loop-place-test.true, c.len-place-end.ensures) in
    let here = comes_next ms place m inside c.moment-moment.ensures in
    let shown = c.loop-place.invariant objects opened in
    let s = c.in_ok-reason.ensures.step (take place ms) shown.0 shown.1 in
    let next = after stage.index.now stage.trace shown.0 m in
    let taken = comes_last ms place m inside c.moment-moment.ensures in (
      next,
      subst (λ past. Shows past next c.step.new.self) (sym taken) (s.shown c.in_default.is),
      steps_on _ stage c.step.new.self (take place ms) shown.0 m (drop (place + 1) ms)
          (shown.2 ∙ ap (difference_from stage.index.now stage.trace (take place ms) shown.0) here)
          c.in_ok-reason.ensures.same (s.named ∙ c.in_default.is)
          ∙ ap (λ past. difference_from c.step.new.self.index.now c.step.new.self.trace past next (drop (place + 1) ms)) (sym taken),
    )

pub returns : goal.returns
returns g c = λ objects opened.
    let stage = c.loop-place.stage in
    let ms = c.args.schedule.now in
    let place = c.loop-place.place in
    let shown = c.loop-place.invariant objects opened in
    let none : drop place ms ≡ [] = drop_all place ms (omega (arith, c.loop-place-test.false, c.len-place-end.ensures)) in
    c.first_not_departed.ensures
    ∙ sym (ends_here stage.index.now stage.trace (take place ms) shown.0 (departed_of stage) shown.1.departed)
    ∙ ap (difference_from stage.index.now stage.trace (take place ms) shown.0) (sym none)
    ∙ sym shown.2
