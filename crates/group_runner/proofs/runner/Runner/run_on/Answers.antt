use Rattle.std.proofs.Common.{◌≡◌, ◌∙◌, ◌+◌, suc, Some, None, ap, subst, arith}
use Rattle.machine.specs.Follows.{Follows}
use Rattle.group_runner.specs.Told.{answers_to}
use Rattle.group_runner.specs.MembersTold.{GoesOn}
use Rattle.group_runner.proofs.Runs.{good_more, ends_at, all_done}
use Rattle.group_runner.proofs.runner.Runner.run_on.Goals as goal

pub returns-in-Some-clause-run : goal.returns-in-Some-clause-run
returns-in-Some-clause-run c = λ program q f0.
    let t = c.args.self.now.evidence.now in
    let r = c.args.rid in
    let k = c.loop-done.done in
    let goes : GoesOn program q (answers_to t r k) t r (k + 1) c.go_on.new.machine (Some c.in-Some.step) =
    subst (GoesOn program q (answers_to t r k) t r (k + 1) c.go_on.new.machine) c.in-Some.is
    (c.in_ok-step.ensures.goes program q (answers_to t r k) (c.loop-done.invariant.follows program q f0)) in
    record {
      done' = ends_at program t r q k (k + 1) (c.loop-done.invariant.good program q f0)
          (omega (arith, c.loop-done-test.true, c.count-count.ensures)) (omega arith) goes.0;
      follows = goes.2;
      ending = goes.1;
    }

pub loop-done-preserved : goal.loop-done-preserved
loop-done-preserved c =
    let t = c.args.self.now.evidence.now in
    let r = c.args.rid in
    let k = c.loop-done.done in
    record {
      ready = c.in_ok-step.ensures.ready c.in_default.is;
      good = λ program q f0.
          let goes : GoesOn program q (answers_to t r k) t r (k + 1) c.go_on.new.machine None =
          subst (GoesOn program q (answers_to t r k) t r (k + 1) c.go_on.new.machine) c.in_default.is
          (c.in_ok-step.ensures.goes program q (answers_to t r k) (c.loop-done.invariant.follows program q f0)) in
          λ j lt. (good_more program t r q k (k + 1) goes.0 (c.loop-done.invariant.good program q f0) (omega arith) goes.1).0 j (omega (arith, lt));
      follows = λ program q f0.
          let goes : GoesOn program q (answers_to t r k) t r (k + 1) c.go_on.new.machine None =
          subst (GoesOn program q (answers_to t r k) t r (k + 1) c.go_on.new.machine) c.in_default.is
          (c.in_ok-step.ensures.goes program q (answers_to t r k) (c.loop-done.invariant.follows program q f0)) in
          let next : suc k ≡ k + 1 = omega arith in
          subst (λ ds. Follows program q ds c.go_on.new.machine)
          ((good_more program t r q k (k + 1) goes.0 (c.loop-done.invariant.good program q f0) (omega arith) goes.1).1 ∙ ap (answers_to t r) next) goes.2;
    }

pub returns-clause-run : goal.returns-clause-run
returns-clause-run c = λ program q f0.
    let t = c.args.self.now.evidence.now in
    let r = c.args.rid in
    let same : c.loop-done.done ≡ c.count-count.result = omega (arith, c.loop-done-test.false, c.loop-done.auto.done-end) in
    let f = subst (λ k. Follows program q (answers_to t r k) c.loop-done.machine) same (c.loop-done.invariant.follows program q f0) in
    record {
      done' = all_done program t r q c.count-count.result (λ j lt. c.loop-done.invariant.good program q f0 j (omega (arith, lt, same))) c.count-count.ensures;
      follows = c.in_ok-step-2.ensures.follows program q (answers_to t r c.count-count.result) f;
      ending = c.in_ok-step-2.ensures.tells program q (answers_to t r c.count-count.result) f;
    }
