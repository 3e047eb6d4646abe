use Rattle.std.proofs.Common.{◌≡◌, ◌∙◌, length, Some, ap, sym, subst, arith}
use Rattle.basis.specs.Lists.{nth}
use Rattle.audit_meaning.specs.LogFaults.{second_log}
use Rattle.audit_meaning.specs.declared.reason.Reason.TheVariants.{SecondLog}
use Rattle.log_checker.proofs.Firsts.{none_start, some_at}
use Rattle.log_checker.proofs.ObjectFacts.{twice_is, twice_more, no_twice, more_of}
use Rattle.log_checker.proofs.log_objects.check_objects.Goals as goal

pub loop-log-init : goal.loop-log-init
loop-log-init c = record { once = none_start _ _; of = c.new-seen.ensures }

pub returns-then-not-branch : goal.returns-then-not-branch
returns-then-not-branch c =
    let i = c.loop-log.log-index in
    let log = c.log-item.result in
    let at : nth c.args.report.now.logs i ≡ Some log =
    sym (ap (λ xs. nth xs i) c.as_slice-log-items.ensures) ∙ some_at c.as_slice-log-items.result.now i log c.loop-log-test.true c.log-item.is in
    subst (λ o. second_log c.args.report.now ≡ Some (SecondLog o)) (sym c.in_ok-copy_of.ensures)
    (twice_is c.args.report.now i log c.loop-log.seen c.in_ok-enter.field-0 c.loop-log.invariant.once at c.loop-log.invariant.of c.in_ok-enter.ensures.new
    c.if-not-branch.true)

pub loop-log-preserved : goal.loop-log-preserved
loop-log-preserved c =
    let i = c.loop-log.log-index in
    let log = c.log-item.result in
    let at : nth c.args.report.now.logs i ≡ Some log =
    sym (ap (λ xs. nth xs i) c.as_slice-log-items.ensures) ∙ some_at c.as_slice-log-items.result.now i log c.loop-log-test.true c.log-item.is in
    record {
      once = twice_more c.args.report.now i log c.loop-log.seen c.in_ok-enter.field-0 c.loop-log.invariant.once at c.loop-log.invariant.of
          c.in_ok-enter.ensures.new c.if-not-branch.false;
      of = more_of c.args.report.now.logs i log c.loop-log.seen c.enter.new.self at c.loop-log.invariant.of c.in_ok-enter.ensures.enters;
    }

pub returns : goal.returns
returns c = no_twice c.args.report.now c.loop-log.log-index (omega (arith, ap length c.as_slice-log-items.ensures)) c.loop-log.invariant.once
