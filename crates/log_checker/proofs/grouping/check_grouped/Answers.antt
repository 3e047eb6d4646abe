use Rattle.std.proofs.Common.{◌∙◌, refl, arith}
use Rattle.audit_meaning.specs.GroupFaults.{if_without_group}
use Rattle.trace_index.proofs.Events.{asked_at, answered_at}
use Rattle.log_checker.proofs.Firsts.{none_start, none_more}
use Rattle.log_checker.proofs.GroupFacts.{outside_is, outside_next, outside_end}
use Rattle.log_checker.proofs.grouping.check_grouped.Goals as goal
use Rattle.log_checker.proofs.grouping.check_grouped.Goals.{in-Asks+else-not-contains, in_default}

pub loop-place-init : goal.loop-place-init
loop-place-init c = λ report are. none_start _ _

pub returns : goal.returns
returns c = λ report are. outside_end c.args.trace.now report c.loop-place.place (omega arith) (c.loop-place.invariant report are)

pub returns-then-not-contains : goal.returns-then-not-contains
returns-then-not-contains c = λ report are.
    let i = c.loop-place.place in
    let asked = asked_at c.args.trace.now i c.in-Asks.rid c.head.result (omega arith) c.head.ensures c.in-Asks.is in
    outside_is c.args.trace.now report i c.in-Asks.rid asked.0 c.contains.result (c.loop-place.invariant report are) asked.1
    (c.contains.ensures ∙ are c.in-Asks.rid) c.if-not-contains.true

pub loop-place-preserved : goal.loop-place-preserved
loop-place-preserved c = λ report are.
    let i = c.loop-place.place in
    elim c.match-head.branch [
      | in-Asks+else-not-contains w ↦
          let asked = asked_at c.args.trace.now i w.in-Asks.rid c.head.result (omega arith) c.head.ensures w.in-Asks.is in
          outside_next c.args.trace.now report i w.in-Asks.rid asked.0 w.contains.result (c.loop-place.invariant report are) asked.1
          (w.contains.ensures ∙ are w.in-Asks.rid) w.if-not-contains.false
      | in_default w ↦
          none_more (if_without_group report) c.args.trace.now i _ (c.loop-place.invariant report are)
          (answered_at c.args.trace.now i w.in_default.field-0 c.head.result (omega arith) c.head.ensures w.in_default.is).1 refl
    ]
