use Rattle.std.proofs.Common.{◌∙◌, sym, refl, arith}
use Rattle.audit_meaning.specs.LogFaults.{if_without_count}
use Rattle.log_checker.proofs.CountFacts.{without_is, without_more, without_none}
use Rattle.trace_index.proofs.Events.{asked_at, answered_at}
use Rattle.log_checker.proofs.Firsts.{none_start, none_more}
use Rattle.log_checker.proofs.Tests.{none_result}
use Rattle.log_checker.proofs.counting.OperationCounts.check_requests.Goals as goal
use Rattle.log_checker.proofs.counting.OperationCounts.check_requests.Goals.{in-Asks+else-is_none, in_default}

pub loop-place-init : goal.loop-place-init
loop-place-init c = λ report counted. none_start _ _

pub returns-then-is_none : goal.returns-then-is_none
returns-then-is_none c = λ report counted.
    let i = c.loop-place.place in
    let asked = asked_at c.args.trace.now i c.in-Asks.rid c.head.result (omega arith) c.head.ensures c.in-Asks.is in
    without_is c.args.trace.now report i c.in-Asks.rid asked.0 c.of.result (c.loop-place.invariant report counted) asked.1
    (c.of.ensures ∙ counted c.in-Asks.rid) (sym (none_result c.is_none.result c.of.result c.is_none.ensures) ∙ c.if-is_none.true)

pub loop-place-preserved : goal.loop-place-preserved
loop-place-preserved c = λ report counted.
    let i = c.loop-place.place in
    elim c.match-head.branch [
      | in-Asks+else-is_none w ↦
          let asked = asked_at c.args.trace.now i w.in-Asks.rid c.head.result (omega arith) c.head.ensures w.in-Asks.is in
          without_more c.args.trace.now report i w.in-Asks.rid asked.0 w.of.result (c.loop-place.invariant report counted) asked.1
          (w.of.ensures ∙ counted w.in-Asks.rid) (sym (none_result w.is_none.result w.of.result w.is_none.ensures) ∙ w.if-is_none.false)
      | in_default w ↦ none_more (if_without_count report) c.args.trace.now i _ (c.loop-place.invariant report counted)
          (answered_at c.args.trace.now i w.in_default.field-0 c.head.result (omega arith) c.head.ensures w.in_default.is).1 refl
    ]

pub returns : goal.returns
returns c = λ report counted. without_none c.args.trace.now report c.loop-place.place (omega arith) (c.loop-place.invariant report counted)
