use Rattle.std.proofs.Common.{refl, subst, arith}
use Rattle.audit_meaning.specs.LogFaults.{if_without_entry}
use Rattle.log_checker.specs.OpMaps.{count_in, IsFirstMissing}
use Rattle.log_checker.proofs.EntryFacts.{missing_is, missing_none, all_there}
use Rattle.trace_index.proofs.Events.{asked_at, answered_at}
use Rattle.log_checker.proofs.Firsts.{none_start, none_more}
use Rattle.log_checker.proofs.checking.check_operations.Goals as goal
use Rattle.log_checker.proofs.checking.check_operations.Goals.{in-Asks+in_default-first_missing, in_default}

pub loop-place-init : goal.loop-place-init
loop-place-init c = λ report h. none_start _ _

pub returns-in-Some : goal.returns-in-Some
returns-in-Some c = λ report h.
    let i = c.loop-place.place in
    let asked = asked_at c.args.trace.now i c.in-Asks.rid c.head.result (omega arith) c.head.ensures c.in-Asks.is in
    missing_is c.args.trace.now report c.args.map.now i c.in-Asks.rid c.in-Some.operation asked.0 h (c.loop-place.invariant report h) asked.1 c.in-Some.ensures

pub loop-place-preserved : goal.loop-place-preserved
loop-place-preserved c = λ report h.
    let i = c.loop-place.place in
    elim c.match-head.branch [
      | in-Asks+in_default-first_missing w ↦
          let asked = asked_at c.args.trace.now i w.in-Asks.rid c.head.result (omega arith) c.head.ensures w.in-Asks.is in
          missing_none c.args.trace.now report c.args.map.now i w.in-Asks.rid asked.0 h (c.loop-place.invariant report h) asked.1
          (subst (IsFirstMissing c.args.map.now w.in-Asks.rid (count_in c.args.map.now w.in-Asks.rid)) w.in_default-first_missing.is w.first_missing.ensures)
      | in_default w ↦ none_more (if_without_entry report) c.args.trace.now i _ (c.loop-place.invariant report h)
          (answered_at c.args.trace.now i w.in_default.field-0 c.head.result (omega arith) c.head.ensures w.in_default.is).1 refl
    ]

pub returns : goal.returns
returns c = λ report h. all_there c.args.trace.now report c.loop-place.place (omega arith) (c.loop-place.invariant report h)
