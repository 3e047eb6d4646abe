use Rattle.std.proofs.Common.{◌≡◌, ◌∙◌, length, take, Some, ap, sym, subst, arith}
use Rattle.basis.specs.Lists.{nth}
use Rattle.object_set.specs.ObjectSets.{objects_of}
use Rattle.audit_meaning.specs.Spots.{spots}
use Rattle.log_checker.specs.Counting.{IsCounted}
use Rattle.log_checker.proofs.Carried.{carried}
use Rattle.log_checker.proofs.EntryFacts.{logs_start, logs_more, logs_wrong, logs_all}
use Rattle.log_checker.proofs.Firsts.{some_at}
use Rattle.log_checker.proofs.entries.EntryChecker.read_logs.Goals as goal

pub loop-number-init : goal.loop-number-init
loop-number-init c = λ program of. logs_start program _ c.args.self.now.trace.now c.args.report.now c.in_ok-map.map
    (subst (IsCounted c.args.report.now) (sym c.in_ok-map.ensures.counts) c.requires) c.in_ok-map.ensures.empty

pub returns-in_err-read_log : goal.returns-in_err-read_log
returns-in_err-read_log c = λ program of.
    let h = c.loop-number.invariant program of in
    let i = c.loop-number.number in
    let report = c.args.report.now in
    let log = c.log-item.result in
    let at : nth report.logs i ≡ Some log =
    sym (ap (λ xs. nth xs i) c.as_slice-log-items.ensures) ∙ some_at c.as_slice-log-items.result.now i log (omega arith) c.log-item.is in
    carried _ _ _ c.in_err-read_log.field-0.0 c.from_residual-in_err-read_log.result c.from_residual-in_err-read_log.ensures.1
    (c.in_err-read_log.ensures program report (spots (take i report.logs)) of h.knows at)
    (λ r wrong. logs_wrong program (objects_of c.args.self.now.start.now) c.args.self.now.trace.now report i log c.loop-number.map r h at wrong)

pub loop-number-preserved : goal.loop-number-preserved
loop-number-preserved c = λ program of.
    let h = c.loop-number.invariant program of in
    let i = c.loop-number.number in
    let report = c.args.report.now in
    let log = c.log-item.result in
    let at : nth report.logs i ≡ Some log =
    sym (ap (λ xs. nth xs i) c.as_slice-log-items.ensures) ∙ some_at c.as_slice-log-items.result.now i log (omega arith) c.log-item.is in
    logs_more program (objects_of c.args.self.now.start.now) c.args.self.now.trace.now report i log c.loop-number.map c.read_log.new.map h at
    (c.in_ok-read_log.ensures program report (spots (take i report.logs)) of h.knows at)

pub returns : goal.returns
returns c = λ program of. logs_all program _ c.args.self.now.trace.now c.args.report.now c.loop-number.number c.loop-number.map
    (omega (arith, ap length c.as_slice-log-items.ensures)) (c.loop-number.invariant program of)
