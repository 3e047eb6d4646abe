use Rattle.std.proofs.Common.{Ok, Err, refl, sym, subst}
use Rattle.multi_run.specs.Runs.{Runs}
use Rattle.multi_machine.specs.Together.{AllEnd, RoseBy}
use Rattle.multi_machine.proofs.Apart.{run_parts}
use Rattle.multi_machine.proofs.Together.{over_ends, fault_ends, all_want}
use Rattle.multi_machine.proofs.machine.go_on.Goals as goal

pub returns-in-Ok-Wants : goal.returns-in-Ok-Wants
returns-in-Ok-Wants g c program told begun rose =
    let qs = c.args.group in
    let code = c.args.code.now in
    let before = c.args.evaluations.now in
    let after' = c.run.new.evaluations in
    let new = c.run.new.self in
    let runs = subst (λ w. Runs before after' qs code c.args.run (Ok w) new) c.in-Ok-Wants.field-0-is c.in-Ok-Wants.ensures.runs in
    all_want program qs code told c.args.run new begun before after' rose
    (record { code = c.args.code; group = qs; run = new; ops = c.in-Ok-Wants.ops }) refl refl refl runs

pub returns-in-Ok-Over : goal.returns-in-Ok-Over
returns-in-Ok-Over g c program told begun rose =
    let qs = c.args.group in
    let code = c.args.code.now in
    let before = c.args.evaluations.now in
    let after' = c.run.new.evaluations in
    let new = c.run.new.self in
    let runs = subst (λ w. Runs before after' qs code c.args.run (Ok w) new) c.in-Ok-Over.field-0-is c.in-Ok-Over.ensures.runs in
    subst (λ e. RoseBy begun after' (λ k. AllEnd program qs told k e)) (sym c.normal.ensures) (over_ends program qs code told c.args.run new begun before after' rose runs)

pub returns-in-Err-Fault : goal.returns-in-Err-Fault
returns-in-Err-Fault g c program told begun rose =
    let qs = c.args.group in
    let code = c.args.code.now in
    let before = c.args.evaluations.now in
    let after' = c.run.new.evaluations in
    let new = c.run.new.self in
    let f = c.in-Err-Fault.fault in
    let runs = subst (λ e. Runs before after' qs code c.args.run (Err e) new) c.in-Err-Fault.field-0-is c.in-Err-Fault.ensures.runs in
    subst (λ e. RoseBy begun after' (λ k. AllEnd program qs told k e)) (sym c.at_fault-ended.ensures)
    (fault_ends program qs code told c.args.run new begun before after' rose f runs)

pub returns-in-Err-Differ : goal.returns-in-Err-Differ
returns-in-Err-Differ g c program told begun rose =
    let qs = c.args.group in
    let code = c.args.code.now in
    let runs = subst (λ e. Runs c.args.evaluations.now c.run.new.evaluations qs code c.args.run (Err e) c.run.new.self) c.in-Err-Differ.field-0-is c.in-Err-Differ.ensures.runs in
    run_parts program qs code told c.args.run rose.0 rose.2 runs
