use Rattle.std.proofs.Common.{ℕ, ◌∙◌, length, ap, sym, arith}
use Rattle.basis.proofs.Options.{some_is}
use Rattle.basis.proofs.Places.{nth_within}
use Rattle.basis.specs.Lists.{nth}
use Rattle.log_checker.proofs.Firsts.{some_at}
use Rattle.audit_meaning.specs.Nodes.{choice_at}
use Rattle.audit_order.proofs.Links.{pointed, unpointed, same_log}
use Rattle.audit_order.proofs.scheduling.choice_of.Goals as goal

pub bounds-logs-log : goal.bounds-logs-log
bounds-logs-log c =
    let report = c.args.report.now in
    let p = pointed report c.args.map.now c.args.rid c.args.number (c.in-Some.log, c.in-Some.position) c.requires (sym c.find.ensures ∙ c.in-Some.is) in
    let lt = nth_within report.logs c.in-Some.log p.log p.logged in
    omega (arith, lt, ap length c.as_slice-logs.ensures)

pub bounds-as_slice-position-in-Some : goal.bounds-as_slice-position-in-Some
bounds-as_slice-position-in-Some c =
    let place : ℕ × ℕ = (c.in-Some.log, c.in-Some.position) in
    let report = c.args.report.now in
    let p = pointed report c.args.map.now c.args.rid c.args.number place c.requires (sym c.find.ensures ∙ c.in-Some.is) in
    let l = same_log report c.args.rid c.args.number place p c.as_slice-logs.result.now c.index-logs-log.result c.as_slice-logs.ensures c.index-logs-log.is in
    let same = c.as_slice.ensures ∙ ap (λ (x : _). x.entries) (sym c.index-logs-log.is ∙ l) in
    let lt = nth_within p.log.entries c.in-Some.position p.entry p.holds in
    omega (arith, lt, ap length same)

pub returns-in-Some : goal.returns-in-Some
returns-in-Some c =
    let place : ℕ × ℕ = (c.in-Some.log, c.in-Some.position) in
    let report = c.args.report.now in
    let p = pointed report c.args.map.now c.args.rid c.args.number place c.requires (sym c.find.ensures ∙ c.in-Some.is) in
    let l = same_log report c.args.rid c.args.number place p c.as_slice-logs.result.now c.index-logs-log.result c.as_slice-logs.ensures c.index-logs-log.is in
    let same = c.as_slice.ensures ∙ ap (λ (x : _). x.entries) (sym c.index-logs-log.is ∙ l) in
    let lt = nth_within p.log.entries c.in-Some.position p.entry p.holds in
    let entry = c.index-as_slice-position.result in
    let here = some_at c.as_slice.result.now c.in-Some.position entry (omega (arith, lt, ap length same)) c.index-as_slice-position.is in
    let read = some_is (sym here ∙ ap (λ xs. nth xs c.in-Some.position) same ∙ p.holds) in
    ap (λ (x : _). x.choice) (sym c.index-as_slice-position.is ∙ read) ∙ ap choice_at (sym p.found)

pub returns-in-None : goal.returns-in-None
returns-in-None c =
    ap choice_at (sym (unpointed c.args.report.now c.args.map.now c.args.rid c.args.number c.requires (sym c.find.ensures ∙ c.in-None.is)))
