use Rattle.std.proofs.Common.{◌≡◌, ◌∙◌, ap, sym, subst}
use Rattle.script_fit.specs.FitsOperation.{FitsTables}
use Rattle.versioned_tables.specs.OverTime.{OverTime, over_time, IsAnswerThen}
use Rattle.versioned_tables.specs.Standing.{Stands, IsAnswerAt}
use Rattle.versioned_tables.proofs.Building.{answers_then, IfOk-map}
use Rattle.versioned_tables.proofs.Finding.{found_here}
use Rattle.versioned_tables.proofs.tables.VersionedTables.answer_at.Goals as goal

pub answer_at-requires-clause-fits : goal.answer_at-requires-clause-fits
answer_at-requires-clause-fits c =
    let widths : c.as_slice.result.now ≡ c.args.self.now.widths = c.as_slice.ensures.value ∙ ap (λ (v : OverTime). v.widths) c.self.view_is in
    rw widths (subst (FitsTables c.args.self.now.widths) c.in-Transact.is c.requires.fits)

pub answer_at-requires-clause-stands : goal.answer_at-requires-clause-stands
answer_at-requires-clause-stands c =
    rw (c.as_slice.ensures.value, c.as_slice-in-Transact.ensures.value)
    (subst (λ (v : OverTime). Stands v.widths c.args.position v.rows) (sym c.self.view_is) c.requires.stands)

pub returns : goal.returns
returns c =
    IfOk-map c.answer_at.result
    (λ d is. subst (λ v. IsAnswerThen c.args.act.now c.args.position v d) c.self.view_is
    (answers_then c.args.act.now c.in-Transact.statements c.args.position (over_time c.self.inside.widths.items c.self.inside.tables.items) d c.in-Transact.is
    (subst (λ hs. IsAnswerAt c.self.inside.widths.items c.args.position hs c.in-Transact.statements d) c.as_slice-in-Transact.ensures.value
    (subst (λ ws. IsAnswerAt ws c.args.position c.as_slice-in-Transact.result.now c.in-Transact.statements d) c.as_slice.ensures.value is))))
    c.answer_at.ensures

pub answer_at-requires-clause-found : goal.answer_at-requires-clause-found
answer_at-requires-clause-found c =
    found_here c.args.position c.self.inside.tables.items c.as_slice-in-Transact.result.now c.self.inside.found.items c.as_slice-in-Transact-2.result.now c.found_at.result c.as_slice-in-Transact.ensures.value
    c.as_slice-in-Transact-2.ensures.value c.self.invariant.found c.found_at.ensures
