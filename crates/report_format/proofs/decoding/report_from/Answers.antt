use Rattle.std.proofs.Common.{◌≡◌, List, ◌∷◌, [], length, arith, refl, sym, subst, ◌∙◌}
use Rattle.std.specs.Vec.Iter.{into_iter_items}
use Rattle.report_format.specs.declared.format.ReportRecord.{ReportRecord}
use Rattle.report_format.proofs.RecordOrder.{IsHalf, all_kinds}
use Rattle.report_format.proofs.decoding.report_from.Goals as goal

no_items : (rs : List ReportRecord) → length rs ≡ 0 → rs ≡ []
no_items [] e = refl
no_items (r ∷ rs) e = absurd (omega (arith, e))

pub returns : goal.returns
returns c =
    let none : into_iter_items c.loop-read.left ≡ [] = no_items (into_iter_items c.loop-read.left) (sym c.loop-read.left.rest.ok.0 ∙ c.in_default.ensures.cases.0) in
    let Half : List ReportRecord → Type 0 = λ xs. IsHalf c.loop-read.report xs c.args.records in
    all_kinds c.loop-read.report c.args.records (subst Half none c.loop-read.invariant) c.requires
