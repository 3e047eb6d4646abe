use Rattle.std.proofs.Common.{◌∙◌, List, ℕ, length, sym, subst, ap}
use Rattle.script_fit.specs.FitsOperation.{FitsTables}
use Rattle.versioned_store.specs.Tables.{AreKept}
use Rattle.versioned_store.proofs.Kept.{stands_then}
use Rattle.versioned_store.proofs.selects.SelectedTables.build.Goals as goal

pub kept_answers-requires-clause-fits : goal.kept_answers-requires-clause-fits
kept_answers-requires-clause-fits c = λ p e at. subst (λ ws. FitsTables ws e.act) (sym c.in_ok-tables.ensures.widths) (c.requires p e at)

pub kept_answers-requires-clause-stands : goal.kept_answers-requires-clause-stands
kept_answers-requires-clause-stands c = λ p. stands_then c.args.entries.now c.args.start.now c.in_ok-tables.tables p c.in_ok-tables.ensures

pub kept_answers-requires-clause-count : goal.kept_answers-requires-clause-count
kept_answers-requires-clause-count c = ap (λ (xs : List ℕ). length xs) c.as_slice.ensures.value ∙ c.in_ok-sources.ensures.count

pub returns : goal.returns
returns c = record {
  tables = c.in_ok-tables.ensures;
  sources = c.in_ok-sources.ensures;
  kept = subst (λ ss. AreKept c.args.entries.now c.in_ok-tables.tables ss c.in_ok-kept.kept.items) c.as_slice.ensures.value c.in_ok-kept.ensures;
}
