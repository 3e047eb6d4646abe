use Rattle.std.proofs.Common.{sym, subst}
use Rattle.object_tables.specs.TableSets.{TableSet}
use Rattle.versioned_tables.specs.OverTime.{FitEntries}
use Rattle.versioned_store.proofs.Telling.{fit_entries}
use Rattle.versioned_store.proofs.versions.versions_of.Goals as goal

pub build-requires : goal.build-requires
build-requires c =
    subst (λ (t : TableSet). FitEntries t.widths c.as_slice-entries.result.now) (sym c.tables.ensures)
    (subst (FitEntries c.args.start.now.tables.widths) (sym c.as_slice-entries.ensures)
    (fit_entries c.args.start.now c.args.log.now.object c.args.log.now.entries c.in-Tables.is c.requires))
