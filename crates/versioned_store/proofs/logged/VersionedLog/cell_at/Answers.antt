use Rattle.std.proofs.Common.{⊎_elim, None, subst}
use Rattle.script_tree.specs.Objects.{rows, reading, none}
use Rattle.versioned_store.specs.Logged.{Logged}
use Rattle.versioned_store.specs.Tellings.{Tells}
use Rattle.versioned_store.proofs.Telling.{cell_clock, cell_dice, cell_tables, named_rows, named_reading, named_none}
use Rattle.versioned_store.proofs.Told.{cell_by}
use Rattle.versioned_store.proofs.logged.VersionedLog.cell_at.Goals as goal

pub returns-in-Tables : goal.returns-in-Tables
returns-in-Tables c =
    let o = c.args.self.now in
    let told = subst (λ (o : Logged). Tells o c.self.inside.versions) c.self.view_is c.self.invariant.tells in
    let p = c.args.position in
    let x = c.entry-entry.result.now in
    let at = c.entry-entry.ensures in
    let v = c.self.inside.versions in
    ⊎_elim (λ t. let r = cell_tables o p v t.0 t.1 told in cell_by o p x (rows r.0) None at r.1 (named_rows x.act r.0))
    (⊎_elim (λ clock. let r = cell_clock o p v clock told in cell_by o p x (reading r.0) None at r.1 (named_reading x.act r.0))
    (λ dice. cell_by o p x none None at (cell_dice o p v dice told) (named_none x.act))) c.in-Tables.is
