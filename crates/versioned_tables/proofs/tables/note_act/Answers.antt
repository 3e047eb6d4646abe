use Rattle.std.proofs.Common.{◌≡◌, ◌∙◌, true, sym, ap, subst}
use Rattle.versioned_tables.specs.OverTime.{AdvancesBy}
use Rattle.versioned_tables.specs.Reads.{only_read}
use Rattle.versioned_tables.proofs.Reading.{stands_still}
use Rattle.versioned_tables.proofs.tables.note_act.Goals as goal

pub returns-then-only_read-clause-advances : goal.returns-then-only_read-clause-advances
returns-then-only_read-clause-advances c =
    let ss = c.in-Transact.statements in
    let reads : only_read ss ≡ true = ap only_read (sym c.as_slice.ensures) ∙ sym c.if-only_read.ensures in
    subst (λ a. AdvancesBy c.args.widths.now c.args.position a c.args.tables.now.items c.args.tables.now.items) (sym c.in-Transact.is)
    (stands_still c.args.widths.now c.args.position ss c.args.tables.now.items reads c.requires.from)
