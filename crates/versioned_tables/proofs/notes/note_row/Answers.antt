use Rattle.std.proofs.Common.{◌∙◌}
use Rattle.versioned_cells.proofs.HistoryFacts.{OnOk-map}
use Rattle.versioned_tables.proofs.Noting.{noted_one}
use Rattle.versioned_tables.proofs.notes.note_row.Goals as goal

pub returns : goal.returns
returns c =
    OnOk-map c.change_in.result
    (noted_one c.args.since c.args.key.now c.in_ok-row.row c.args.part.now.tables c.args.tables.now.items c.change_in.new.tables.items c.requires.from (c.in_ok-row.ensures ∙ c.row.ensures))
    c.change_in.ensures
