use Rattle.std.proofs.Common.{◌∙◌, ap, sym}
use Rattle.state_file.specs.Stored.{is_row_of}
use Rattle.state_file.proofs.Rows.{row_fits}
use Rattle.state_file.proofs.stored.put_row.Goals as goal

pub insert_row-requires : goal.insert_row-requires
insert_row-requires c =
    let width = c.args.width in (
      width,
      c.requires.there,
      row_fits width c.args.row
          (ap (is_row_of width) (sym c.as_slice.ensures) ∙ sym c.is_row_of.ensures
          ∙ c.if-not-is_row_of.false) c.requires.within,
    )
