use Rattle.std.proofs.lemmas.Grind.{common_steps}
use Rattle.std.proofs.Common.{arith, ◌≡◌, ◌∙◌}
use Rattle.versioned_tables.proofs.PartRows.{part_begins, part_more, standing_fits_in}
use Rattle.versioned_tables.proofs.part.part_at.Goals as goal

pub loop-key-init : goal.loop-key-init
loop-key-init c =
    let same : c.in_ok-part.part.widths ≡ c.args.widths.now = c.in_ok-part.ensures.widths ∙ c.in_ok-from_slice.ensures.items in
    part_begins c.args.position c.args.tables.now c.args.widths.now c.in_ok-part.part same c.in_ok-part.ensures.rows

pub add_row-requires-clause-fits : goal.add_row-requires-clause-fits
add_row-requires-clause-fits c = λ row e.
    standing_fits_in c.args.widths.now c.loop-key.part.widths c.args.position c.args.tables.now c.key-item.result.0 c.key-item.result.1 row c.loop-key.invariant.same c.requires.stands e

pub loop-key-preserved : goal.loop-key-preserved
loop-key-preserved c =
    part_more c.args.position c.args.tables.now c.args.keys.now c.loop-key.key-index c.key-item.result c.args.widths.now c.loop-key.part c.add_row.new.part c.loop-key-test.true c.key-item.is c.loop-key.invariant
    c.in_ok-add_row.ensures.added c.in_ok-add_row.ensures.widths

pub returns : goal.returns
returns c = grind (arith, common_steps)
