use Rattle.std.proofs.lemmas.Grind.{common_steps}
use Rattle.std.proofs.Common.{arith, ◌∙◌, length, ap}
use Rattle.versioned_tables.specs.Standing.{RowsOverTime}
use Rattle.versioned_tables.proofs.Moving.{runs}
use Rattle.versioned_tables.proofs.moves.advance.Goals as goal

pub keys_of-requires : goal.keys_of-requires
keys_of-requires c = runs c.args.widths.now
    (length c.as_slice.result.now) c.args.statements.now c.as_slice-2.result.now c.requires.fits
    (ap (λ (hs : RowsOverTime). length hs) c.as_slice.ensures.value ∙ c.requires.count) c.as_slice-2.ensures

pub advance_on-requires-clause-found : goal.advance_on-requires-clause-found
advance_on-requires-clause-found c = grind (arith, common_steps)

pub advance_on-requires-clause-reached : goal.advance_on-requires-clause-reached
advance_on-requires-clause-reached c = grind (arith, common_steps)

pub returns-clause-found : goal.returns-clause-found
returns-clause-found c = grind (arith, common_steps)
