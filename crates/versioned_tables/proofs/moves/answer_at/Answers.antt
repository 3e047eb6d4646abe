use Rattle.std.proofs.Common.{◌∙◌, length, refl, sym, ap}
use Rattle.script_tree.specs.Datum.{Datum}
use Rattle.versioned_tables.proofs.Moving.{runs, reached, answers, part_is, is_of_part}
use Rattle.versioned_tables.proofs.moves.answer_at.Goals as goal

pub keys_of-requires : goal.keys_of-requires
keys_of-requires c = runs c.args.widths.now (length c.args.tables.now) c.args.statements.now c.as_slice.result.now c.requires.fits c.requires.count c.as_slice.ensures

pub returns : goal.returns
returns c =
    let hs = c.args.tables.now in
    let keys = c.in_ok-keys.keys.items in
    let r = reached hs hs keys c.args.statements.now c.as_slice.result.now refl c.as_slice.ensures c.in_ok-keys.ensures in
    let part = part_is c.args.position hs hs keys c.as_slice-2.result.now c.args.widths.now c.in_ok-part.part refl c.as_slice-2.ensures.value c.in_ok-part.ensures in
    answers c.args.position hs keys c.args.widths.now c.args.statements.now c.in_ok-part.part c.transact.new.self.tables c.into_answer.result c.requires.fits r part
    (c.in_ok-outcome.ensures.answer ∙ ap (λ (d : Datum). (c.transact.new.self.tables, d)) (sym c.into_answer.ensures))

pub transact-requires : goal.transact-requires
transact-requires c = is_of_part c.args.widths.now c.in_ok-part.part.widths c.args.statements.now c.requires.fits c.in_ok-part.ensures.same
