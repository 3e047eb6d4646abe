use Rattle.std.proofs.Common.{◌≡◌, subst, refl}
use Rattle.object_tables.specs.TransactionEnds.{IsTransactionEnd}
use Rattle.versioned_tables.specs.Standing.{NotesRows}
use Rattle.versioned_tables.proofs.Moving.{committed, aborted, part_is, is_of_part}
use Rattle.versioned_cells.proofs.HistoryFacts.{OnOk-map}
use Rattle.versioned_tables.proofs.moves.advance_on.Goals as goal

pub returns-in-Committed : goal.returns-in-Committed
returns-in-Committed c =
    let hs = c.args.tables.now.items in
    let keys = c.args.keys.now in
    let left = c.transact.new.self.tables in
    let r = c.requires.reached in
    let part = part_is c.args.position hs c.as_slice.result.now keys keys c.args.widths.now c.in_ok-part.part c.as_slice.ensures.value refl c.in_ok-part.ensures in
    OnOk-map c.note_rows.result (λ noted. let notes = subst (λ n. NotesRows n keys left hs c.note_rows.new.tables.items) c.in_ok-since.ensures noted in
    committed c.args.widths.now c.args.position c.args.statements.now keys c.in_ok-part.part left _ hs
    c.note_rows.new.tables.items c.requires.count c.requires.fits c.requires.from r part
    c.in_ok-transact.ensures.answer notes) c.note_rows.ensures

pub returns : goal.returns
returns c =
    let hs = c.args.tables.now.items in
    let keys = c.args.keys.now in
    let left = c.transact.new.self.tables in
    let r = c.requires.reached in
    let part = part_is c.args.position hs c.as_slice.result.now keys keys c.args.widths.now c.in_ok-part.part c.as_slice.ensures.value refl c.in_ok-part.ensures in
    let same : left ≡ c.in_ok-part.part.tables = (subst (IsTransactionEnd c.args.statements.now c.in_ok-part.part.tables left) c.in-Aborted.is c.in_ok-transact.ensures.done).1 in
    aborted c.args.widths.now c.args.position c.args.statements.now keys c.in_ok-part.part left _ hs c.requires.fits c.requires.from r part c.in_ok-transact.ensures.answer same

pub transact-requires : goal.transact-requires
transact-requires c = is_of_part c.args.widths.now c.in_ok-part.part.widths c.args.statements.now c.requires.fits c.in_ok-part.ensures.same
