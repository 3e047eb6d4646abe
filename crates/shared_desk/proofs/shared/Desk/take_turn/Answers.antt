use Rattle.std.proofs.Common.{rules, ◌∙◌}
use mathlib.Core.Option.{none}
use Rattle.atomic_table.specs.Table.{step}
use Rattle.shared_desk.proofs.Told.{draws_at, looks_at, turn_told}
use Rattle.shared_desk.proofs.shared.Desk.take_turn.Goals as goal

pub fetch_add-ticket-requires : goal.fetch_add-ticket-requires
fetch_add-ticket-requires g c =
    let steps = g.B.Bench.steps in
    let keeps = g.J.CallJournal.keeps in
    let start = c.args.self.now.table.shared.key.value in
    (search rules, search rules, draws_at steps start keeps _ _ c.args.seat.now.me c.requires.rests)

pub load-served-requires : goal.load-served-requires
load-served-requires g c =
    let steps = g.B.Bench.steps in
    let keeps = g.J.CallJournal.keeps in
    let start = c.args.self.now.table.shared.key.value in
    let seat = c.args.seat.now in
    (search rules, search rules, looks_at steps start keeps _ _ c.loop.seat.me seat.me.0 c.loop.invariant.0 c.loop.invariant.1 c.requires.rests.live)

pub returns-then-served-ticket-clause-turn : goal.returns-then-served-ticket-clause-turn
returns-then-served-ticket-clause-turn g c =
    let steps = g.B.Bench.steps in
    let keeps = g.J.CallJournal.keeps in
    let start = c.args.self.now.table.shared.key.value in
    let taken = step c.args.self.now.table.shared.table_id.slots 1 0 0 none in
    turn_told steps start keeps c.args.seat.now.me.0 taken c.loop.seat.me _ c.load-served.result
    c.loop.invariant.0 c.loop.invariant.1 c.requires.own.start (c.if-served-ticket.true ∙ c.loop.invariant.2) c.load-served.ensures.2
