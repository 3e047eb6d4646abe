use Rattle.std.proofs.Common.{ap}
use Rattle.std.specs.Prelude.{Some}
use Rattle.shared_desk.proofs.Told.{slot_rest, took_none, took_told}
use Rattle.shared_desk.proofs.shared.Desk.take.Goals as goal

pub exchange-requires : goal.exchange-requires
exchange-requires g c =
    let t = c.take_turn.ensures.turn in
    (c.take_turn.ensures.own.table, (Some t.held, slot_rest c.take_turn.new.seat.me (Some t.held) (ap (λ m. m.1) t.left)))

pub unreachable-requires : goal.unreachable-requires
unreachable-requires g c =
    let steps = g.B.Bench.steps in
    let keeps = g.J.CallJournal.keeps in
    let start = c.args.self.now.table.shared.key.value in
    took_none steps start keeps c.args.seat.now.me.0 c.take_turn.new.seat.me c.exchange.result c.take_turn.ensures.turn c.exchange.ensures.2 c.in_default.is

pub returns-clause-taken : goal.returns-clause-taken
returns-clause-taken g c =
    let steps = g.B.Bench.steps in
    let keeps = g.J.CallJournal.keeps in
    let start = c.args.self.now.table.shared.key.value in
    took_told steps start keeps c.args.seat.now.me.0 c.take_turn.new.seat.me c.exchange.new.seat.me c.exchange.result c.in-Some.held
    c.take_turn.ensures.turn c.exchange.ensures.2 c.exchange.ensures.3 c.in-Some.is
