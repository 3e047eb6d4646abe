use Rattle.std.proofs.Common.{rules, ap, ◌∙◌, []}
use Rattle.std.specs.Prelude.{None}
use Rattle.shared_desk.specs.Steps.{with_ticket}
use Rattle.shared_desk.proofs.Told.{slot_rest, put_full}
use Rattle.shared_desk.proofs.shared.Desk.put_back.Goals as goal

pub exchange-requires : goal.exchange-requires
exchange-requires g c = (search rules, (None, slot_rest c.args.seat.now.me None c.requires.slot.slot))

pub end_turn-requires-clause-slot : goal.end_turn-requires-clause-slot
end_turn-requires-clause-slot g c =
    let steps = g.B.Bench.steps in
    let keeps = g.J.CallJournal.keeps in
    let start = c.args.self.now.table.shared.key.value in
    put_full steps start keeps c.args.seat.now.me c.exchange.new.seat.me c.args.held c.requires.slot c.exchange.ensures.3 c.requires.kept

pub returns-clause-end : goal.returns-clause-end
returns-clause-end g c = c.end_turn.ensures.end ∙ ap (λ m. (with_ticket m.0 None, [])) c.exchange.ensures.3
