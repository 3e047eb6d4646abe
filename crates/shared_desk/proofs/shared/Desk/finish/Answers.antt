use Rattle.std.proofs.Common.{ap, ◌∙◌, []}
use Rattle.std.specs.Prelude.{None}
use Rattle.shared_desk.specs.Steps.{with_ticket}
use Rattle.shared_desk.proofs.Told.{counted_full}
use Rattle.shared_desk.proofs.shared.Desk.finish.Goals as goal

pub end_turn-requires-clause-slot : goal.end_turn-requires-clause-slot
end_turn-requires-clause-slot g c =
    let steps = g.B.Bench.steps in
    let keeps = g.J.CallJournal.keeps in
    let start = c.args.self.now.table.shared.key.value in
    counted_full steps start keeps c.args.seat.now.me.0 c.args.held c.count.new.seat.me c.requires.slot.turn c.requires.call c.count.ensures.call

pub returns-clause-end : goal.returns-clause-end
returns-clause-end g c = record { left = λ d grown. c.end_turn.ensures.end ∙ ap (λ m. (with_ticket m.0 None, [])) (c.count.ensures.call.left d grown) }
