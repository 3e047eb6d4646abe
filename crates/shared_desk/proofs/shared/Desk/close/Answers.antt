use Rattle.std.proofs.Common.{arith}
use Rattle.std.proofs.lemmas.Grind.{common_steps}
use Rattle.shared_desk.proofs.Seating.{IsClosed, closes}
use Rattle.shared_desk.proofs.Told.{closed_some, closed_none}
use Rattle.shared_desk.proofs.shared.Desk.close.Given as given
use Rattle.shared_desk.proofs.shared.Desk.close.Goals as goal

pub take-slot-requires : goal.take-slot-requires
take-slot-requires g c = grind (arith, common_steps)

pub free-requires : goal.free-requires
free-requires g c = grind (arith, common_steps)

closed : (g : given.Over) (c : goal.In-Some g) → IsClosed g.B.Bench.steps c.args.self.table.shared.key.value g.J.CallJournal.keeps c.args.seat.seat.me.0 c.in-Some.held
closed g c =
    let seat = c.args.seat in
    let steps = g.B.Bench.steps in
    let keeps = g.J.CallJournal.keeps in
    let start = c.args.self.table.shared.key.value in
    let final = c.close_with-closed.ensures.values.2 in
    let all = closes steps start keeps seat.seat.id seat.seat.me.0 _ _ c.requires.first seat.live seat.no_turn c.requires.all final in
    closed_some steps start keeps seat.seat.me.0 _ c.take-slot.result c.in-Some.held all c.take-slot.ensures.value c.in-Some.is

pub unreachable-requires : goal.unreachable-requires
unreachable-requires g c =
    let seat = c.args.seat in
    let steps = g.B.Bench.steps in
    let keeps = g.J.CallJournal.keeps in
    let start = c.args.self.table.shared.key.value in
    let final = c.close_with-closed.ensures.values.2 in
    let all = closes steps start keeps seat.seat.id seat.seat.me.0 _ _ c.requires.first seat.live seat.no_turn c.requires.all final in
    closed_none steps start keeps seat.seat.me.0 _ c.take-slot.result all c.take-slot.ensures.value c.in_default.is

pub returns-clause-runs : goal.returns-clause-runs
returns-clause-runs g c = (closed g c).runs

pub returns-clause-calls : goal.returns-clause-calls
returns-clause-calls g c = (closed g c).calls

pub returns-clause-seen : goal.returns-clause-seen
returns-clause-seen g c = (closed g c).seen

pub returns-clause-keeps : goal.returns-clause-keeps
returns-clause-keeps g c = (closed g c).journal
