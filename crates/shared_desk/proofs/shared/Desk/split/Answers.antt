use Rattle.std.proofs.Common.{rules}
use Rattle.shared_desk.proofs.Seating.{splits_on}
use Rattle.shared_desk.proofs.shared.Desk.split.Goals as goal

pub split_seat-requires : goal.split_seat-requires
split_seat-requires g c =
    let seat = c.args.seat.now in
    let steps = g.B.Bench.steps in
    let keeps = g.J.CallJournal.keeps in
    let start = c.args.self.now.table.shared.key.value in
    (search rules, search rules, splits_on steps start keeps seat.seat.id seat.seat.me.0 c.requires.first seat.live seat.no_turn c.requires.room)
