use Rattle.std.proofs.Common.{rules, ap, ◌∙◌, arith, length-append}
use Rattle.shared_desk.specs.Views.{seats}
use Rattle.shared_desk.proofs.Seating.{joins_on}
use Rattle.shared_desk.proofs.Told.{front_at, no_slot_left, no_ticket_left}
use Rattle.shared_desk.proofs.shared.Desk.join.Goals as goal

pub join_seat-requires : goal.join_seat-requires
join_seat-requires g c =
    let seat = c.args.seat.now in
    let other = c.args.other in
    let no_ticket = no_ticket_left other.seat.me.0.ticket other.no_ticket in (
      search rules,
      search rules,
      no_slot_left other.seat.me.1 other.no_slot,
      search rules,
      joins_on g.B.Bench.steps c.args.self.now.table.shared.key.value g.J.CallJournal.keeps seat.seat.id seat.seat.me.0 other.seat.id other.seat.me.0
          seat.live other.live seat.no_turn other.no_turn no_ticket,
    )

pub load-requires : goal.load-requires
load-requires g c =
    let v = c.args.seat.now.seat.me.0 in
    let w = c.args.other.seat.me.0 in
    let is = c.join_seat.ensures.2 in
    let live = c.args.seat.now.live in (
      search rules,
      search rules,
      front_at g.B.Bench.steps c.args.self.now.table.shared.key.value g.J.CallJournal.keeps _ _ c.join_seat.new.seat.me
          (ap (λ m. m.1) is ∙ no_slot_left c.args.seat.now.seat.me.1 c.args.seat.now.no_slot)
          (omega (arith, ap (λ m. seats m.0) is, length-append v.numbers w.numbers, live)),
    )
