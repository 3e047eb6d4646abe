use Rattle.shared_desk.proofs.Told.{no_slot_left, no_ticket_left}
use Rattle.shared_desk.proofs.shared.Desk.call.Goals as goal

pub call_as-requires-clause-rests : goal.call_as-requires-clause-rests
call_as-requires-clause-rests g c =
    let seat = c.args.seat.now in record {
      no_slot = no_slot_left seat.seat.me.1 seat.no_slot;
      no_ticket = no_ticket_left seat.seat.me.0.ticket seat.no_ticket;
      no_turn = seat.no_turn;
      live = seat.live;
    }
