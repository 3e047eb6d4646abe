use Rattle.std.proofs.Common.{rules, sym, subst, ◌<◌}
use Rattle.claims.specs.Seats.{Seat}
use Rattle.claims.proofs.Keeps.{splits}
use Rattle.claims.proofs.claims.Claims.split.Goals as goal

pub split_seat-requires : goal.split_seat-requires
split_seat-requires c =
    let room = subst (λ (s : Seat). 1 < s.view.parts) (sym c.seat.view_is) c.requires.room in
    (search rules, search rules, splits c.self.inside.table.shared.key 0 c.seat.inside.seat.id c.seat.inside.seat.me room)
