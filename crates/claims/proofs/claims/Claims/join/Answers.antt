use Rattle.std.proofs.Common.{rules}
use Rattle.claims.proofs.Keeps.{joins}
use Rattle.claims.proofs.claims.Claims.join.Goals as goal

pub join_seat-requires : goal.join_seat-requires
join_seat-requires c = (
  search rules,
  search rules,
  search rules,
  search rules,
  joins c.self.inside.table.shared.key 0 c.seat.inside.seat.id c.seat.inside.seat.me _ _ c.seat.invariant.part c.other.invariant.part,
)
