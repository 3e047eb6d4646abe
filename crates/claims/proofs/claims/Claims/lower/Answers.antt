use Rattle.std.proofs.Common.{rules}
use Rattle.claims.proofs.Keeps.{lowers}
use Rattle.claims.proofs.claims.Claims.lower.Goals as goal

pub fetch_min-requires : goal.fetch_min-requires
fetch_min-requires c = (search rules, search rules, lowers c.self.inside.table.shared.key _ _ _ c.args.number c.seat.invariant.part)
