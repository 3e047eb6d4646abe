use Rattle.std.proofs.Common.{rules}
use Rattle.claims.proofs.Keeps.{looks}
use Rattle.claims.proofs.claims.Claims.least.Goals as goal

pub load-requires : goal.load-requires
load-requires c = (search rules, search rules, looks c.self.inside.table.shared.key _ _ _ c.seat.invariant.part)
