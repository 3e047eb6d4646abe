use Rattle.std.proofs.Common.{refl}
use Rattle.machine.proofs.Trails.{one_decided}
use Rattle.machine.proofs.account.Account.note.Goals as goal

pub returns-clause-gives : goal.returns-clause-gives
returns-clause-gives c ops more = rw (c.in_ok-push.ensures.items, one_decided c.args.self.now.trail.items ops c.args.holds) refl
