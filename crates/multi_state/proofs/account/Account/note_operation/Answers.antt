use Rattle.std.proofs.Common.{refl}
use Rattle.multi_state.proofs.Marks.{one_issued}
use Rattle.multi_state.proofs.account.Account.note_operation.Goals as goal

pub returns-clause-notes : goal.returns-clause-notes
returns-clause-notes c cs i u op = rw (c.in_ok-push.ensures.items, one_issued c.args.self.now.trail.items u.ops op) refl
