use Rattle.group_runner.proofs.Found.{is_unlike, not_unlike}
use Rattle.group_runner.proofs.member.Member.unlike.Goals as goal

pub returns-then-self : goal.returns-then-self
returns-then-self c = λ program told is. not_unlike program told c.args.rid c.args.self.now is c.if-self.true

pub returns-else-self : goal.returns-else-self
returns-else-self c = λ program told is. is_unlike program told c.args.rid c.args.self.now is c.if-self.false
