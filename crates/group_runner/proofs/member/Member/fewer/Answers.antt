use Rattle.std.proofs.Common.{◌+◌, lt-ltb, le-ltb, arith}
use Rattle.group_runner.proofs.Found.{is_fewer, not_fewer}
use Rattle.group_runner.proofs.member.Member.fewer.Goals as goal

pub returns-then-self-count : goal.returns-then-self-count
returns-then-self-count c = λ program told is counted.
    is_fewer program told c.args.rid c.args.self.now is c.args.count (c.args.self.now.done + 1) counted
    (lt-ltb c.args.self.now.done c.args.count c.if-self-count.true) (omega arith)

pub returns-else-self-count : goal.returns-else-self-count
returns-else-self-count c = λ program told is counted.
    not_fewer program told c.args.rid c.args.self.now is c.args.count counted (le-ltb c.args.self.now.done c.args.count (omega (arith, c.if-self-count.false)))
