use Rattle.group_runner.proofs.Found.{bad_said, none_bad, one_bad}
use Rattle.group_runner.proofs.member.Member.bad.Goals as goal

pub returns-in_default : goal.returns-in_default
returns-in_default c = λ program told group is.
    none_bad program told group c.args.rid c.args.self.now is (bad_said c.deref.result.now c.args.self.now.marks.items c.first_bad.result _ c.deref.ensures.value c.in_default.is c.first_bad.ensures)

pub returns : goal.returns
returns c = λ program told group is.
    one_bad program told group c.args.rid c.args.self.now is c.in-Some.place c.in_ok-operation.operation c.in_ok-operation.ensures
    (bad_said c.deref.result.now c.args.self.now.marks.items c.first_bad.result _ c.deref.ensures.value c.in-Some.is c.first_bad.ensures)
