use Rattle.group_runner.proofs.Found.{difference_said, none_differs, one_differs}
use Rattle.group_runner.proofs.member.Member.difference.Goals as goal

pub returns-in-Some : goal.returns-in-Some
returns-in-Some c = λ program told group first rid h k.
    one_differs program told group first rid c.args.first.now c.args.self.now h k c.in-Some.place
    (difference_said c.deref.result.now c.args.first.now.marks.items c.deref-2.result.now c.args.self.now.marks.items c.first_difference.result _ c.deref.ensures.value c.deref-2.ensures.value c.in-Some.is
    c.first_difference.ensures)

pub returns-in-None : goal.returns-in-None
returns-in-None c = λ program told group first rid h k.
    none_differs program told group first rid c.args.first.now c.args.self.now h k
    (difference_said c.deref.result.now c.args.first.now.marks.items c.deref-2.result.now c.args.self.now.marks.items c.first_difference.result _ c.deref.ensures.value c.deref-2.ensures.value c.in-None.is
    c.first_difference.ensures)
