use Rattle.std.proofs.Common.{◌∙◌, true, arith}
use Rattle.basis.specs.Lists.{nth}
use Rattle.audit_meaning.specs.Members.{same_mark}
use Rattle.group_runner.specs.Marks.{marks_in}
use Rattle.group_runner.proofs.Places.{same_read, same_everywhere, next_place}
use Rattle.group_runner.proofs.mark.first_difference.Goals as goal

pub loop-place-preserved : goal.loop-place-preserved
loop-place-preserved c =
    let xs = c.args.left.now in
    let ys = c.args.right.now in
    next_place (λ i. same_mark (nth (marks_in xs) i) (nth (marks_in ys) i)) true c.loop-place.place c.loop-place.invariant
    (same_read xs ys c.loop-place.place c.is_same.result _ _ c.is_same.ensures c.mark_at.ensures c.mark_at-in-loop-place.ensures ∙ c.if-not-is_same.false)

pub returns : goal.returns
returns c =
    same_everywhere c.args.left.now c.args.right.now c.loop-place.place
    (omega (arith, c.loop-place-test.false, c.max-place-end.ensures))
    (omega (arith, c.loop-place-test.false, c.max-place-end.ensures))
    c.loop-place.invariant
