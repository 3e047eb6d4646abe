use Rattle.std.proofs.Common.{◌∙◌, false, arith}
use Rattle.basis.specs.Lists.{nth}
use Rattle.audit_meaning.specs.Members.{is_bad}
use Rattle.group_runner.specs.Marks.{marks_in}
use Rattle.group_runner.proofs.Places.{bad_read, bad_nowhere, next_place}
use Rattle.group_runner.proofs.mark.first_bad.Goals as goal

pub loop-place-preserved : goal.loop-place-preserved
loop-place-preserved c =
    next_place (λ i. is_bad (nth (marks_in c.args.marks.now) i)) false c.loop-place.place c.loop-place.invariant
    (bad_read c.args.marks.now c.loop-place.place _ c.is_bad.result c.loop-place-test.true c.is_bad.ensures ∙ c.if-is_bad.false)

pub returns : goal.returns
returns c = bad_nowhere c.args.marks.now c.loop-place.place (omega (arith, c.loop-place-test.false)) c.loop-place.invariant
