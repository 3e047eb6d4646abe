use Rattle.std.proofs.Common.{◌≡◌, ◌<◌, ℕ, false}
use Rattle.basis.specs.Lists.{nth}
use Rattle.audit_meaning.specs.Members.{is_bad}
use Rattle.group_runner.specs.Marks.{marks_in}
use Rattle.group_runner.proofs.mark.first_bad.Given as goal

abbrev pub invariant-loop-place : goal.invariant-loop-place
invariant-loop-place l = (i : ℕ) → i < l.place → is_bad (nth (marks_in l.marks) i) ≡ false
