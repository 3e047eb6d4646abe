use Rattle.std.proofs.Common.{◌≡◌, ◌<◌, ℕ, true}
use Rattle.basis.specs.Lists.{nth}
use Rattle.audit_meaning.specs.Members.{same_mark}
use Rattle.group_runner.specs.Marks.{marks_in}
use Rattle.group_runner.proofs.mark.first_difference.Given as goal

abbrev pub invariant-loop-place : goal.invariant-loop-place
invariant-loop-place l = (i : ℕ) → i < l.place → same_mark (nth (marks_in l.left) i) (nth (marks_in l.right) i) ≡ true
