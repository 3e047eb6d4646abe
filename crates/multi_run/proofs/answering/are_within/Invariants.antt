use Rattle.std.proofs.Common.{◌≡◌, ◌<◌, ℕ}
use Rattle.script_tree.specs.Datum.{is_within_limits}
use Rattle.multivalue.specs.Many.{member_value}
use Rattle.multi_run.proofs.answering.are_within.Given as goal

abbrev pub invariant-loop-member : goal.invariant-loop-member
invariant-loop-member l = (i : ℕ) → i < l.member → is_within_limits (member_value l.answers i) ≡ l.within
