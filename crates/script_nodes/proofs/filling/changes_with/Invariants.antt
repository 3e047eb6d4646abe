use Rattle.std.proofs.Common.{◌≡◌, ◌++◌, length, drop}
use Rattle.script_code.specs.CodeRun.{changes_with}
use Rattle.script_nodes.proofs.filling.changes_with.Given as goal

-- the changes so far, and those of the columns and the values that are left
abbrev pub invariant-loop-column : goal.invariant-loop-column
invariant-loop-column l = l.changes ++ changes_with (drop (length l.yielded) l.columns) (drop (length l.yielded) l.values) ≡ changes_with l.columns l.values
