use Rattle.std.proofs.Common.{drop, map, ◌↔◌}
use Rattle.script_tree.specs.ActLimits.{AreWithinLimits}
use Rattle.object_tables.proofs.stored.changes_are_within_limits.Given as goal

-- what is left decides
abbrev pub invariant-loop-change : goal.invariant-loop-change
invariant-loop-change l = AreWithinLimits (map (λ c. c.value) (drop l.change-index l.changes)) ↔ AreWithinLimits (map (λ c. c.value) l.changes)
