use Rattle.std.proofs.Common.{drop, ◌↔◌}
use Rattle.script_tree.specs.ActLimits.{AreWithinLimits}
use Rattle.object_tables.proofs.fitting.are_within_limits.Given as goal

-- what is left decides
abbrev pub invariant-loop-value : goal.invariant-loop-value
invariant-loop-value l = AreWithinLimits (drop l.value-index l.values) ↔ AreWithinLimits l.values
