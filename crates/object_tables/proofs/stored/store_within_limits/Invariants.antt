use Rattle.std.proofs.Common.{drop, ◌↔◌}
use Rattle.script_fit.specs.StoredLimits.{StoreWithinLimits}
use Rattle.object_tables.proofs.stored.store_within_limits.Given as goal

-- what is left decides
abbrev pub invariant-loop-statement : goal.invariant-loop-statement
invariant-loop-statement l = StoreWithinLimits (drop l.statement-index l.statements) ↔ StoreWithinLimits l.statements
