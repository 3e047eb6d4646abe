use Rattle.std.proofs.Common.{take}
use Rattle.versioned_tables.specs.Standing.{IsPartAt}
use Rattle.versioned_tables.proofs.part.part_at.Given as goal

abbrev pub invariant-loop-key : goal.invariant-loop-key
invariant-loop-key l = IsPartAt l.position l.tables (take l.key-index l.keys) l.widths l.part
