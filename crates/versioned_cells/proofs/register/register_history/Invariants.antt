use Rattle.std.proofs.Common.{◌≡◌, take}
use Rattle.object_cells.specs.Cells.{held}
use Rattle.versioned_cells.specs.Versions.{AreUntil}
use Rattle.versioned_cells.specs.Logs.{TellsRegister}
use Rattle.versioned_cells.proofs.register.register_history.Given as goal

abbrev pub invariant-loop-entry : goal.invariant-loop-entry
invariant-loop-entry l = record {
  count : l.since ≡ l.entry-index;
  tells : TellsRegister (take l.entry-index l.entries) (held l.registers l.name) l.history;
  until : AreUntil l.entry-index l.history;
}
