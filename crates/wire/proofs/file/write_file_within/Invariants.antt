use Rattle.std.proofs.Common.{◌≡◌, ◌≤◌, length, take}
use Rattle.wire.specs.Files.{file_spelling}
use Rattle.wire.proofs.file.write_file_within.Given as goal

abbrev pub invariant-loop-item : goal.invariant-loop-item
invariant-loop-item g l = record {
  spelled : l.out.items ≡ file_spelling g.W.RecordFormat.format (take l.item-index l.items);
  within : length l.out.items ≤ l.limit;
}
