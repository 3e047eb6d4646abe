use Rattle.std.proofs.Common.{◌≡◌, take}
use Rattle.wire.specs.Files.{file_spelling}
use Rattle.wire.proofs.file.write_file.Given as goal

abbrev pub invariant-loop-item : goal.invariant-loop-item
invariant-loop-item g l = l.out.items ≡ file_spelling g.W.RecordFormat.format (take l.item-index l.items)
