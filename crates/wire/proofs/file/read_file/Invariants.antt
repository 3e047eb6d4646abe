use Rattle.std.proofs.Common.{length, ◌-◌}
use Rattle.wire.specs.FileReaders.{HasReadFile}
use Rattle.wire.proofs.file.read_file.Given as goal

abbrev pub invariant-loop-items : goal.invariant-loop-items
invariant-loop-items g l = HasReadFile g.R.RecordFormat.format g.R.RecordReader.HasRead l.bytes l.items.items l.file

abbrev pub decreases-loop-items : goal.decreases-loop-items
decreases-loop-items g l = length l.file.bytes.now - l.file.at
