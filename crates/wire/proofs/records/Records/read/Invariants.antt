use Rattle.std.proofs.Common.{◌≡◌, List, map, length, ◌-◌}
use Rattle.wire.specs.FileReaders.{HasReadFile}
use Rattle.wire.specs.Recorded.{payloads_at, StandAt}
use Rattle.wire.proofs.records.Records.read.Given as goal

-- the items of the records so far, and that their payloads are the ones at the places
abbrev pub invariant-loop-places : goal.invariant-loop-places
invariant-loop-places g l = record {
  items : List g.row.R-Item.Denot;
  read : HasReadFile g.R.RecordFormat.format g.R.RecordReader.HasRead l.fn.bytes.items items l.file;
  payloads : payloads_at l.fn.bytes.items l.places.items ≡ map g.R.RecordFormat.format.payload items;
  stand : StandAt l.fn.bytes.items l.places.items;
}

abbrev pub decreases-loop-places : goal.decreases-loop-places
decreases-loop-places g l = length l.file.bytes.now - l.file.at
