use Rattle.std.proofs.Common.{refl}
use Rattle.wire.proofs.FileSteps.{no_magic, read_none}
use Rattle.wire.proofs.file.FileReader.new.Goals as goal

pub returns-then-not-starts_with : goal.returns-then-not-starts_with
returns-then-not-starts_with g c =
    no_magic g.R.RecordFormat.format c.args.bytes.now c.magic-magic.result.now c.starts_with.result c.starts_with.ensures.value c.magic-magic.ensures c.if-not-starts_with.true

pub returns : goal.returns
returns g c = record {
  of = refl;
  kept = c.new.ensures;
  read = read_none g.R.RecordFormat.format c.args.bytes.now c.magic-magic.result.now c.starts_with.result c.starts_with.ensures.value c.magic-magic.ensures c.if-not-starts_with.false (c.starts_with.ensures.bound c.if-not-starts_with.false);
}
