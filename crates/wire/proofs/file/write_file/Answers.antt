use Rattle.std.proofs.lemmas.Grind.{common_steps}
use Rattle.std.proofs.Common.{ap, ◌++◌, ◌∙◌, arith}
use Rattle.wire.specs.Files.{record_spelling}
use Rattle.wire.proofs.FileSteps.{written_more}
use Rattle.wire.proofs.file.write_file.Goals as goal

pub loop-item-preserved : goal.loop-item-preserved
loop-item-preserved g c =
    let format = g.W.RecordFormat.format in
    written_more format c.as_slice-items.result.now c.loop-item.item-index c.item-item.result c.loop-item.out.items c.write_record.new.out.items c.loop-item-test.true c.loop-item.invariant (c.in_ok-write_record.ensures ∙ ap (λ x. c.loop-item.out.items ++ record_spelling format x) c.item-item.is)

pub returns : goal.returns
returns g c = grind (arith, common_steps)
