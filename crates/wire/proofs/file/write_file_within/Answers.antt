use Rattle.std.proofs.lemmas.Grind.{common_steps}
use Rattle.std.proofs.Common.{◌≡◌, ◌+◌, ◌++◌, length, ap, ◌∙◌, arith}
use Rattle.std.proofs.lemmas.List.{length-append}
use Rattle.wire.specs.Files.{record_spelling}
use Rattle.wire.proofs.FileSteps.{written_more, beyond_here}
use Rattle.wire.proofs.file.write_file_within.Goals as goal

pub returns-in_default : goal.returns-in_default
returns-in_default g c =
    beyond_here g.W.RecordFormat.format c.args.limit c.as_slice-items.result.now c.args.items.now c.loop-item.item-index c.item-item.result c.len-at.result c.loop-item.out.items c.as_slice-items.ensures c.loop-item-test.true c.item-item.is c.loop-item.invariant.spelled (omega arith) (omega arith) c.in_default.ensures

pub loop-item-preserved : goal.loop-item-preserved
loop-item-preserved g c =
    let format = g.W.RecordFormat.format in
    let item = c.item-item.result in
    let old = c.loop-item.out.items in
    let new = c.write_record.new.out.items in
    let written : new ≡ old ++ record_spelling format item = c.in_ok-write_record.ensures in
    let len : length (record_spelling format item) ≡ 4 + length (format.payload item) = omega arith in
    record {
      spelled = written_more format c.as_slice-items.result.now c.loop-item.item-index item old new c.loop-item-test.true c.loop-item.invariant.spelled (written ∙ ap (λ x. old ++ record_spelling format x) c.item-item.is);
      within = omega (arith, ap length written, length-append old (record_spelling format item), c.in-Some.ensures.0, c.in-Some.ensures.1);
    }

pub returns : goal.returns
returns g c = grind (arith, common_steps)
