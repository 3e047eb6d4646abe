use Rattle.std.proofs.lemmas.Grind.{common_steps}
use Rattle.std.proofs.Common.{length, ap, subst, arith}
use Rattle.wire.specs.Spellings.{IsFieldAt, bytes_field}
use Rattle.wire.proofs.FileSteps.{one_more, record_there, bad_record}
use Rattle.wire.proofs.file.FileReader.next.Goals as goal

pub returns-in-Ok-clause-reads : goal.returns-in-Ok-clause-reads
returns-in-Ok-clause-reads g c bytes items so_far =
    let format = g.R.RecordFormat.format in
    let at = c.args.self.now.at in
    let framed = subst (λ b. IsFieldAt bytes_field b at c.in_ok-payload.payload.now c.in_ok-payload.next) so_far.of c.in_ok-payload.ensures.field in
    let here = record_there format items bytes c.in_ok-payload.payload.now at c.in_ok-payload.next c.in-Ok.item framed (c.in-Ok.ensures.takes items so_far.kept) in (
      here,
      record {
        of = so_far.of;
        kept = c.in-Ok.ensures.goes_on items so_far.kept;
        read = one_more format bytes items at c.in-Ok.item c.in_ok-payload.next so_far.read here;
      },
    )

pub returns-in-Err-Other-clause-reads : goal.returns-in-Err-Other-clause-reads
returns-in-Err-Other-clause-reads g c bytes items so_far =
    let at = c.args.self.now.at in
    let framed = subst (λ b. IsFieldAt bytes_field b at c.in_ok-payload.payload.now c.in_ok-payload.next) so_far.of c.in_ok-payload.ensures.field in
    bad_record g.R.RecordFormat.format items bytes c.in_ok-payload.payload.now at c.in_ok-payload.next so_far.read
    (omega (arith, ap length so_far.of, c.in_ok-payload.ensures.within)) framed
    (rw c.in-Err-Other.field-0-is at c.in-Err-Other.ensures.takes items so_far.kept)

pub returns-then-at-self-clause-reads : goal.returns-then-at-self-clause-reads
returns-then-at-self-clause-reads g c = grind (arith, common_steps)
