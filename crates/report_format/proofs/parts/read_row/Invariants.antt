use Rattle.wire.specs.Spellings.{IsFieldAt}
use Rattle.report_format.specs.Parts.{row_field}
use Rattle.report_format.proofs.parts.read_row.Given as goal

abbrev pub invariant-loop : goal.invariant-loop
invariant-loop g l = IsFieldAt (row_field g.F.FieldKind.field l.counter) l.bytes l.at l.items.items l.place
