use Rattle.wire.proofs.Faults.{part_not_taken}
use Rattle.wire.proofs.Sequences.{both_there, no_first, no_second}
use Rattle.report_format.specs.Parts.{both}
use Rattle.report_format.proofs.parts.PairFieldKind.read.Goals as goal

pub returns-in_err-first : goal.returns-in_err-first
returns-in_err-first g c =
    part_not_taken g.F.FieldKind.field (both g.F.FieldKind.field g.G.FieldKind.field) (λ x. x) (λ x. x) c.args.bytes.now c.args.at c.args.at c.in_err-first.field-0.0 c.from_residual.result c.in_err-first.ensures c.from_residual.ensures.1 (no_first g.F.FieldKind.field (λ x. g.G.FieldKind.field) c.args.bytes.now c.args.at)

pub returns-in_err-second : goal.returns-in_err-second
returns-in_err-second g c =
    let first = g.F.FieldKind.field in
    let second = g.G.FieldKind.field in
    part_not_taken second (both first second) (λ x. x) (λ x. x) c.args.bytes.now c.in_ok-first.next c.args.at c.in_err-second.field-0.0
    c.from_residual-in_err-second.result c.in_err-second.ensures c.from_residual-in_err-second.ensures.1
    (no_second first (λ x. second) g.met.F.FieldKind.one c.args.bytes.now c.args.at c.in_ok-first.first c.in_ok-first.next c.in_ok-first.ensures)

pub returns : goal.returns
returns g c =
    both_there g.F.FieldKind.field (λ x. g.G.FieldKind.field) c.args.bytes.now c.args.at c.in_ok-first.first c.in_ok-first.next c.in_ok-second.second
    c.in_ok-second.next c.in_ok-first.ensures c.in_ok-second.ensures
