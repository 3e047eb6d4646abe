use Rattle.std.proofs.Common.{◌+◌}
use Rattle.wire.proofs.ValueTags.{number_given, no_number, tail_fault}
use Rattle.wire.proofs.value_reading.read_number.Goals as goal

pub returns-in_err-number : goal.returns-in_err-number
returns-in_err-number c = λ depth.
    tail_fault 3 depth (c.args.room + 1) c.args.bytes.now c.args.at _ c.from_residual.result c.from_residual.ensures.1
    (no_number c.args.bytes.now c.args.at depth (c.args.room + 1) c.in_err-number.ensures.field.1)

pub returns : goal.returns
returns c = λ depth.
    number_given c.args.bytes.now c.args.at c.in_ok-number.number c.in_ok-number.next depth c.args.room c.number.result c.in_ok-number.ensures.field c.number.ensures
