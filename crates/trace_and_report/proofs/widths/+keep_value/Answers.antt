use Rattle.std.proofs.Common.{◌≤◌, arith}
use Rattle.script_tree.specs.Datum.{size, members_size, data_of}
use Rattle.wire.proofs.ValueSizes.{member_size}
use Rattle.trace_and_report.proofs.Values.{one_more}
use Rattle.trace_and_report.proofs.widths.+keep_value.Goals as goal

pub keep_values-keep_value-requires : goal.keep_values-keep_value-requires
keep_values-keep_value-requires t c =
    let small : size c.value-item.result ≤ members_size (data_of c.args.values.now) = member_size c.args.values.now c.loop-value.value-index c.value-item.result c.loop-value-test.true c.value-item.is in
    omega (arith, small, c.decreases)

pub keep_values-loop-value-preserved : goal.keep_values-loop-value-preserved
keep_values-loop-value-preserved t c =
    one_more c.args.values.now c.loop-value.value-index c.value-item.result c.loop-value-test.true c.value-item.is c.loop-value.invariant c.in_ok-keep_value.ensures
