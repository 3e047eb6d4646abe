use Rattle.std.proofs.Common.{◌+◌, ◌*◌, take}
use Rattle.script_tree.specs.Datum.{size, members_size, data_of}
use Rattle.script_tree.specs.ValueView.{datum_of}
use Rattle.wire.specs.Spellings.{HaveWideNumbers}
use Rattle.trace_and_report.proofs.widths.+keep_value.Given as goal

abbrev pub decreases-keep_value : goal.decreases-keep_value
decreases-keep_value l = 3 * size l.value.now + 1

abbrev pub decreases-keep_node : goal.decreases-keep_node
decreases-keep_node l = 3 * size (datum_of l.node.now)

abbrev pub decreases-keep_values : goal.decreases-keep_values
decreases-keep_values l = 3 * members_size (data_of l.values.now) + 2

abbrev pub invariant-keep_values-loop-value : goal.invariant-keep_values-loop-value
invariant-keep_values-loop-value l = HaveWideNumbers (data_of (take l.value-index l.values))
