use Rattle.std.proofs.Common.{◌≡◌, ◌+◌, ◌*◌, ◌++◌, drop}
use Rattle.script_tree.specs.Datum.{size, members_size, data_of}
use Rattle.script_tree.specs.ValueView.{datum_of}
use Rattle.wire.specs.Spellings.{IsFront, values_spelling, list_spelling}
use Rattle.wire.proofs.value_writing.+write_any.Given as goal

abbrev pub decreases-write_any : goal.decreases-write_any
decreases-write_any l = 3 * size l.value.now + 1

abbrev pub decreases-write_node : goal.decreases-write_node
decreases-write_node l = 3 * size (datum_of l.node.now)

abbrev pub decreases-write_all : goal.decreases-write_all
decreases-write_all l = 3 * members_size (data_of l.values.now) + 2

-- what is written, and the values that are left
abbrev pub invariant-write_all-loop-value : goal.invariant-write_all-loop-value
invariant-write_all-loop-value l = record {
  written : l.out.items ++ values_spelling (data_of (drop l.value-index l.values)) ≡ l.fn.out.items ++ list_spelling l.values;
  front : IsFront l.fn.out.items l.out.items;
}
