use Rattle.std.proofs.Common.{◌≡◌, ◌+◌, ◌*◌, length, drop}
use Rattle.script_tree.specs.Datum.{size, members_size, data_of}
use Rattle.script_tree.specs.ValueView.{datum_of}
use Rattle.wire.specs.Spellings.{values_spelling, list_spelling}
use Rattle.report_format.proofs.value_room.+room_behind_value.Given as goal

abbrev pub decreases-room_behind_value : goal.decreases-room_behind_value
decreases-room_behind_value l = 3 * size l.value.now + 1

abbrev pub decreases-room_behind_node : goal.decreases-room_behind_node
decreases-room_behind_node l = 3 * size (datum_of l.node.now)

abbrev pub decreases-room_behind_values : goal.decreases-room_behind_values
decreases-room_behind_values l = 3 * members_size (data_of l.values.now) + 2

-- what is left behind those before is what is left behind all, and those that come
abbrev pub invariant-room_behind_values-loop-value : goal.invariant-room_behind_values-loop-value
invariant-room_behind_values-loop-value l =
    l.room + length (values_spelling (data_of (drop l.value-index l.values))) ≡ l.left + length (list_spelling l.values)
