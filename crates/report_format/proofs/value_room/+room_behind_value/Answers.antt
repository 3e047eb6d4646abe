use Rattle.std.proofs.Common.{◌≤◌, arith}
use Rattle.script_tree.specs.Datum.{size, members_size, data_of}
use Rattle.wire.proofs.ValueSizes.{member_size}
use Rattle.report_format.proofs.value_room.+room_behind_value.Goals as goal

pub room_behind_values-room_behind_value-requires : goal.room_behind_values-room_behind_value-requires
room_behind_values-room_behind_value-requires t c =
    let small : size c.value-item.result ≤ members_size (data_of c.args.values.now) = member_size c.args.values.now c.loop-value.value-index c.value-item.result c.loop-value-test.true c.value-item.is in
    omega (arith, small, c.decreases)
