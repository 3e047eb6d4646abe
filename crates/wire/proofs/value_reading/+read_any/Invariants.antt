use Rattle.std.proofs.Common.{◌≡◌, ◌+◌, ◌*◌, length}
use Rattle.wire.proofs.ValueSteps.{AreRead}
use Rattle.wire.proofs.value_reading.+read_any.Given as goal

abbrev pub decreases-read_any : goal.decreases-read_any
decreases-read_any l = 2 * l.depth + 1

abbrev pub decreases-read_list : goal.decreases-read_list
decreases-read_list l = 2 * l.depth

-- so many values are read
abbrev pub invariant-read_list-loop : goal.invariant-read_list-loop
invariant-read_list-loop l = record {
  counted : length l.values.items ≡ l.counter;
  read : AreRead l.below l.room l.bytes l.next l.values.items l.place l.left;
}
