use Rattle.std.proofs.Common.{◌≡◌, List, ◌++◌, length, true, false}
use Rattle.std.specs.Map.{keys_of}
use Rattle.state_file.specs.Faults.{are_entries_within_limits}
use Rattle.state_file.specs.Givens.{Entry}
use Rattle.state_file.specs.Puts.{PutsCells}
use Rattle.json_texts.specs.Shapes.{has_twice}
use Rattle.state_file.proofs.stored.put_cells.Given as goal

-- the last ones are stored, and none of them twice
abbrev pub invariant-loop-key : goal.invariant-loop-key
invariant-loop-key l =
    (last : List Entry) × (l.initial.entries.items ≡ l.entries.items ++ last)
    × (has_twice (keys_of last) ≡ false)
    × PutsCells l.store last l.fn.objects l.objects
    × (are_entries_within_limits l.entries.items ≡ true)

abbrev pub decreases-loop-key : goal.decreases-loop-key
decreases-loop-key l = length l.entries.items
