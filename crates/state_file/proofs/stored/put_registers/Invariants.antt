use Rattle.std.proofs.Common.{◌≡◌, List, ◌++◌, length, true, false}
use Rattle.std.specs.Map.{keys_of}
use Rattle.state_file.specs.Faults.{are_entries_within_limits}
use Rattle.state_file.specs.Givens.{Entry}
use Rattle.state_file.specs.Puts.{PutsRegisters}
use Rattle.json_texts.specs.Shapes.{has_twice}
use Rattle.state_file.proofs.stored.put_registers.Given as goal

-- the last ones are stored, and none of them twice
abbrev pub invariant-loop-name : goal.invariant-loop-name
invariant-loop-name l =
    (last : List Entry) × (l.initial.registers.items ≡ l.registers.items ++ last)
    × (has_twice (keys_of last) ≡ false)
    × PutsRegisters last l.fn.objects l.objects
    × (are_entries_within_limits l.registers.items ≡ true)

abbrev pub decreases-loop-name : goal.decreases-loop-name
decreases-loop-name l = length l.registers.items
