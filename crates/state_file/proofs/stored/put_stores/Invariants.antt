use Rattle.std.proofs.Common.{◌≡◌, List, ◌++◌, length, true, false}
use Rattle.std.specs.List.{list_all}
use Rattle.object_cells.specs.Stores.{has_store}
use Rattle.state_file.specs.Faults.{are_entries_within_limits, some_key_is_twice}
use Rattle.json_texts.specs.Shapes.{Named}
use Rattle.state_file.specs.Givens.{Entry}
use Rattle.state_file.specs.Puts.{PutsStores}
use Rattle.state_file.proofs.stored.put_stores.Given as goal

-- the last ones are stored, and no key of them twice
abbrev pub invariant-loop-name : goal.invariant-loop-name
invariant-loop-name l =
    (last : List (Named (List Entry))) × (l.initial.stores.items ≡ l.stores.items ++ last)
    × (some_key_is_twice last ≡ false)
    × PutsStores last l.fn.objects l.objects
    × (list_all (λ s. are_entries_within_limits s.1) l.stores.items ≡ true)
    × (list_all (λ s. has_store l.fn.objects.stores s.0) l.stores.items ≡ true)

abbrev pub decreases-loop-name : goal.decreases-loop-name
decreases-loop-name l = length l.stores.items
