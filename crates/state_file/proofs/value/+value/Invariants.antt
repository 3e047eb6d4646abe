use Rattle.std.proofs.Common.{◌≡◌, ◌++◌, option_map}
use Rattle.std.specs.Vec.Iter.{into_iter_items}
use Rattle.serde_json.specs.View.{items_view}
use Rattle.state_file.specs.Values.{values_of}
use Rattle.state_file.proofs.value.+value.Given as goal

-- all values are those so far, and those of the items that are left
abbrev pub invariant-values_of-loop-item : goal.invariant-values_of-loop-item
invariant-values_of-loop-item l =
    values_of (items_view l.fn.items.items) ≡ option_map (λ more. l.values.items ++ more) (values_of (items_view (into_iter_items l.item-iterator)))
