use Rattle.std.proofs.Common.{◌≡◌, ◌++◌, length, option_map}
use Rattle.std.specs.Vec.Iter.{into_iter_items}
use Rattle.serde_json.specs.View.{items_view}
use Rattle.json_texts.specs.Shapes.{all_of}
use Rattle.json_texts.proofs.shape.all_of.Given as goal

-- all are those so far, and those of the items that are left
abbrev pub invariant-loop-item : goal.invariant-loop-item
invariant-loop-item g l =
    all_of g.S.Shape.given (items_view l.fn.items.items)
    ≡ option_map (λ more. l.given.items ++ more)
    (all_of g.S.Shape.given (items_view (into_iter_items l.left)))

abbrev pub decreases-loop-item : goal.decreases-loop-item
decreases-loop-item g l = length (into_iter_items l.left)
