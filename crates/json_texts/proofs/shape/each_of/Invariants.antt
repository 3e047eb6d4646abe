use Rattle.std.proofs.Common.{◌≡◌, ◌++◌, length, option_map}
use Rattle.serde_json.specs.View.{members_view}
use Rattle.json_texts.specs.Shapes.{each_of}
use Rattle.json_texts.proofs.shape.each_of.Given as goal

-- all are those so far, and those of the members that are left
abbrev pub invariant-loop-name : goal.invariant-loop-name
invariant-loop-name g l =
    each_of g.S.Shape.given (members_view l.fn.members.entries)
    ≡ option_map (λ more. l.given.items ++ more) (each_of g.S.Shape.given (members_view l.left))

abbrev pub decreases-loop-name : goal.decreases-loop-name
decreases-loop-name g l = length l.left
