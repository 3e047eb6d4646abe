use Rattle.std.proofs.Common.{◌≡◌, map}
use Rattle.serde_json.specs.View.{members_view}
use Rattle.json_texts.specs.Shapes.{have_names}
use Rattle.json_texts.proofs.shape.have_names.Given as goal

abbrev pub invariant-loop-name : goal.invariant-loop-name
invariant-loop-name l =
    have_names (map (λ name. name.now) l.names) (members_view l.name-iterator) ≡ have_names (map (λ name. name.now) l.names) (members_view l.members.entries)
