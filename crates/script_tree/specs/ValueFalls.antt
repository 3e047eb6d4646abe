-- What is in a value weighs less than it.
use Rattle.std.specs.Prelude.{◌≤◌, ◌+◌, ◌*◌, List, [], ◌∷◌}
use Rattle.std.proofs.Common.{arith}
use Rattle.script_tree.specs.Datum.{Datum, weight, size}
use Rattle.script_tree.specs.ValueView.{datum_of}
use Rattle.script_tree.specs.declared.value.Value.TheInside.{Inside as InValue}
use Rattle.script_tree.specs.declared.value.Members.TheInside.{Inside as InMembers}
use Rattle.script_tree.specs.declared.value.Node.{Node}
use Rattle.script_tree.specs.declared.value.Members.TheDeep.{deep-Node, deep-Value, deep-Members}
use Rattle.script_tree.specs.declared.value.Node.TheVariants.{Null, Bool, Number, Text, List as Listed}
use denote.Param.Weighed.{most}

-- What is in a node weighs less than the value of the node.
pub node_falls : (v : Node) → deep-Node v ≤ 3 * size (datum_of v)
node_falls Null = omega arith
node_falls (Bool b) = omega arith
node_falls (Number n) = omega arith
node_falls (Text bs) = omega arith
node_falls (Listed ds) = omega arith

-- What is in a value weighs less than it.
pub value_falls : (a : InValue) → deep-Value a ≤ 3 * size (datum_of a.node)
value_falls a = omega (arith, node_falls a.node)

-- Each value of a list weighs less than the list's members.
pub values_fall : (ds : List Datum) → most (λ d. 3 * size d + 1) ds ≤ 3 * weight ds + 1
values_fall [] = omega arith
values_fall (d ∷ ds) = omega (arith, values_fall ds)

-- What is in the members of a list weighs less than they do.
pub weight_falls : (a : InMembers) → deep-Members a ≤ 3 * weight a.items.items + 1
weight_falls a = omega (arith, values_fall a.items.items)
