-- A node has no fault but of its values.
use Rattle.std.specs.Prelude.{List}
use Rattle.script_tree.specs.Datum.{Datum}
use Rattle.script_tree.specs.Requests.{Request}
use Rattle.script_meaning.specs.ValueFaults.{FailsByValues}
use Rattle.script_nodes.specs.Evaluated.{evaluated}
use Rattle.script_nodes.specs.declared.primitive.Primitive.{Primitive}

-- A node has no faults but those that values have by themselves.
abbrev pub NodesFailByValues : Type 0
NodesFailByValues = (q : Request) (p : Primitive) (ds : List Datum) → FailsByValues (evaluated q p ds)
