-- Paths of edges from request to request, and what they say of time.
use Rattle.std.specs.Prelude.{◌≡◌, ◌↔◌, ℕ, List}
use Rattle.script_tree.specs.Requests.{Request}
use Rattle.period.specs.Traces.{IsBalanced, Precedes}
use Rattle.period.specs.declared.trace.TraceEvent.{TraceEvent}
use Rattle.trace_format.specs.Balance.{AsksAt}
use Rattle.audit_meaning.specs.Placed.{IsIn}
use Rattle.precedence_graph.specs.Edges.{AreEdges}

-- one edge, or a path and an edge
pub data HasPath (edges : List (ℕ × ℕ)) (a : ℕ) : ℕ → Type 0 where
  one : (b : ℕ) → IsIn edges (a, b) → HasPath edges a b
  more : (c b : ℕ) → HasPath edges a c → IsIn edges (c, b) → HasPath edges a b

-- A path leads from one request to another exactly where the first precedes the second in time.
abbrev pub PathsArePrecedence : Type 0
PathsArePrecedence = (trace : List TraceEvent) (edges : List (ℕ × ℕ)) → IsBalanced trace → AreEdges trace edges
    → (a b r s : ℕ) (p q : Request) → AsksAt trace a r p → AsksAt trace b s q → (HasPath edges a b ↔ Precedes trace r s)

-- A trace has one list of edges.
abbrev pub EdgesAreOne : Type 0
EdgesAreOne = (trace : List TraceEvent) (xs ys : List (ℕ × ℕ)) → AreEdges trace xs → AreEdges trace ys → xs ≡ ys
