-- A graph that shows the events of a report, node by node and event by event.
use Rattle.std.specs.Prelude.{◌≡◌, ℕ, suc, ◌+◌, ◌<◌, true, false, List, length, take, flat_map, Some, None}
use Rattle.basis.specs.Lists.{nth}
use Rattle.script_tree.specs.Requests.{Request}
use Rattle.period.specs.Traces.{IsBalanced}
use Rattle.script_tree.specs.declared.request.Response.{Response}
use Rattle.period.specs.declared.trace.TraceEvent.{TraceEvent}
use Rattle.period.specs.declared.trace.TraceEvent.TheVariants.{Asked, Answered}
use Rattle.period.specs.declared.report.Report.{Report}
use Rattle.event_order.specs.Order.{NodeIs, EventIs, IsEventGraph}
use Rattle.event_order.specs.Thin.{IsThin}
use Rattle.event_order.specs.declared.graph.Event.TheVariants.{Arrival, Departure}
use Rattle.event_order.specs.declared.graph.Graph.{Graph}
use Rattle.event_order.specs.declared.graph.Node.{Node as GraphNode}
use Rattle.audit_meaning.specs.EdgesAre.{NeighboursInLog}
use Rattle.audit_meaning.specs.LogFaults.{log_fault}
use Rattle.audit_meaning.specs.Nodes.{nodes, nodes_in}
use Rattle.audit_meaning.specs.Spots.{count_of}
use Rattle.audit_meaning.specs.declared.node.Node.{Node}
use Rattle.script_tree.specs.Objects.{Objects}
use Rattle.script_tree.specs.Programs.{Program}
use Rattle.precedence_graph.specs.Since.{IsSince}
use Rattle.audit_order.specs.Mirrors.{MirrorsReport}

-- the number of the arrival that stands at a place: how many nodes come before it
abbrev pub offset : List TraceEvent → Report → ℕ → ℕ
offset trace report i = length (flat_map (nodes_in report) (take i trace))

-- The graph's node has the numbers of its neighbours in its log, where those are of other requests.
pub record IsLinked (report : Report) (ns : List Node) (n : Node) (v : GraphNode) : Type 0 where
  pub before : (y : ℕ) → v.log_before ≡ Some y → (b : Node) × (nth ns y ≡ Some b) × NeighboursInLog report b n
  pub before_back : (y : ℕ) (b : Node) → nth ns y ≡ Some b → NeighboursInLog report b n → v.log_before ≡ Some y
  pub after : (z : ℕ) (b : Node) → nth ns z ≡ Some b → NeighboursInLog report n b → v.log_after ≡ Some z
  pub after_inside : (z : ℕ) → v.log_after ≡ Some z → z < length ns

-- the graph's node is an arrival at this place
pub record IsArrivalAt (trace : List TraceEvent) (i : ℕ) (v : GraphNode) : Type 0 where
  pub is_arrival : v.is_arrival ≡ true
  pub at : v.at ≡ i
  pub since : IsSince trace i v.since

-- Its nodes and its events are those of the report and of the trace.
pub record Shows (trace : List TraceEvent) (report : Report) (g : Graph) : Type 0 where
  pub count : length g.nodes.items ≡ length (nodes trace report)
  pub events : length g.trace.items ≡ length trace
  pub node : (x : ℕ) (n : Node) → nth (nodes trace report) x ≡ Some n → (v : GraphNode) × NodeIs g x v × IsLinked report (nodes trace report) n v
  pub asked : (i r : ℕ) (q : Request) → nth trace i ≡ Some (Asked r q) → (v : GraphNode) × NodeIs g (offset trace report i) v × IsArrivalAt trace i v
  pub later : (i r k : ℕ) (q : Request) → nth trace i ≡ Some (Asked r q) → k < count_of report r + 1
      → (v : GraphNode) × NodeIs g (offset trace report i + suc k) v × (v.is_arrival ≡ false)
  pub arrival : (i r : ℕ) (q : Request) → nth trace i ≡ Some (Asked r q) → EventIs g i (Arrival (offset trace report i))
  pub departure : (j i r : ℕ) (x : Response) (q : Request) → nth trace j ≡ Some (Answered r x)
      → nth trace i ≡ Some (Asked r q) → EventIs g j (Departure (offset trace report i + (count_of report r + 1)))

-- What the order of a graph asks for.
pub record IsOrderable (trace : List TraceEvent) (report : Report) (g : Graph) : Type 0 where
  pub graph : IsEventGraph g
  pub thin : IsThin g
  pub mirrors : MirrorsReport trace report g

-- A graph that shows a report without faults in its logs can be ordered.
abbrev pub ShownIsOrderable : Type 0
ShownIsOrderable =
    (program : Program) (start : Objects) (trace : List TraceEvent) (report : Report) (g : Graph)
    → IsBalanced trace → log_fault program start trace report ≡ None → Shows trace report g → IsOrderable trace report g
