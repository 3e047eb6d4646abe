-- The events of a report: of each request its arrival, its operations and its departure.
use Rattle.std.specs.Prelude.{ℕ, zero, suc, ◌+◌, Bool, false, ◌&&◌, List, [], map, flat_map, Option, Some, None, nat_le, nat_eq, unwrap_or, if◌then◌else◌}
use Rattle.basis.specs.Lists.{first_answer}
use Rattle.script_tree.specs.Objects.{is_same}
use Rattle.script_tree.specs.declared.operation.Choice.{Choice}
use Rattle.script_tree.specs.declared.operation.Choice.TheVariants.{Nothing}
use Rattle.script_tree.specs.declared.operation.Object.{Object}
use Rattle.period.specs.declared.schedule.Moment.{Moment}
use Rattle.period.specs.declared.schedule.Moment.TheVariants as at
use Rattle.period.specs.declared.trace.TraceEvent.{TraceEvent}
use Rattle.period.specs.declared.trace.TraceEvent.TheVariants.{Asked, Answered}
use Rattle.period.specs.declared.report.Log.{Log}
use Rattle.period.specs.declared.report.LogEntry.{LogEntry}
use Rattle.period.specs.declared.report.Report.{Report}
use Rattle.audit_meaning.specs.Lists.{numbers}
use Rattle.audit_meaning.specs.Spots.{Spot, spot_of, count_of}
pub use Rattle.audit_meaning.specs.declared.node.Node.{Node}
pub use Rattle.audit_meaning.specs.declared.node.Node.TheVariants.{Number as step, End as close}

-- the nodes of a request with so many operations, from its arrival at 0 to its departure
abbrev pub node_at : ℕ → ℕ → ℕ → Node
node_at most r i = if nat_le i most then step r i else close r

-- of a request, its nodes
abbrev pub nodes_in : Report → TraceEvent → List Node
nodes_in report (Asked r request) = map (node_at (count_of report r) r) (numbers 0 (count_of report r + 2))
nodes_in report (Answered r response) = []

-- all nodes, the least first: by the request's place in the trace, then by number, the departure last
unfoldable pub nodes : List TraceEvent → Report → List Node
nodes trace report = flat_map (nodes_in report) trace

-- equal nodes
abbrev pub same_node : Node → Node → Bool
same_node (step r k) (step a b) = nat_eq r a && nat_eq k b
same_node (close r) (close a) = nat_eq r a
same_node (step r k) (close a) = false
same_node (close r) (step a b) = false

-- ---- moments

-- the choice of an entry; nothing where there is none
abbrev pub choice_at : Option Spot → Choice
choice_at None = Nothing
choice_at (Some spot) = spot.entry.choice

-- a node as a moment of a schedule; an operation has its entry's choice
abbrev pub moment : Report → Node → Moment
moment report (step r zero) = at.Arrive r
moment report (step r (suc k)) = at.Act r (choice_at (spot_of report r (suc k)))
moment report (close r) = at.Depart r

-- ---- logs

-- the node of an entry
abbrev pub node_of : LogEntry → Node
node_of entry = step entry.rid entry.number

-- a log's entries, where it is the object's
abbrev pub if_of : Object → Log → Option (List LogEntry)
if_of object log = if is_same object log.object then Some log.entries else None

-- an object's log
unfoldable pub log_of : Report → Object → List LogEntry
log_of report object = unwrap_or (first_answer (if_of object) report.logs) []
