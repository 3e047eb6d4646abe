-- Nodes by their numbers.
use Rattle.std.specs.Prelude.{◌≡◌, ℕ, ◌+◌, ◌<◌, List, map, length, Some}
use Rattle.basis.specs.Lists.{nth}
use Rattle.period.specs.declared.trace.TraceEvent.{TraceEvent}
use Rattle.period.specs.declared.report.Report.{Report}
use Rattle.audit_meaning.specs.Lists.{numbers}
use Rattle.audit_meaning.specs.Nodes.{node_at, nodes}
use Rattle.audit_meaning.specs.declared.node.Node.{Node}
use Rattle.audit_order.specs.Shows.{offset}
use Rattle.audit_order.specs.declared.numbering.Numbering.{Numbering}

-- the nodes of a request with so many operations
abbrev pub own_nodes : ℕ → ℕ → List Node
own_nodes count r = map (node_at count r) (numbers 0 (count + 2))

-- They are the nodes of the report, as many as 32 bits number, and how many come before each event.
pub record IsNumbering (trace : List TraceEvent) (report : Report) (n : Numbering) : Type 0 where
  pub names : n.names.items ≡ nodes trace report
  pub few : length n.names.items < 4294967296
  pub count : length n.offsets.items ≡ length trace
  pub offsets : (i : ℕ) → i < length trace → nth n.offsets.items i ≡ Some (offset trace report i)
