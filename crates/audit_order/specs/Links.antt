-- The neighbours of operations in their logs, by their numbers.
use Rattle.std.specs.Prelude.{◌≡◌, ℕ, suc, ◌≤◌, List, length, Option, Some, None}
use Rattle.basis.specs.Lists.{nth}
use Rattle.script_tree.specs.Objects.{Objects}
use Rattle.script_tree.specs.Programs.{Program}
use Rattle.script_tree.specs.Requests.{Request}
use Rattle.period.specs.Traces.{IsBalanced}
use Rattle.period.specs.declared.trace.TraceEvent.{TraceEvent}
use Rattle.period.specs.declared.trace.TraceEvent.TheVariants.{Asked}
use Rattle.period.specs.declared.report.LogEntry.{LogEntry}
use Rattle.period.specs.declared.report.Report.{Report}
use Rattle.log_checker.specs.OpMaps.{IsMapOf}
use Rattle.audit_meaning.specs.LogFaults.{log_fault}
use Rattle.audit_meaning.specs.Nodes.{node_of}
use Rattle.audit_meaning.specs.Spots.{count_of}
use Rattle.audit_meaning.specs.declared.node.Node.{Node}
use Rattle.audit_order.specs.Numbers.{IsNumbering}
use Rattle.audit_order.specs.declared.linking.Sound.{Sound}

-- the logs have no fault, by some program and some start
pub record HasNoFault (trace : List TraceEvent) (report : Report) : Type 0 where
  pub program : Program
  pub start : Objects
  pub none : log_fault program start trace report ≡ None

-- The trace is balanced, the logs have no fault, and the map and the numbering are the report's.
pub record IsSound (s : Sound) : Type 0 where
  pub balanced : IsBalanced s.trace.now
  pub faultless : HasNoFault s.trace.now s.report.now
  pub map : IsMapOf s.report.now s.map.now
  pub numbering : IsNumbering s.trace.now s.report.now s.numbering.now

-- The request stands in the trace and has a node of this number: its arrival at 0, its operations from 1 on.
pub record HasNode (trace : List TraceEvent) (report : Report) (r k : ℕ) : Type 0 where
  pub place : ℕ
  pub request : Request
  pub asked : nth trace place ≡ Some (Asked r request)
  pub within : k ≤ count_of report r

-- The number of an entry's node; none where it is of this request.
pub record IsLink (ns : List Node) (r : ℕ) (entry : LogEntry) (link : Option ℕ) : Type 0 where
  pub own : entry.rid ≡ r → link ≡ None
  pub other : (entry.rid ≡ r → ⊥) → (y : ℕ) × (link ≡ Some y) × (nth ns y ≡ Some (node_of entry))

-- each entry has a node
abbrev pub HaveNodes : List TraceEvent → Report → List LogEntry → Type 0
HaveNodes trace report entries = (j : ℕ) (e : LogEntry) → nth entries j ≡ Some e → HasNode trace report e.rid e.number

-- the link of the entry before a position, and of the one behind it
pub record LinksBefore (ns : List Node) (r : ℕ) (entries : List LogEntry) (position : ℕ) (link : Option ℕ) : Type 0 where
  pub none : position ≡ 0 → link ≡ None
  pub some : (j : ℕ) (e : LogEntry) → position ≡ suc j → nth entries j ≡ Some e → IsLink ns r e link

-- the link of the entry behind a position
pub record LinksAfter (ns : List Node) (r : ℕ) (entries : List LogEntry) (position : ℕ) (link : Option ℕ) : Type 0 where
  pub none : length entries ≤ suc position → link ≡ None
  pub some : (e : LogEntry) → nth entries (suc position) ≡ Some e → IsLink ns r e link
