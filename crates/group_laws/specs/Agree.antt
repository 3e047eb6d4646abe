-- What the members of a group have with which nothing is wrong.
use Rattle.std.specs.Prelude.{◌≡◌, ℕ, List, Some, None}
use Rattle.basis.specs.Lists.{nth}
use Rattle.script_tree.specs.Objects.{Objects}
use Rattle.script_tree.specs.Programs.{Program}
use Rattle.script_tree.specs.Requests.{Request}
use Rattle.period.specs.Traces.{request_of}
use Rattle.period.specs.declared.report.Report.{Report}
use Rattle.period.specs.declared.trace.TraceEvent.{TraceEvent}
use Rattle.script_meaning.specs.Conduct.{conduct, ended}
use Rattle.script_meaning.specs.Evaluate.{Flow}
use Rattle.script_meaning.specs.Run.{Ran}
use Rattle.audit_meaning.specs.Groups.{group_fault, marks}
use Rattle.audit_meaning.specs.Members.{told}
use Rattle.audit_meaning.specs.Spots.{count_of}
use Rattle.group_laws.specs.Shown.{shown_of}

-- Both are members of the group.
pub record AreInGroup (group : List ℕ) (a b : ℕ) : Type 0 where
  pub first : ℕ
  pub second : ℕ
  pub first' : nth group first ≡ Some a
  pub second' : nth group second ≡ Some b

module _ (program : Program) (start : Objects) (trace : List TraceEvent) (report : Report) where
  -- The run of a member comes to this on the page of this number, with the answers that the report has for it.
  pub record RunsTo (r : ℕ) (number : ℕ) (ran : Ran Flow) : Type 0 where
    pub request : Request
    pub asked : request_of trace r ≡ Some request
    pub ran' : conduct program request (told report start r (count_of report r)) ≡ ended number ran

-- Any two members leave the same marks.
abbrev pub SoundMembersAgree : Type 0
SoundMembersAgree = (program : Program) (start : Objects) (trace : List TraceEvent) (report : Report) (number : ℕ) (group : List ℕ)
    → group_fault program start trace report number group ≡ None → (a b : ℕ) → AreInGroup group a b
    → marks program start trace report a ≡ marks program start trace report b

-- Of the runs of any two members the same shows.
abbrev pub SoundMembersShowAlike : Type 0
SoundMembersShowAlike = (program : Program) (start : Objects) (trace : List TraceEvent) (report : Report) (number : ℕ) (group : List ℕ)
    → group_fault program start trace report number group ≡ None → (a b : ℕ) → AreInGroup group a b
    → (page other : ℕ) (ran ran' : Ran Flow) → RunsTo program start trace report a page ran → RunsTo program start trace report b other ran'
    → shown_of ran ≡ shown_of ran'
