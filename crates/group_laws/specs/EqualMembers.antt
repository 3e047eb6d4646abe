-- What a group costs whose members are equal.
use Rattle.std.specs.Prelude.{◌≡◌, ℕ, ◌+◌, ◌*◌, List, ◌∷◌, length, All}
use Rattle.script_tree.specs.Datum.{Datum}
use Rattle.script_tree.specs.Objects.{Objects}
use Rattle.script_tree.specs.Programs.{Program}
use Rattle.period.specs.Traces.{request_of}
use Rattle.script_tree.specs.declared.path.Path.{Path}
use Rattle.script_tree.specs.declared.request.Response.{Response}
use Rattle.period.specs.declared.trace.TraceEvent.{TraceEvent}
use Rattle.period.specs.declared.report.Report.{Report}
use Rattle.script_meaning.specs.Conduct.{Ends}
use Rattle.audit_meaning.specs.Groups.{cost_of_group, done, end_of}
use Rattle.audit_meaning.specs.Members.{told}

module _ (program : Program) (start : Objects) (trace : List TraceEvent) (report : Report) where
  -- what a member's operations are answered
  abbrev pub answers_of : ℕ → List Datum
  answers_of r = told report start r (done program start trace report r)

  -- two members with equal requests and equal answers
  abbrev pub AreEqual : ℕ → ℕ → Type 0
  AreEqual a b = (request_of trace a ≡ request_of trace b) × (answers_of a ≡ answers_of b)

-- Where one member's run ends, and all others are equal to it, the group costs its steps, and one more for each operation of each other.
abbrev pub EqualMembersCostOne : Type 0
EqualMembersCostOne = (program : Program) (start : Objects) (trace : List TraceEvent) (report : Report) (rid : ℕ)
    (others : List ℕ) (response : Response) (path : Path)
    → end_of program start trace report rid ≡ Ends response path
    → All (AreEqual program start trace report rid) others
    → cost_of_group program start trace report (rid ∷ others) ≡ path.steps + done program start trace report rid * length others
