-- What an auditor is told, and what it says of the groups.
use Rattle.std.specs.Prelude.{ℕ, Bool, false, List, Option, Some, None, refl}
use Rattle.std.specs.Coded.{Coded, code_by, coded×, coded_list}
use Rattle.script_tree.specs.Alike.{same_response}
use Rattle.script_tree.specs.Datum.{Datum}
use Rattle.script_tree.specs.Programs.{Program}
use Rattle.script_tree.specs.declared.request.Response.{Response}
use Rattle.period.specs.declared.trace.TraceEvent.{TraceEvent}
use Rattle.period.specs.contracts.trace.TraceEvent as event_row
use Rattle.period.specs.declared.report.Report.{Report}
use Rattle.period.specs.contracts.report.Report as report_row
use Rattle.script_meaning.specs.Conduct.{Ending}
use Rattle.object_set.specs.ObjectSets.{HeldObjects, objects_of, coded_objects}
use Rattle.audit_meaning.specs.Groups.{group_fault, unsound_group, end_of, steps_to, steps_of_all}
use Rattle.audit_meaning.specs.Lists.{answer_if}
use Rattle.audit_meaning.specs.Members.{told, answer_at, wants_as}
use Rattle.audit_meaning.specs.Spots.{spot_of}
use Rattle.audit_meaning.specs.Verdicts.{plain_steps}
use Rattle.audit_meaning.specs.declared.reason.Reason.{Reason}

-- a trace, what the objects held at its start, and what the server reports of it
pub record Told : Type 0 where
  pub trace : List TraceEvent
  pub start : HeldObjects
  pub report : Report

-- what an auditor is told by these
abbrev pub told_by : List TraceEvent → HeldObjects → Report → Told
told_by trace start report = record { trace = trace; start = start; report = report }

-- how a proof stores it
abbrev pub coded_told : Coded Told
coded_told =
    code_by (List TraceEvent × (HeldObjects × Report)) (coded× (coded_list event_row.the_row.coded) (coded× coded_objects report_row.the_row.coded))
    (λ t. (t.trace, (t.start, t.report))) (λ p. told_by p.0 p.1.0 p.1.1) (λ _. refl)

-- the answers to the first k operations of a request
abbrev pub answers_to : Told → ℕ → ℕ → List Datum
answers_to t r k = told t.report (objects_of t.start) r k

-- the answer to a request's operation k, where the run wants what the report has there
abbrev pub answer_to : Told → ℕ → ℕ → Ending → Option Datum
answer_to t r k ending = answer_if (wants_as ending (spot_of t.report r k)) (answer_at (objects_of t.start) (spot_of t.report r k))

-- the response is the trace's
abbrev pub gives_response : Response → Option Response → Bool
gives_response response None = false
gives_response response (Some traced) = same_response response traced

-- what is wrong with a group
abbrev pub fault_of : Program → Told → ℕ → List ℕ → Option Reason
fault_of program told group rids = group_fault program (objects_of told.start) told.trace told.report group rids

-- the steps that a member spends, and several
abbrev pub spent_by : Program → Told → ℕ → ℕ
spent_by program told r = steps_to (end_of program (objects_of told.start) told.trace told.report r)

-- the steps that these members spend
abbrev pub steps_of : Program → Told → List ℕ → ℕ
steps_of program told rids = steps_of_all program (objects_of told.start) told.trace told.report rids

-- what is wrong with the least group that isn't sound
abbrev pub unsound_in : Program → Told → Option Reason
unsound_in program told = unsound_group program (objects_of told.start) told.trace told.report

-- the steps that all members spend
abbrev pub steps_in : Program → Told → ℕ
steps_in program told = plain_steps program (objects_of told.start) told.trace told.report
