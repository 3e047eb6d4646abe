-- What the statuses mean.
use Rattle.std.specs.Prelude.{◌≡◌, ℕ, List, length, Option, Some, Result, Ok}
use Rattle.std.specs.FinMap.{get}
use Rattle.outside.specs.Files.{Files}
use Rattle.outside.specs.Sinks.{SinkTold}
use Rattle.script_meaning.specs.Explains.{Explains}
use Rattle.script_tree.specs.Objects.{Objects}
use Rattle.script_tree.specs.Programs.{Program}
use Rattle.period.specs.declared.schedule.Moment.{Moment}
use Rattle.period.specs.declared.trace.TraceEvent.{TraceEvent}
use Rattle.trace_format.specs.Events.{request_count}
use Rattle.wire.specs.declared.limits.TheConstants.{MOST_FILE_BYTES, MOST_SCHEDULE_BYTES}
use Rattle.replayer.specs.Laws.{ExplainsIfRead}
use Rattle.period.specs.declared.report.Report.{Report}
use Rattle.audit_meaning.specs.declared.reason.Reason.{Reason}
use Rattle.audit_meaning.specs.declared.verdict.Verdict.TheVariants.{Accepted, Rejected}
use Rattle.auditor.specs.Audited.{ReadReport, audited}
use Rattle.command_inputs.specs.Inputs.{IsInput}
use Rattle.command_inputs.specs.Program.{program_input}
use Rattle.command_inputs.specs.Report.{report_input}
use Rattle.command_inputs.specs.Schedule.{schedule_input}
use Rattle.command_inputs.specs.State.{state_input}
use Rattle.command_inputs.specs.Trace.{trace_input}
use Rattle.command_words.specs.AuditWords.{AuditWords}
use Rattle.command_words.specs.Commands.{a_check, a_replay, an_audit, command}
use Rattle.command_words.specs.Words.{ReplayNames}
use Rattle.commands.specs.Lines.{acceptance_line}
use Rattle.commands.specs.Printing.{HasWhole}
use Rattle.verdict_lines.specs.Rejections.{rejection_line}

-- The words ask for a check.
abbrev pub AskCheck : List (List ℕ) → Type 0
AskCheck words = (name : List ℕ) × (command words ≡ a_check name)

-- The words ask for a replay.
abbrev pub AskReplay : List (List ℕ) → Type 0
AskReplay words = (names : ReplayNames) × (command words ≡ a_replay names)

-- The words ask for an audit.
abbrev pub AskAudit : List (List ℕ) → Type 0
AskAudit words = (w : AuditWords) × (command words ≡ an_audit w)

-- The file that is to be checked spells a program.
pub record IsProgramFile (words : List (List ℕ)) (files : Files) : Type 0 where
  pub name : List ℕ
  pub program : Program
  pub asked : command words ≡ a_check name
  pub spelled : IsInput (program_input MOST_FILE_BYTES) (get files name) (Ok program)

-- The words name the files of a replay. These spell this program, what the objects hold at first,
-- this trace, and this schedule, or none from a place on.
pub record AreSpelled (words : List (List ℕ)) (files : Files) (program : Program) (start : Objects)
    (trace : List TraceEvent) (schedule : Result (List Moment) ℕ) : Type 0 where
  pub names : ReplayNames
  pub asked : command words ≡ a_replay names
  pub program_file : IsInput (program_input MOST_FILE_BYTES) (get files names.program) (Ok program)
  pub state_file : IsInput (state_input program MOST_FILE_BYTES) (get files names.state) (Ok start)
  pub trace_file : IsInput (trace_input MOST_FILE_BYTES) (get files names.trace) (Ok trace)
  pub schedule_file :
      IsInput (schedule_input MOST_SCHEDULE_BYTES) (get files names.schedule) (Ok schedule)

-- The schedule that the files spell explains the trace that they spell.
abbrev pub IsExplained : List (List ℕ) → Files → Type 0
IsExplained words files =
    (program : Program) × (start : Objects) × (trace : List TraceEvent) × (schedule : List Moment)
    × AreSpelled words files program start trace (Ok schedule)
    × Explains program start trace schedule

-- The files spell no schedule, or one that doesn't explain the trace that they spell.
abbrev pub IsUnexplained : List (List ℕ) → Files → Type 0
IsUnexplained words files =
    (program : Program) × (start : Objects) × (trace : List TraceEvent)
    × (schedule : Result (List Moment) ℕ)
    × AreSpelled words files program start trace schedule
    × (ExplainsIfRead program start trace schedule → ⊥)

-- ---- an audit

-- The files spell this program, what the objects hold at first, this trace, and this report, or none
-- from a place on.
pub record AreAudited (files : Files) (w : AuditWords) (program : Program) (start : Objects)
    (trace : List TraceEvent) (report : ReadReport) : Type 0 where
  pub program_file : IsInput (program_input MOST_FILE_BYTES) (get files w.program) (Ok program)
  pub state_file : IsInput (state_input program MOST_FILE_BYTES) (get files w.state) (Ok start)
  pub trace_file : IsInput (trace_input MOST_FILE_BYTES) (get files w.trace) (Ok trace)
  pub report_file : IsInput (report_input MOST_FILE_BYTES) (get files w.report) (Ok report)

-- The report is accepted. Afterwards the schedule of the verdict, which explains the trace and which a
-- replay can read, stands under its name, and the verdict is printed.
pub record HasSchedule (words : List (List ℕ)) (before after : Files) (out out' : SinkTold) : Type 0
  where
    pub asked : AuditWords
    pub asks : command words ≡ an_audit asked
    pub program : Program
    pub start : Objects
    pub trace : List TraceEvent
    pub report : Report
    pub spelled : AreAudited before asked program start trace (Ok report)
    pub schedule : List Moment
    pub evaluated : ℕ
    pub plain : ℕ
    pub accepts : audited program start trace (Ok report) ≡ Accepted schedule evaluated plain
    pub explains : Explains program start trace schedule
    pub file :
        IsInput (schedule_input MOST_SCHEDULE_BYTES) (get after asked.schedule) (Ok (Ok schedule))
    pub printed : let groups = length report.groups in
        HasWhole out out' (acceptance_line (request_count trace) groups evaluated plain)

-- Where the shelf tells its files, before and after.
abbrev pub IsAcceptedBy : List (List ℕ) → Option Files → Option Files → SinkTold → SinkTold → Type 0
IsAcceptedBy words before after out out' =
    (files : Files) → before ≡ Some files
    → (left : Files) × (after ≡ Some left) × HasSchedule words files left out out'

-- The verdict on the report is a rejection, for this reason.
pub record HasReason (words : List (List ℕ)) (files : Files) (reason : Reason) : Type 0 where
  pub asked : AuditWords
  pub asks : command words ≡ an_audit asked
  pub program : Program
  pub start : Objects
  pub trace : List TraceEvent
  pub report : ReadReport
  pub spelled : AreAudited files asked program start trace report
  pub rejects : audited program start trace report ≡ Rejected reason

-- Where the shelf tells its files, they are as before, and the reason of the verdict is told.
abbrev pub IsRejectedBy : List (List ℕ) → Option Files → Option Files → SinkTold → SinkTold → Type 0
IsRejectedBy words before after out out' =
    (files : Files) → before ≡ Some files
    → (after ≡ Some files)
    × ((reason : Reason) × HasReason words files reason × HasWhole out out' (rejection_line reason))
