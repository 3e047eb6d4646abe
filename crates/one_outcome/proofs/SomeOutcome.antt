-- Words that ask for no recording come to an outcome.
use Rattle.std.proofs.Common.{◌≡◌, ℕ, List, Option, Some, None, Result, Ok, Err, inl, inr, refl, subst}
use Rattle.std.specs.FinMap.{get}
use Rattle.outside.specs.Files.{Files}
use Rattle.script_tree.specs.Objects.{Objects}
use Rattle.script_tree.specs.Programs.{Program}
use Rattle.period.specs.declared.trace.TraceEvent.{TraceEvent}
use Rattle.trace_format.specs.Events.{trace_format}
use Rattle.wire.specs.Files.{Spells, file_spelling}
use Rattle.wire.specs.declared.limits.TheConstants.{MOST_FILE_BYTES, MOST_SCHEDULE_BYTES}
use Rattle.schedule_format.specs.Moments.{schedule_format}
use Rattle.audit_meaning.specs.declared.verdict.Verdict.{Verdict}
use Rattle.audit_meaning.specs.declared.verdict.Verdict.TheVariants.{Accepted, Rejected}
use Rattle.auditor.specs.Audited.{ReadReport, audited}
use Rattle.command_inputs.specs.Inputs.{Input, IsInput}
use Rattle.command_inputs.specs.Program.{program_input}
use Rattle.command_inputs.specs.Report.{report_input, SpellsReport}
use Rattle.command_inputs.specs.Schedule.{schedule_input}
use Rattle.command_inputs.specs.SomeWay.{AreReadSomeWay, IsReadSomeWay, ThereIs}
use Rattle.command_inputs.specs.State.{state_input}
use Rattle.command_inputs.specs.Trace.{trace_input}
use Rattle.command_inputs.specs.declared.fault.InputFault.{InputFault}
use Rattle.command_words.specs.AuditWords.{AuditWords}
use Rattle.command_words.specs.Commands.{Command, a_check, a_replay, a_recording, an_audit, command, usage}
use Rattle.command_words.specs.Words.{ReplayNames}
use Rattle.commands.specs.Audits.{IsAudited, IsJudged, IsVerdict, AuditWithProgram, AuditWithTrace, AuditWithState}
use Rattle.commands.specs.Outcome.{IsCheckedFile, IsCounted, IsFound, IsOutcomeOf, IsReplayed, ReplayWithProgram, ReplayWithState, ReplayWithTrace}
use Rattle.commands.specs.Outputs.{Outcome, says}
use Rattle.commands.specs.WithInput.{WithInput}
use Rattle.commands.specs.declared.answer.Answer.TheVariants as answer
use Rattle.one_outcome.specs.SomeOutcome.{IsSomeOutcome, RecordsNothing}
use Rattle.commands.proofs.SomeSchedule.{spelled_schedule}

-- one input, with an outcome of each thing that its file spells
past_input : {A : Type 0} (input : Input A) (file : Option (List ℕ)) (next : A → Outcome → Type 0) → IsReadSomeWay input
    → ((x : A) → IsInput input file (Ok x) → ThereIs (next x)) → ThereIs (WithInput input file next)
past_input {A} input file next some each none = some file by
  where
    by : (r : Result A InputFault) → IsInput input file r → ⊥
    by (Ok x) is = each x is (λ o goes. none o (inr (x, is, goes)))
    by (Err fault) is = none (says (answer.Input fault)) (inl (fault, is, refl))

-- one outcome is some
here : (is : Outcome → Type 0) (o : Outcome) → is o → ThereIs is
here is o h none = none o h

-- a file's trace and report spell them
spelled_trace : (file : Option (List ℕ)) (trace : List TraceEvent) → IsInput (trace_input MOST_FILE_BYTES) file (Ok trace)
    → (bytes : List ℕ) × Spells trace_format bytes trace
spelled_trace None trace is = absurd is
spelled_trace (Some bytes) trace is = (bytes, is.1.spelled)

spelled_report : (file : Option (List ℕ)) (report : ReadReport) → IsInput (report_input MOST_FILE_BYTES) file (Ok report)
    → (bytes : List ℕ) × SpellsReport bytes report
spelled_report None report is = absurd is
spelled_report (Some bytes) report is = (bytes, is.1)

module _ (words : AuditWords) (program : Program) (start : Objects) (trace : List TraceEvent)
    (spelled : (bytes : List ℕ) × Spells trace_format bytes trace) where
  judged : (report : ReadReport) → (bytes : List ℕ) × SpellsReport bytes report → (v : Verdict) → audited program start trace report ≡ v
      → ThereIs (IsJudged words trace report v)
  judged (Ok report) read (Accepted schedule evaluated plain) is =
      here _ _ (
        file_spelling schedule_format schedule,
        record { spelled = refl; allowed = spelled_schedule trace report spelled.0 read.0 spelled.1 read.1 program start schedule evaluated plain is },
        refl,
      )
  judged (Ok report) read (Rejected reason) is = here _ _ refl
  judged (Err at) read (Accepted schedule evaluated plain) is = absurd cc
  judged (Err at) read (Rejected reason) is = here _ _ refl

module _ (some : AreReadSomeWay) (files : Files) where
  some_audit : (w : AuditWords) → ThereIs (IsAudited files w)
  some_audit w =
      past_input (program_input MOST_FILE_BYTES) (get files w.program) (AuditWithProgram files w) (some.programs MOST_FILE_BYTES)
      (λ program _. past_input (state_input program MOST_FILE_BYTES) (get files w.state) (AuditWithState files w program) (some.states program MOST_FILE_BYTES)
      (λ start _. past_input (trace_input MOST_FILE_BYTES) (get files w.trace) (AuditWithTrace files w program start) (some.traces MOST_FILE_BYTES)
      (λ trace is. past_input (report_input MOST_FILE_BYTES) (get files w.report) (IsVerdict w program start trace) (some.reports MOST_FILE_BYTES)
      (λ report read. judged w program start trace (spelled_trace (get files w.trace) trace is) report
      (spelled_report (get files w.report) report read) (audited program start trace report) refl))))

  some_replay : (names : ReplayNames) → ThereIs (IsReplayed files names)
  some_replay names =
      past_input (program_input MOST_FILE_BYTES) (get files names.program) (ReplayWithProgram files names) (some.programs MOST_FILE_BYTES)
      (λ program _. past_input (state_input program MOST_FILE_BYTES) (get files names.state)
      (ReplayWithState files names program) (some.states program MOST_FILE_BYTES)
      (λ start _. past_input (trace_input MOST_FILE_BYTES) (get files names.trace) (ReplayWithTrace files names program start) (some.traces MOST_FILE_BYTES)
      (λ trace _. past_input (schedule_input MOST_SCHEDULE_BYTES) (get files names.schedule) (IsFound program start trace) (some.schedules MOST_SCHEDULE_BYTES)
      (λ schedule _. here (IsFound program start trace schedule) _ refl))))

  some_check : (name : List ℕ) → ThereIs (IsCheckedFile files name)
  some_check name =
      past_input (program_input MOST_FILE_BYTES) (get files name) IsCounted (some.programs MOST_FILE_BYTES) (λ program _. here (IsCounted program) _ refl)

  some_of : (reading : Option ℕ) (c : Command) → RecordsNothing c → ThereIs (IsOutcomeOf reading files c)
  some_of reading (a_check name) none = some_check name
  some_of reading (a_replay names) none = some_replay names
  some_of reading (a_recording w) none = absurd none
  some_of reading (an_audit w) none = some_audit w
  some_of reading usage none = here (λ o. o ≡ says answer.Usage) (says answer.Usage) refl

pub is_some_outcome : AreReadSomeWay → IsSomeOutcome
is_some_outcome some words reading files none = some_of some files reading (command words) none
