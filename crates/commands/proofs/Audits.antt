-- From the outcome of an audit to what its statuses mean.
use Rattle.std.proofs.Common.{◌≡◌, ◌∙◌, ℕ, ◌+◌, ◌≤◌, cond, List, [], ◌∷◌, ◌++◌, length, Option, Some, None, option_map, Ok, Err, refl, ap, sym, subst, append_assoc, append-nil, arith}
use Rattle.std.proofs.lemmas.List.Sums.{sum_by-append}
use Rattle.std.specs.FinMap.{get, insert}
use Rattle.outside.specs.Files.{Files}
use Rattle.outside.specs.Sinks.{SinkTold}
use Rattle.script_meaning.specs.Explains.{Explains}
use Rattle.script_tree.specs.Objects.{Objects}
use Rattle.script_tree.specs.Programs.{Program}
use Rattle.period.specs.Traces.{IsBalanced}
use Rattle.script_tree.specs.declared.limits.TheConstants.{MOST_REQUESTS}
use Rattle.period.specs.declared.schedule.Moment.{Moment}
use Rattle.period.specs.declared.trace.TraceEvent.{TraceEvent}
use Rattle.period.specs.declared.trace.TraceEvent.TheVariants.{Asked, Answered}
use Rattle.wire.specs.Files.{MayFollow, Spells, file_spelling}
use Rattle.wire.specs.declared.limits.TheConstants.{MOST_FILE_BYTES, MOST_SCHEDULE_BYTES}
use Rattle.trace_format.specs.Events.{is_request, request_count, trace_format}
use Rattle.period.specs.declared.report.Report.{Report}
use Rattle.report_format.specs.Reports.{report_format, records_of}
use Rattle.schedule_format.specs.Moments.{schedule_format}
use Rattle.audit_completeness.specs.Fits.{ScheduleFits}
use Rattle.audit_meaning.specs.Soundness.{AcceptedExplains}
use Rattle.audit_meaning.specs.Verdicts.{verdict}
use Rattle.audit_meaning.specs.declared.reason.Reason.{Reason}
use Rattle.audit_meaning.specs.declared.verdict.Verdict.{Verdict}
use Rattle.audit_meaning.specs.declared.verdict.Verdict.TheVariants.{Accepted, Rejected}
use Rattle.auditor.specs.Audited.{ReadReport, audited}
use Rattle.command_inputs.specs.Inputs.{IsInput}
use Rattle.command_inputs.specs.Report.{report_input}
use Rattle.command_inputs.specs.Schedule.{schedule_input}
use Rattle.command_inputs.specs.Trace.{trace_input}
use Rattle.command_words.specs.AuditWords.{AuditWords}
use Rattle.command_words.specs.Commands.{an_audit}
use Rattle.verdict_lines.specs.Rejections.{rejection_line}
use Rattle.commands.specs.Audits.{accepted, group_count, IsJudged, IsVerdict, IsAudited, AuditWithProgram, AuditWithTrace, AuditWithState}
use Rattle.commands.specs.Explained.{AskAudit, AreAudited, HasReason, HasSchedule}
use Rattle.commands.specs.Lines.{acceptance_line, line_of}
use Rattle.commands.specs.Outcome.{IsOutcome}
use Rattle.commands.specs.Outputs.{Outcome, says, with_puts}
use Rattle.commands.specs.Printing.{HasWhole}
use Rattle.commands.specs.Seen.{ShelfSeen}
use Rattle.commands.specs.declared.answer.Answer.TheVariants as answer
use Rattle.commands.proofs.Outcomes.{of_command}
use Rattle.commands.proofs.Puts.{holds_put}
use Rattle.commands.proofs.Verdicts.{status, goes_on, is_balanced}

-- all that an outcome says
record Judged (files : Files) (a : AuditWords) (outcome : Outcome) : Type 0 where
  pub program : Program
  pub start : Objects
  pub trace : List TraceEvent
  pub report : ReadReport
  pub spelled : AreAudited files a program start trace report
  pub balanced : IsBalanced trace
  pub judged : IsVerdict a program start trace report outcome

judged_of : (files : Files) (a : AuditWords) (outcome : Outcome) → (status outcome ≡ 3 → ⊥) → IsAudited files a outcome → Judged files a outcome
judged_of files a outcome sound h =
    let program = goes_on _ _ (AuditWithProgram files a) outcome sound h in
    let start = goes_on _ _ (AuditWithState files a program.0) outcome sound program.2 in
    let trace = goes_on _ _ (AuditWithTrace files a program.0 start.0) outcome sound start.2 in
    let report = goes_on _ _ (IsVerdict a program.0 start.0 trace.0) outcome sound trace.2 in
    record {
      program = program.0;
      start = start.0;
      trace = trace.0;
      report = report.0;
      spelled = record { program_file = program.1; state_file = start.1; trace_file = trace.1; report_file = report.1 };
      balanced = is_balanced _ _ trace.0 trace.1;
      judged = report.2;
    }

-- ---- status 0

-- the verdict of an outcome whose status is 0
record Accepts (a : AuditWords) (trace : List TraceEvent) (report : ReadReport) (v : Verdict) (outcome : Outcome) : Type 0 where
  pub schedule : List Moment
  pub evaluated : ℕ
  pub steps : ℕ
  pub verdict_is : v ≡ Accepted schedule evaluated steps
  pub bytes : List ℕ
  pub spells : Spells schedule_format bytes schedule
  pub is : outcome ≡ accepted a (answer.Accepted (request_count trace) (group_count report) evaluated steps) bytes

accepts : (a : AuditWords) (trace : List TraceEvent) (report : ReadReport) (v : Verdict) (outcome : Outcome) → IsJudged a trace report v outcome
    → status outcome ≡ 0 → Accepts a trace report v outcome
accepts a trace report (Accepted schedule evaluated steps) outcome h zero = record {
  schedule = schedule;
  evaluated = evaluated;
  steps = steps;
  verdict_is = refl;
  bytes = h.0;
  spells = h.1;
  is = h.2;
}
accepts a trace report (Rejected reason) outcome h zero = absurd (let e = ap status (sym h) ∙ zero in cc)

-- it is the verdict on a report that was read
explains : AcceptedExplains → (program : Program) (start : Objects) (trace : List TraceEvent) (read : ReadReport) (schedule : List Moment) (evaluated steps : ℕ)
    → IsBalanced trace → audited program start trace read ≡ Accepted schedule evaluated steps
    → (report : Report) × (read ≡ Ok report) × Explains program start trace schedule × (verdict program start trace report ≡ Accepted schedule evaluated steps)
explains sound program start trace (Ok report) schedule evaluated steps balanced is =
    (report, refl, sound program start trace report schedule evaluated steps balanced is, is)
explains sound program start trace (Err at) schedule evaluated steps balanced is = absurd cc

-- ---- lengths

counted : (before : List TraceEvent) (e : TraceEvent) → request_count (before ++ e ∷ []) ≡ request_count before + request_count (e ∷ [])
counted before e = sum_by-append (λ x. cond (is_request x) 1 0) before (e ∷ [])

few_from : (before events : List TraceEvent) → MayFollow trace_format before events
    → request_count before ≤ MOST_REQUESTS → request_count (before ++ events) ≤ MOST_REQUESTS
few_from before [] follow few = subst (λ es. request_count es ≤ MOST_REQUESTS) (sym (append-nil before)) few
few_from before (Asked r q ∷ events) follow few =
    let more = counted before (Asked r q) in
    let within : request_count (before ++ Asked r q ∷ []) ≤ MOST_REQUESTS = omega (arith, more, follow.0.0.1.1) in
    subst (λ es. request_count es ≤ MOST_REQUESTS) (append_assoc before (Asked r q ∷ []) events) (few_from (before ++ Asked r q ∷ []) events follow.1 within)
few_from before (Answered r x ∷ events) follow few =
    let more = counted before (Answered r x) in
    let within : request_count (before ++ Answered r x ∷ []) ≤ MOST_REQUESTS = omega (arith, more, few) in
    subst (λ es. request_count es ≤ MOST_REQUESTS) (append_assoc before (Answered r x ∷ []) events)
    (few_from (before ++ Answered r x ∷ []) events follow.1 within)

-- a trace that was read has no more requests than a trace may have
few_requests : (most : ℕ) (file : Option (List ℕ)) (trace : List TraceEvent) → IsInput (trace_input most) file (Ok trace) → request_count trace ≤ MOST_REQUESTS
few_requests most None trace h = absurd h
few_requests most (Some bytes) trace h = few_from [] trace h.1.spelled.allowed (omega arith)

-- a report that was read is within its limit
short_report : (most : ℕ) (file : Option (List ℕ)) (report : Report)
    → IsInput (report_input most) file (Ok (Ok report))
    → length (file_spelling report_format (records_of report)) ≤ most
short_report most None report h = absurd h
short_report most (Some bytes) report h = subst (λ bs. length bs ≤ most) h.1.spelled h.0

-- a schedule within its limit is one that can be read
readable : (file : Option (List ℕ)) (bytes : List ℕ) (schedule : List Moment) → file ≡ Some bytes → Spells schedule_format bytes schedule
    → length (file_spelling schedule_format schedule) ≤ MOST_SCHEDULE_BYTES → IsInput (schedule_input MOST_SCHEDULE_BYTES) file (Ok (Ok schedule))
readable file bytes schedule there spells within =
    subst (λ f. IsInput (schedule_input MOST_SCHEDULE_BYTES) f (Ok (Ok schedule))) (sym there)
    (subst (λ bs. length bs ≤ MOST_SCHEDULE_BYTES) (sym spells.spelled) within, spells)

-- the line of an accepted report
abbrev accepted_line : List TraceEvent → (evaluated steps : ℕ) → ReadReport → List ℕ
accepted_line trace evaluated steps report = acceptance_line (request_count trace) (group_count report) evaluated steps

pub has_schedule : AcceptedExplains → ScheduleFits → (words : List (List ℕ)) (reading : Option ℕ) (files : Files) (outcome : Outcome) (read new : ShelfSeen)
    (out out' : SinkTold) → AskAudit words → status outcome ≡ 0 → IsOutcome words reading files outcome
    → read.told.files ≡ Some files → new ≡ with_puts outcome.puts read → HasWhole out out' (line_of outcome.answer)
    → (left : Files) × (new.told.files ≡ Some left) × HasSchedule words files left out out'
has_schedule sound fits words reading files outcome read new out out' asked zero h told put printed =
    let a = asked.0 in
    let j = judged_of files a outcome (λ e. let f = sym e ∙ zero in cc) (of_command words reading files outcome (an_audit a) asked.1 h) in
    let v = accepts a j.trace j.report (audited j.program j.start j.trace j.report) outcome j.judged zero in
    let e = explains sound j.program j.start j.trace j.report v.schedule v.evaluated v.steps j.balanced v.verdict_is in
    let spelled : AreAudited files a j.program j.start j.trace (Ok e.0) = subst (λ r. AreAudited files a j.program j.start j.trace r) e.1 j.spelled in
    let within = fits j.program j.start j.trace e.0 v.schedule v.evaluated v.steps j.balanced
    (few_requests MOST_FILE_BYTES (get files a.trace) j.trace spelled.trace_file)
    (short_report MOST_FILE_BYTES (get files a.report) e.0 spelled.report_file) e.3 in
    let left : Files = insert files a.schedule v.bytes in
    let is : new.told.files ≡ Some left
    = ap (λ (s : ShelfSeen). s.told.files) put
    ∙ ap (λ (o : Outcome). (with_puts o.puts read).told.files) v.is
    ∙ ap (λ fs. option_map (λ f. insert f a.schedule v.bytes) fs) told in
    let line : line_of outcome.answer ≡ accepted_line j.trace v.evaluated v.steps (Ok e.0)
    = ap (λ (o : Outcome). line_of o.answer) v.is ∙ ap (accepted_line j.trace v.evaluated v.steps) e.1 in (
      left,
      is,
      record {
        asked = a;
        asks = asked.1;
        program = j.program;
        start = j.start;
        trace = j.trace;
        report = e.0;
        spelled = spelled;
        schedule = v.schedule;
        evaluated = v.evaluated;
        plain = v.steps;
        accepts = e.3;
        explains = e.2;
        file = readable (get left a.schedule) v.bytes v.schedule (holds_put files a.schedule v.bytes) v.spells within;
        printed = subst (HasWhole out out') line printed;
      },
    )

-- ---- status 1

rejects : (a : AuditWords) (trace : List TraceEvent) (report : ReadReport) (v : Verdict) (outcome : Outcome) → IsJudged a trace report v outcome
    → status outcome ≡ 1 → (reason : Reason) × (v ≡ Rejected reason) × (outcome ≡ says (answer.Rejected reason))
rejects a trace report (Accepted schedule evaluated steps) outcome h one = absurd (let e = ap status (sym h.2) ∙ one in cc)
rejects a trace report (Rejected reason) outcome h one = (reason, refl, h)

pub has_reason : (words : List (List ℕ)) (reading : Option ℕ) (files : Files) (outcome : Outcome) (read new : ShelfSeen) (out out' : SinkTold)
    → AskAudit words → status outcome ≡ 1 → IsOutcome words reading files outcome
    → read.told.files ≡ Some files → new ≡ with_puts outcome.puts read → HasWhole out out' (line_of outcome.answer)
    → (new.told.files ≡ Some files) × ((reason : Reason) × HasReason words files reason × HasWhole out out' (rejection_line reason))
has_reason words reading files outcome read new out out' asked one h told put printed =
    let a = asked.0 in
    let j = judged_of files a outcome (λ e. let f = sym e ∙ one in cc) (of_command words reading files outcome (an_audit a) asked.1 h) in
    let v = rejects a j.trace j.report (audited j.program j.start j.trace j.report) outcome j.judged one in
    let stays : new.told.files ≡ Some files
    = ap (λ (s : ShelfSeen). s.told.files) put ∙ ap (λ (o : Outcome). (with_puts o.puts read).told.files) v.2 ∙ told in (
      stays,
      (
        v.0,
        record { asked = a; asks = asked.1; program = j.program; start = j.start; trace = j.trace; report = j.report; spelled = j.spelled; rejects = v.1 },
        subst (λ (o : Outcome). HasWhole out out' (line_of o.answer)) v.2 printed,
      ),
    )
