-- The files of a history, from what its journal gives.
use Rattle.std.proofs.Common.{◌∙◌, ◌≤◌, ◌<◌, List, length, Some, None, ap, subst, arith}
use Rattle.wire.specs.declared.limits.TheConstants.{MOST_FILE_BYTES}
use Rattle.report_format.proofs.ReadAgain.{read_again}
use Rattle.history.specs.Names.{names}
use Rattle.history.specs.ReportOf.{report_in, report_of}
use Rattle.history.specs.TraceOf.{trace_of}
use Rattle.history.specs.declared.happening.Happening.{Happening}
use Rattle.trace_and_report.specs.Recorded.{AreFilesOf, HasTooLong, IsTraceFile, IsReportFile}
use Rattle.trace_and_report.specs.Written.{AreFiles, TellsTooLong}
use Rattle.trace_and_report.specs.declared.recorded.Recorded.{Recorded}
use Rattle.trace_and_report.specs.declared.recorded.TooLong.{TooLong}
use Rattle.trace_and_report.specs.declared.recorded.TooLong.TheVariants as past
use Rattle.trace_and_report.proofs.TraceFollows.{trace_read_again}
use Rattle.trace_and_report.proofs.TraceLimits.{arrivals_counted, requests_counted}

module _ (history : List Happening) (recorded : Recorded) (files : AreFiles (names history) recorded) where
  trace_file : length recorded.trace.items ≤ MOST_FILE_BYTES → IsTraceFile history recorded.trace.items
  unfolding trace_of
  trace_file short = record {
    within = (files.trace, short);
    read_again = λ few. trace_read_again (names history) recorded.trace.items
        (omega (arith, few, requests_counted history)) files.spellings (files.trace, short);
  }

  report_file : length recorded.report.items ≤ MOST_FILE_BYTES → IsReportFile history recorded.report.items
  unfolding report_of
  report_file short = record {
    within = (files.report, short);
    read_again = read_again (report_in (names history)) recorded.report.items files.spellable (files.report, short);
  }

  pub are_files : TellsTooLong recorded None → AreFilesOf history recorded
  unfolding trace_of report_of
  are_files within = record {
    trace = trace_file within.0;
    report = report_file within.1;
    requests = files.requests ∙ arrivals_counted history;
    groups = files.groups;
  }

  pub too_long : (which : TooLong) → TellsTooLong recorded (Some which) → HasTooLong history which
  unfolding trace_of report_of
  too_long past.Trace long = subst (λ bytes. MOST_FILE_BYTES < length bytes) files.trace long
  too_long past.Report (short, long) =
      ((λ over. absurd (omega (arith, short, over, ap length files.trace))), subst (λ bytes. MOST_FILE_BYTES < length bytes) files.report long)
