use Rattle.std.proofs.Common.{◌≡◌, List, map}
use Rattle.script_tree.specs.declared.operation.Object.{Object}
use Rattle.period.specs.declared.report.LogEntry.{LogEntry}
use Rattle.trace_and_report.specs.Draft.{spelled_log}
use Rattle.trace_and_report.specs.Grouped.{entries_in}
use Rattle.trace_and_report.specs.Widths.{Each}
use Rattle.trace_and_report.specs.Written.{HasSpellings}
use Rattle.trace_and_report.proofs.Writings.{AreUnderWay}
use Rattle.trace_and_report.proofs.writing.write_logs.Given as goal

abbrev pub invariant-loop-object : goal.invariant-loop-object
invariant-loop-object l =
    (gs : List (Object × List LogEntry)) → entries_in l.fn.logs ≡ map spelled_log gs → Each HasSpellings gs
    → AreUnderWay gs l.object-iterator l.fn.out.items l.out.items
