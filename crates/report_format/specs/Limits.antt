-- The values of a report that has a spelling.
use Rattle.std.specs.Prelude.{◌≡◌, ℕ, List, Some}
use Rattle.basis.specs.Lists.{nth}
use Rattle.script_tree.specs.ActLimits.{IsActWithinLimits}
use Rattle.period.specs.declared.report.Log.{Log}
use Rattle.period.specs.declared.report.LogEntry.{LogEntry}
use Rattle.period.specs.declared.report.Report.{Report}
use Rattle.wire.specs.Files.{Spells}
use Rattle.report_format.specs.Reports.{report_format, records_of}

-- The values of each entry are within the limits of a value.
abbrev pub HasValuesWithinLimits : Report → Type 0
HasValuesWithinLimits report =
    (i j : ℕ) (log : Log) (entry : LogEntry) → nth report.logs i ≡ Some log → nth log.entries j ≡ Some entry → IsActWithinLimits entry.act

-- So it is of a report that a file spells.
abbrev pub AreWithinLimits : Type 0
AreWithinLimits = (report : Report) (bytes : List ℕ) → Spells report_format bytes (records_of report) → HasValuesWithinLimits report
