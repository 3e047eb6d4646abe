-- What a report's file is.
use Rattle.std.specs.Prelude.{ℕ, List, Result, Ok, Err}
use Rattle.period.specs.declared.report.Report.{Report}
use Rattle.report_format.specs.Reports.{report_format, records_of}
use Rattle.wire.specs.Files.{Spells, IsFault}
use Rattle.command_inputs.specs.Inputs.{Input}
use Rattle.command_inputs.specs.declared.role.Role.TheVariants as role

-- The bytes spell a report, or their first bad record begins at this place: with both an audit
-- goes on.
abbrev pub SpellsReport : List ℕ → Result Report ℕ → Type 0
SpellsReport bytes (Ok report) = Spells report_format bytes (records_of report)
SpellsReport bytes (Err at) = IsFault report_format bytes at

-- a report, in at most so many bytes
abbrev pub report_input : ℕ → Input (Result Report ℕ)
report_input most = record {
  role = role.Report;
  most = most;
  spells = λ bytes report. SpellsReport bytes report;
  has_fault = λ bytes fault. ⊥;
}
