-- How the file of what it holds is spelled.
use Rattle.std.specs.Prelude.{ℕ, List}
use Rattle.wire.specs.Files.{file_spelling}
use Rattle.trace_format.specs.Events.{trace_format}
use Rattle.report_format.specs.Reports.{report_format, records_of, IsSpellable}
use Rattle.benches.specs.declared.files.contents.Contents.{Contents}
use Rattle.benches.specs.declared.files.contents.Contents.TheVariants.{Trace, Report}

-- the bytes of its file
abbrev pub spelling : Contents → List ℕ
spelling (Trace trace) = file_spelling trace_format trace
spelling (Report report) = file_spelling report_format (records_of report)

-- What it holds has a file.
abbrev pub MayBeEncoded : Contents → Type 0
MayBeEncoded (Trace trace) = Unit {0}
MayBeEncoded (Report report) = IsSpellable report
