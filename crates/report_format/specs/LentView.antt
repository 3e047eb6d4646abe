-- A record that is lent, as definitions see it.
use Rattle.report_format.specs.Reports.{IsRecord}
use Rattle.report_format.specs.declared.encoding.Part.{Part}
use Rattle.report_format.specs.declared.encoding.Part.TheVariants as lent
use Rattle.report_format.specs.declared.format.ReportRecord.{ReportRecord}
use Rattle.report_format.specs.declared.format.ReportRecord.TheVariants as it

-- the record whose parts are lent
abbrev pub record_in : Part → ReportRecord
record_in (lent.Count count) = it.Count count.now
record_in (lent.Log log) = it.Log log.now
record_in (lent.Group group) = it.Group group.now

-- It is one that a report may have.
abbrev pub MayBeSpelled : Part → Type 0
MayBeSpelled part = IsRecord (record_in part)
