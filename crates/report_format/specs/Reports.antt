-- How a report is spelled.
use Rattle.std.specs.Prelude.{ℕ, ◌≤◌, List, [], ◌∷◌, ◌++◌, map, codes, Result}
use Rattle.basis.specs.UnlessMemory.{UnlessMemory}
use Rattle.wire.specs.Spellings.{Field, Reading, choice_field}
use Rattle.wire.specs.Files.{Format, Spells, Encodes, IsFault, IsFileWithin}
use Rattle.wire.specs.declared.fault.PastLimit.{PastLimit}
use Rattle.basis.specs.declared.or_memory.OrMemory.{OrMemory}
use Rattle.std.specs.declared.vec.Vec.{Vec}
use Rattle.wire.specs.declared.limits.TheConstants.{MOST_FILE_BYTES}
use Rattle.period.specs.Groups.{IsSome}
use Rattle.period.specs.declared.report.Count.{Count}
use Rattle.period.specs.declared.report.Log.{Log}
use Rattle.period.specs.declared.report.LogEntry.{LogEntry}
use Rattle.period.specs.declared.report.Report.{Report}
use Rattle.report_format.specs.Parts.{both, seen_as, list_field, AllAllowed}
use Rattle.report_format.specs.Operations.{u32_field, act_field, object_field}
use Rattle.report_format.specs.declared.format.ReportRecord.{ReportRecord}
use Rattle.report_format.specs.declared.format.ReportRecord.TheVariants as it

-- a count: an id, and how many operations it has
abbrev pub count_field : Field Count
count_field = seen_as (λ c. (c.rid, c.operations)) (both u32_field u32_field)

-- an entry: an id, the operation's number, its act and its choice
abbrev pub entry_field : Field LogEntry
entry_field = seen_as (λ e. (e.rid, (e.number, (e.act, e.choice)))) (both u32_field (both u32_field (both act_field choice_field)))

-- a log: its object and its entries
abbrev pub log_field : Field Log
log_field = seen_as (λ l. (l.object, l.entries)) (both object_field (list_field entry_field))

-- the ids of a group, at least one
abbrev pub group_field : Field (List ℕ)
group_field = record {
  allows = λ rids. IsSome rids × (list_field u32_field).allows rids;
  spelling = λ rids. (list_field u32_field).spelling rids;
}

-- a tag, and the count, the log or the group
abbrev pub record_payload : ReportRecord → List ℕ
record_payload (it.Count c) = 1 ∷ count_field.spelling c
record_payload (it.Log l) = 2 ∷ log_field.spelling l
record_payload (it.Group g) = 3 ∷ group_field.spelling g

-- What stands behind the record's tag may stand there.
abbrev pub IsRecord : ReportRecord → Type 0
IsRecord (it.Count c) = count_field.allows c
IsRecord (it.Log l) = log_field.allows l
IsRecord (it.Group g) = group_field.allows g

-- a record of any kind
abbrev pub any_record_field : Field ReportRecord
any_record_field = record { allows = λ r. IsRecord r; spelling = λ r. record_payload r }

-- ---- the order of the records: counts, before logs, before groups

-- the rank of a record's kind
abbrev pub rank : ReportRecord → ℕ
rank (it.Count c) = 1
rank (it.Log l) = 2
rank (it.Group g) = 3

-- the rank of the last of them, or this one where there are none
abbrev pub last_rank_from : ℕ → List ReportRecord → ℕ
last_rank_from n [] = n
last_rank_from n (r ∷ rs) = last_rank_from (rank r) rs

-- the rank of the last of them
abbrev pub last_rank : List ReportRecord → ℕ
last_rank rs = last_rank_from 1 rs

-- records in the order of their ranks
abbrev pub report_format : Format ReportRecord
report_format = record {
  magic = codes "SSCORPT1";
  payload = λ r. record_payload r;
  allows = λ before r. IsRecord r × (last_rank before ≤ rank r);
}

-- ---- the whole

-- all records of a report, in their order
abbrev pub records_of : Report → List ReportRecord
records_of report = map it.Count report.counts ++ (map it.Log report.logs ++ map it.Group report.groups)

-- The file spells this report, or is at fault there, unless memory ran out.
abbrev pub DecodesReport : List ℕ → Reading Report → Type 0
DecodesReport bytes result =
    UnlessMemory (λ report. Spells report_format bytes (records_of report)) (λ fault. IsFault report_format bytes fault.at) result

-- The file of this report, or the first of its records that would end behind the limit, unless memory ran out.
abbrev pub EncodesReport : {A : Type 0} → Report → Result (Vec ℕ A) (OrMemory PastLimit) → Type 0
EncodesReport report result = Encodes (λ out. out.items) report_format MOST_FILE_BYTES (records_of report) result

-- Its numbers have their widths, and its values are within the limits.
pub record IsSpellable (report : Report) : Type 0 where
  pub counts : AllAllowed count_field report.counts
  pub logs : AllAllowed log_field report.logs
  pub groups : AllAllowed group_field report.groups

-- Bytes within the limit of a file that spell a report are read as it.
abbrev pub IsReadAgain : Type 0
IsReadAgain =
    (report : Report) (bytes : List ℕ)
    → IsSpellable report → IsFileWithin report_format MOST_FILE_BYTES (records_of report) bytes → Spells report_format bytes (records_of report)
