-- How many bytes records have.
use Rattle.std.proofs.Common.{◌≡◌, ◌∙◌, ℕ, ◌+◌, ◌*◌, ◌≤◌, List, [], ◌∷◌, ◌++◌, length, map, refl, ap, arith}
use Rattle.std.proofs.lemmas.List.{length-append}
use Rattle.std.specs.Int.{w32, to_be_bytes}
use Rattle.script_tree.specs.declared.operation.Act.{Act}
use Rattle.script_tree.specs.declared.operation.Act.TheVariants.{Read, Write, Get, Put, Remove, Transact, Now, Roll}
use Rattle.script_tree.specs.declared.operation.Choice.{Choice}
use Rattle.script_tree.specs.declared.operation.Choice.TheVariants.{Nothing, Number}
use Rattle.period.specs.declared.schedule.Moment.{Moment}
use Rattle.period.specs.declared.schedule.Moment.TheVariants.{Arrive, Act as Acts, Depart}
use Rattle.wire.specs.Files.{Format, file_spelling, record_spelling, records_spelling}
use Rattle.wire.specs.Spellings.{choice_spelling}
use Rattle.schedule_format.specs.Moments.{schedule_format}
use Rattle.period.specs.declared.report.Count.{Count}
use Rattle.period.specs.declared.report.Log.{Log}
use Rattle.period.specs.declared.report.LogEntry.{LogEntry}
use Rattle.period.specs.declared.report.Report.{Report}
use Rattle.report_format.specs.Operations.{act_spelling, object_spelling, u32_field}
use Rattle.report_format.specs.Parts.{all_spelled}
use Rattle.report_format.specs.Reports.{entry_field, report_format, records_of}
use Rattle.report_format.specs.declared.format.ReportRecord.{ReportRecord}
use Rattle.report_format.specs.declared.format.ReportRecord.TheVariants as it
use Rattle.audit_completeness.proofs.Totals.{total, total_append, total_map, total_le, total_same}

-- ---- files of records

record_bytes : {A : Type 0} → Format A → A → ℕ
record_bytes format x = length (record_spelling format x)

records_are : {A : Type 0} (format : Format A) (xs : List A) → length (records_spelling format xs) ≡ total (record_bytes format) xs
unfolding total record_bytes
records_are format [] = refl
records_are format (x ∷ xs) = length-append (record_spelling format x) (records_spelling format xs)
    ∙ ap (λ n. record_bytes format x + n) (records_are format xs)

file_is : {A : Type 0} (format : Format A) (xs : List A) → length (file_spelling format xs) ≡ length format.magic + total (record_bytes format) xs
file_is format xs = length-append format.magic (records_spelling format xs) ∙ ap (λ n. length format.magic + n) (records_are format xs)

-- ---- schedules

-- the bytes of an operation with this choice
unfoldable pub act_bytes : Choice → ℕ
act_bytes Nothing = 10
act_bytes (Number n) = 18

-- the bytes of a moment
unfoldable pub moment_bytes : Moment → ℕ
moment_bytes (Arrive rid) = 9
moment_bytes (Acts rid choice) = act_bytes choice
moment_bytes (Depart rid) = 9

moment_is : (m : Moment) → record_bytes schedule_format m ≡ moment_bytes m
unfolding record_bytes moment_bytes act_bytes
moment_is (Arrive rid) = refl
moment_is (Acts rid Nothing) = refl
moment_is (Acts rid (Number n)) = refl
moment_is (Depart rid) = refl

pub schedule_is : (ms : List Moment) → length (file_spelling schedule_format ms) ≡ 8 + total moment_bytes ms
schedule_is ms = file_is schedule_format ms ∙ ap (λ n. 8 + n) (total_same (record_bytes schedule_format) moment_bytes moment_is ms)

-- ---- reports

-- the least bytes of an entry: as many as its moment's
unfoldable pub entry_bytes : LogEntry → ℕ
entry_bytes e = act_bytes e.choice

act_least : (a : Act) → 1 ≤ length (act_spelling a)
act_least Read = omega arith
act_least (Write value) = omega arith
act_least (Get key) = omega arith
act_least (Put key value) = omega arith
act_least (Remove key) = omega arith
act_least (Transact statements) = omega arith
act_least Now = omega arith
act_least (Roll bound) = omega arith

choice_least : (c : Choice) → act_bytes c ≡ 9 + length (choice_spelling c)
unfolding act_bytes
choice_least Nothing = refl
choice_least (Number n) = refl

entry_least : (e : LogEntry) → entry_bytes e ≤ length (entry_field.spelling e)
unfolding entry_bytes
entry_least e =
    let parts = length-append (act_spelling e.act) (choice_spelling e.choice) in
    let act = act_least e.act in
    let choice = choice_least e.choice in
    omega (arith, parts, act, choice)

entries_least : (es : List LogEntry) → total entry_bytes es ≤ length (all_spelled entry_field es)
unfolding total
entries_least [] = omega arith
entries_least (e ∷ es) =
    let parts = length-append (entry_field.spelling e) (all_spelled entry_field es) in
    let first = entry_least e in
    let rest = entries_least es in
    omega (arith, parts, first, rest)

members_are : (rids : List ℕ) → length (all_spelled u32_field rids) ≡ 4 * length rids
members_are [] = refl
members_are (r ∷ rids) = let rest = members_are rids in omega (arith, rest)

-- the least bytes of a record
least : ReportRecord → ℕ
least (it.Count c) = 13
least (it.Log l) = total entry_bytes l.entries
least (it.Group g) = 4 * length g

record_least : (r : ReportRecord) → least r ≤ record_bytes report_format r
unfolding least record_bytes
record_least (it.Count c) = omega arith
record_least (it.Log l) =
    let parts = length-append (object_spelling l.object) (to_be_bytes w32 (length l.entries) ++ all_spelled entry_field l.entries) in
    let entries = entries_least l.entries in
    omega (arith, parts, entries)
record_least (it.Group g) = let members = members_are g in omega (arith, members)

-- the entries of all logs
unfoldable pub log_bytes : List Log → ℕ
log_bytes logs = total (λ l. total entry_bytes l.entries) logs

-- how many members all groups have
unfoldable pub member_count : List (List ℕ) → ℕ
member_count groups = total (λ g. length g) groups

four_times : (gs : List (List ℕ)) → total (λ g. 4 * length g) gs ≡ 4 * total (λ g. length g) gs
unfolding total
four_times [] = refl
four_times (g ∷ gs) = let rest = four_times gs in omega (arith, rest)

thirteen : (cs : List Count) → total (λ c. least (it.Count c)) cs ≡ 13 * length cs
unfolding total least
thirteen [] = refl
thirteen (c ∷ cs) = let rest = thirteen cs in omega (arith, rest)

pub report_least : (r : Report) → 8 + (13 * length r.counts + (log_bytes r.logs + 4 * member_count r.groups)) ≤ length
    (file_spelling report_format (records_of r))
unfolding log_bytes member_count least
report_least r =
    let file = file_is report_format (records_of r) in
    let records = total_le least (record_bytes report_format) record_least (records_of r) in
    let first = total_append least (map it.Count r.counts) (map it.Log r.logs ++ map it.Group r.groups) in
    let second = total_append least (map it.Log r.logs) (map it.Group r.groups) in
    let counts = total_map least it.Count r.counts ∙ thirteen r.counts in
    let logs = total_map least it.Log r.logs in
    let groups = total_map least it.Group r.groups ∙ four_times r.groups in
    omega (arith, file, records, first, second, counts, logs, groups)
