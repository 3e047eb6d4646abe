-- Reports: no two counts, entries, logs, groups or records are spelled alike, and each has a byte.
use Rattle.std.proofs.Common.{ℕ, List, ◌++◌, ap}
use Rattle.script_tree.specs.declared.operation.Act.{Act}
use Rattle.script_tree.specs.declared.operation.Choice.{Choice}
use Rattle.script_tree.specs.declared.operation.Object.{Object}
use Rattle.wire.specs.Spellings.{HasOneSpelling, choice_field}
use Rattle.wire.proofs.OneSpelling.{choice_one}
use Rattle.period.specs.declared.report.Count.{Count}
use Rattle.period.specs.declared.report.Log.{Log}
use Rattle.period.specs.declared.report.LogEntry.{LogEntry}
use Rattle.report_format.specs.Parts.{both, list_field}
use Rattle.report_format.specs.Operations.{u32_field, act_field, object_field}
use Rattle.report_format.specs.Reports.{count_field, entry_field, log_field, group_field, any_record_field}
use Rattle.report_format.specs.PairLaws.{both_one}
use Rattle.report_format.specs.RowLaws.{list_one}
use Rattle.report_format.specs.SimpleLaws.{u32_one, rest_is}
use Rattle.report_format.specs.OperationLaws.{act_one, object_one}
use Rattle.report_format.specs.declared.format.ReportRecord.TheVariants as it

-- No two counts are spelled alike.
pub count_one : HasOneSpelling count_field
count_one x y r s p q e =
    let same = both_one u32_field u32_field u32_one u32_one (x.rid, x.operations) (y.rid, y.operations) r s p q e in
    (ap (λ (z : ℕ × ℕ). record { rid = z.0; operations = z.1 }) same.0, same.1)

-- No two entries are spelled alike.
pub entry_one : HasOneSpelling entry_field
entry_one x y r s p q e =
    let ends = both_one act_field choice_field act_one choice_one in
    let parts = both_one u32_field (both u32_field (both act_field choice_field)) u32_one (both_one u32_field (both act_field choice_field) u32_one ends) in
    let same = parts (x.rid, (x.number, (x.act, x.choice))) (y.rid, (y.number, (y.act, y.choice))) r s p q e in
    (ap (λ (z : ℕ × (ℕ × (Act × Choice))). record { rid = z.0; number = z.1.0; act = z.1.1.0; choice = z.1.1.1 }) same.0, same.1)

-- No two logs are spelled alike.
pub log_one : HasOneSpelling log_field
log_one x y r s p q e =
    let same = both_one object_field (list_field entry_field) object_one (list_one entry_field entry_one) (x.object, x.entries) (y.object, y.entries) r s p q e in
    (ap (λ (z : Object × List LogEntry). record { object = z.0; entries = z.1 }) same.0, same.1)

-- No two groups are spelled alike.
pub group_one : HasOneSpelling group_field
group_one x y r s p q e = list_one u32_field u32_one x y r s p.1 q.1 e

-- No two records are spelled alike.
pub record_one : HasOneSpelling any_record_field
record_one (it.Count c) (it.Count c') r s p q e =
    let same = count_one c c' r s p q (rest_is 1 1 (count_field.spelling c ++ r) (count_field.spelling c' ++ s) e) in
    (ap (λ (z : Count). it.Count z) same.0, same.1)
record_one (it.Count c) (it.Log l') r s p q e = absurd (cc)
record_one (it.Count c) (it.Group g') r s p q e = absurd (cc)
record_one (it.Log l) (it.Count c') r s p q e = absurd (cc)
record_one (it.Log l) (it.Log l') r s p q e =
    let same = log_one l l' r s p q (rest_is 2 2 (log_field.spelling l ++ r) (log_field.spelling l' ++ s) e) in
    (ap (λ (z : Log). it.Log z) same.0, same.1)
record_one (it.Log l) (it.Group g') r s p q e = absurd (cc)
record_one (it.Group g) (it.Count c') r s p q e = absurd (cc)
record_one (it.Group g) (it.Log l') r s p q e = absurd (cc)
record_one (it.Group g) (it.Group g') r s p q e =
    let same = group_one g g' r s p q (rest_is 3 3 (group_field.spelling g ++ r) (group_field.spelling g' ++ s) e) in
    (ap (λ (z : List ℕ). it.Group z) same.0, same.1)
