-- Records of a payload: none stands where its tag is missed, and a payload is one of them at most.
use Rattle.std.proofs.Common.{◌≡◌, ◌≢◌, ℕ, ◌+◌, List, Result, Err, [], ◌∷◌, length, arith}
use Rattle.std.specs.Prelude.{IsErrAnd}
use Rattle.basis.specs.declared.or_memory.OrMemory.{OrMemory}
use Rattle.basis.specs.declared.or_memory.OrMemory.TheVariants.{Memory, Other}
use Rattle.wire.specs.declared.fault.Unreadable.{Unreadable}
use Rattle.wire.specs.Spellings.{IsFieldAt, NoneIsAt, HasOneSpelling, byte_field, TakesPart}
use Rattle.wire.specs.Files.{payload_field, TakesPayload, SpellsNone, IsExact}
use Rattle.wire.proofs.FileLaws.{file_is_exact}
use Rattle.wire.proofs.FileSteps.{one_payload, no_payload, not_whole}
use Rattle.wire.proofs.Spelled.{first_part}
use Rattle.report_format.specs.ReportLaws.{record_one}
use Rattle.report_format.specs.Reports.{count_field, log_field, group_field, any_record_field, report_format}
use Rattle.report_format.specs.declared.format.ReportRecord.{ReportRecord}
use Rattle.report_format.specs.declared.format.ReportRecord.TheVariants as it

pub no_tag : (bytes : List ℕ) (at : ℕ) → NoneIsAt byte_field bytes at → NoneIsAt any_record_field bytes at
no_tag bytes at none (it.Count c) next p = none 1 (at + 1) (omega arith, first_part bytes (1 ∷ []) (count_field.spelling c) at next p.1)
no_tag bytes at none (it.Log l) next p = none 2 (at + 1) (omega arith, first_part bytes (2 ∷ []) (log_field.spelling l) at next p.1)
no_tag bytes at none (it.Group g) next p = none 3 (at + 1) (omega arith, first_part bytes (3 ∷ []) (group_field.spelling g) at next p.1)

-- behind any records, no two payloads are alike
one_behind : (before : List ReportRecord) → HasOneSpelling (payload_field report_format before)
one_behind before x y r s p q e = record_one x y r s p.0 q.0 e

pub report_is_exact : IsExact report_format
report_is_exact = file_is_exact report_format (one_payload report_format one_behind)

-- The fault of a record is one of the payload.
pub no_record : (before : List ReportRecord) (payload : List ℕ) (fault : OrMemory Unreadable)
    (r : Result ReportRecord (OrMemory Unreadable))
    → TakesPart {A = ReportRecord} {X = ReportRecord} (λ x. x) any_record_field payload 0 (Err fault)
    → IsErrAnd r (λ e. e ≡ fault) → TakesPayload report_format before payload r
no_record before payload fault r missed is = no_payload report_format before payload fault r (go fault missed) is
  where
    go : (f : OrMemory Unreadable) → TakesPart {A = ReportRecord} {X = ReportRecord}
        (λ x. x) any_record_field payload 0 (Err f)
        → TakesPart {A = ReportRecord} {X = ReportRecord} (λ x. x) (payload_field report_format before) payload 0
        (Err f)
    go Memory m = tt
    go (Other e) m = λ x next p. m x next (p.0.0, p.1)

-- where a record ends before the payload does, nothing is the whole payload
pub not_whole_record : (before : List ReportRecord) (payload : List ℕ) (x : ReportRecord) (next : ℕ)
    → IsFieldAt any_record_field payload 0 x next → next ≢ length payload → SpellsNone report_format before payload
not_whole_record before payload x next here more y p = not_whole any_record_field record_one payload x next here more y (p.0.0, p.1)
