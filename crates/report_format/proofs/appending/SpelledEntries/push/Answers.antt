use Rattle.std.proofs.Common.{◌≡◌, ◌∙◌, ℕ, ◌+◌, List, [], ◌∷◌, ◌++◌, length, ap, sym, arith}
use Rattle.std.proofs.lemmas.List.{append-nil, length-append}
use Rattle.period.specs.declared.report.LogEntry.{LogEntry}
use Rattle.report_format.specs.Parts.{all_spelled}
use Rattle.report_format.specs.Reports.{entry_field}
use Rattle.report_format.specs.ReportLaws.{entry_one}
use Rattle.report_format.specs.RowLaws.{all_spelled-append}
use Rattle.report_format.specs.Spelled.{Spelled, spelled}
use Rattle.report_format.proofs.appending.SpelledEntries.push.Goals as goal

-- one entry more
spelled_more : (entries : List LogEntry) (entry : LogEntry) (old new : Spelled) → old ≡ spelled entries
    → new.count ≡ old.count + 1 → new.bytes ≡ old.bytes ++ entry_field.spelling entry
    → new ≡ spelled (entries ++ entry ∷ [])
spelled_more entries entry old new was count bytes =
    let last : List ℕ = entry_field.spelling entry in
    let so_far : old.bytes ≡ all_spelled entry_field entries = ap (λ (s : Spelled). s.bytes) was in
    let more : all_spelled entry_field (entries ++ entry ∷ []) ≡ all_spelled entry_field entries ++ last = all_spelled-append entry_field entry_one entries (entry ∷ []) ∙ ap (λ (s : List ℕ). all_spelled entry_field entries ++ s) (append-nil last) in
    let all : new.bytes ≡ all_spelled entry_field (entries ++ entry ∷ []) = bytes ∙ ap (λ (s : List ℕ). s ++ last) so_far ∙ sym more in
    let counted : new.count ≡ length (entries ++ entry ∷ []) = omega (arith, ap (λ (s : Spelled). s.count) was, length-append entries (entry ∷ [])) in
    λ i. record { count = counted i; bytes = all i }

pub returns : goal.returns
returns c = λ entries was.
    let old : Spelled = record { count = c.self.inside.count; bytes = c.self.inside.bytes.items } in
    let new : Spelled = record { count = c.in-Some.count; bytes = c.write.new.out.items } in
    spelled_more entries c.args.entry.now old new (c.self.view_is ∙ was) (omega (arith, c.in-Some.ensures)) c.in_ok-write.ensures
