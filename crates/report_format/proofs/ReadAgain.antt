-- The records of a report that may be spelled stand in their order, so they are read again.
use Rattle.std.proofs.Common.{◌≡◌, ℕ, ◌<◌, ◌≤◌, ◌^◌, List, [], ◌∷◌, ◌++◌, map, length, ap, refl, arith}
use Rattle.std.proofs.lemmas.List.{length-append}
use Rattle.wire.specs.Files.{MayFollow, Spells, record_spelling, records_spelling}
use Rattle.wire.specs.Spellings.{bytes_spelling}
use Rattle.period.specs.declared.report.Count.{Count}
use Rattle.period.specs.declared.report.Log.{Log}
use Rattle.period.specs.declared.report.Report.{Report}
use Rattle.report_format.specs.Parts.{AllAllowed}
use Rattle.report_format.specs.Reports.{count_field, log_field, group_field, report_format, record_payload, rank, last_rank, records_of, IsRecord, IsReadAgain, IsSpellable}
use Rattle.report_format.specs.declared.format.ReportRecord.{ReportRecord}
use Rattle.report_format.specs.declared.format.ReportRecord.TheVariants as it
use Rattle.report_format.proofs.RecordOrder.{last_is}

-- each may be spelled, and none is of a lesser rank than the one before
InOrder : ℕ → List ReportRecord → Type 0
InOrder n [] = Unit {0}
InOrder n (r ∷ rs) = (n ≤ rank r) × IsRecord r × InOrder (rank r) rs

groups_follow : (n : ℕ) (gs : List (List ℕ)) → n ≤ 3 → AllAllowed group_field gs → InOrder n (map it.Group gs)
unfolding InOrder
groups_follow n [] late p = tt
groups_follow n (g ∷ gs) late p = (late, p.0, groups_follow 3 gs (omega arith) p.1)

logs_follow : (n : ℕ) (ls : List Log) (gs : List (List ℕ)) → n ≤ 2 → AllAllowed log_field ls
    → AllAllowed group_field gs → InOrder n (map it.Log ls ++ map it.Group gs)
unfolding InOrder
logs_follow n [] gs late p q = groups_follow n gs (omega (arith, late)) q
logs_follow n (l ∷ ls) gs late p q = (late, p.0, logs_follow 2 ls gs (omega arith) p.1 q)

counts_follow : (n : ℕ) (cs : List Count) (ls : List Log) (gs : List (List ℕ)) → n ≤ 1 → AllAllowed count_field cs
    → AllAllowed log_field ls → AllAllowed group_field gs
    → InOrder n (map it.Count cs ++ (map it.Log ls ++ map it.Group gs))
unfolding InOrder
counts_follow n [] ls gs late p q r = logs_follow n ls gs (omega (arith, late)) q r
counts_follow n (c ∷ cs) ls gs late p q r = (late, p.0, counts_follow 1 cs ls gs (omega arith) p.1 q r)

payload_len : (r : ReportRecord) → length (record_payload r) ≤ length (record_spelling report_format r)
payload_len r = omega (arith, length-append (bytes_spelling []) (record_payload r))

follow : (before rs : List ReportRecord) (n : ℕ) → last_rank before ≡ n → InOrder n rs
    → length (records_spelling report_format rs) < 2 ^ 32 → MayFollow report_format before rs
unfolding InOrder
follow before [] n last p short = tt
follow before (r ∷ rs) n last p short =
    let parts = length-append (record_spelling report_format r) (records_spelling report_format rs) in (
      ((p.1, omega (arith, last, p.0)), omega (arith, parts, payload_len r, short)),
      follow (before ++ r ∷ []) rs (rank r) (last_is before r) p.2 (omega (arith, parts, short)),
    )

pub read_again : IsReadAgain
read_again report bytes spellable file =
    let order = counts_follow 1 report.counts report.logs report.groups (omega arith) spellable.counts spellable.logs spellable.groups in
    let len = length-append report_format.magic (records_spelling report_format (records_of report)) in
    let same : length bytes ≡ length (report_format.magic ++ records_spelling report_format (records_of report)) = ap length file.0 in
    record { spelled = file.0; allowed = follow [] (records_of report) 1 refl order (omega (arith, len, same, file.1)) }

-- ---- what was read may be spelled

groups_allowed : (before : List ReportRecord) (gs : List (List ℕ)) → MayFollow report_format before (map it.Group gs) → AllAllowed group_field gs
groups_allowed before [] p = tt
groups_allowed before (g ∷ gs) p = (p.0.0.0, groups_allowed (before ++ it.Group g ∷ []) gs p.1)

logs_allowed : (before : List ReportRecord) (ls : List Log) (gs : List (List ℕ))
    → MayFollow report_format before (map it.Log ls ++ map it.Group gs)
    → AllAllowed log_field ls × AllAllowed group_field gs
logs_allowed before [] gs p = (tt, groups_allowed before gs p)
logs_allowed before (l ∷ ls) gs p =
    let rest = logs_allowed (before ++ it.Log l ∷ []) ls gs p.1 in
    ((p.0.0.0, rest.0), rest.1)

counts_allowed : (before : List ReportRecord) (cs : List Count) (ls : List Log) (gs : List (List ℕ))
    → MayFollow report_format before (map it.Count cs ++ (map it.Log ls ++ map it.Group gs))
    → AllAllowed count_field cs × (AllAllowed log_field ls × AllAllowed group_field gs)
counts_allowed before [] ls gs p = (tt, logs_allowed before ls gs p)
counts_allowed before (c ∷ cs) ls gs p =
    let rest = counts_allowed (before ++ it.Count c ∷ []) cs ls gs p.1 in
    ((p.0.0.0, rest.0), rest.1)

pub may_be_spelled : (report : Report) (bytes : List ℕ) → Spells report_format bytes (records_of report) → IsSpellable report
may_be_spelled report bytes spelled =
    let all = counts_allowed [] report.counts report.logs report.groups spelled.allowed in
    record { counts = all.0; logs = all.1.0; groups = all.1.1 }
