-- Records by their kinds: those that stand in their order are the counts, then the logs, then the groups.
use Rattle.std.proofs.Common.{◌≡◌, ℕ, ◌≤◌, List, [], ◌∷◌, ◌++◌, map, ap, sym, refl, append_assoc, ◌∙◌, arith}
use Rattle.std.proofs.lemmas.List.{append-nil}
use Rattle.wire.specs.Files.{MayFollow}
use Rattle.period.specs.declared.report.Count.{Count}
use Rattle.period.specs.declared.report.Log.{Log}
use Rattle.period.specs.declared.report.Report.{Report}
use Rattle.report_format.specs.Reports.{report_format, rank, last_rank, last_rank_from, records_of}
use Rattle.report_format.specs.RecordKinds.{counts_in, logs_in, groups_in, Adds}
use Rattle.report_format.specs.declared.format.ReportRecord.{ReportRecord}
use Rattle.report_format.specs.declared.format.ReportRecord.TheVariants as it

-- ---- one record before others

counts_behind : (r : ReportRecord) (rs : List ReportRecord) → counts_in (r ∷ rs) ≡ counts_in (r ∷ []) ++ counts_in rs
counts_behind (it.Count c) rs = refl
counts_behind (it.Log l) rs = refl
counts_behind (it.Group g) rs = refl

logs_behind : (r : ReportRecord) (rs : List ReportRecord) → logs_in (r ∷ rs) ≡ logs_in (r ∷ []) ++ logs_in rs
logs_behind (it.Count c) rs = refl
logs_behind (it.Log l) rs = refl
logs_behind (it.Group g) rs = refl

groups_behind : (r : ReportRecord) (rs : List ReportRecord) → groups_in (r ∷ rs) ≡ groups_in (r ∷ []) ++ groups_in rs
groups_behind (it.Count c) rs = refl
groups_behind (it.Log l) rs = refl
groups_behind (it.Group g) rs = refl

last_from : (n : ℕ) (rs : List ReportRecord) (r : ReportRecord) → last_rank_from n (rs ++ r ∷ []) ≡ rank r
last_from n [] r = refl
last_from n (x ∷ rs) r = last_from (rank x) rs r

pub last_is : (rs : List ReportRecord) (r : ReportRecord) → last_rank (rs ++ r ∷ []) ≡ rank r
last_is rs r = last_from 1 rs r

-- ---- in their order

no_counts : (before rs : List ReportRecord) → MayFollow report_format before rs → 2 ≤ last_rank before → counts_in rs ≡ []
no_counts before [] p late = refl
no_counts before (it.Count c ∷ rs) p late = absurd (omega (arith, p.0.0.1, late))
no_counts before (it.Log l ∷ rs) p late = no_counts (before ++ it.Log l ∷ []) rs p.1 (omega (arith, last_is before (it.Log l)))
no_counts before (it.Group g ∷ rs) p late = no_counts (before ++ it.Group g ∷ []) rs p.1 (omega (arith, last_is before (it.Group g)))

no_logs : (before rs : List ReportRecord) → MayFollow report_format before rs → 3 ≤ last_rank before → logs_in rs ≡ []
no_logs before [] p late = refl
no_logs before (it.Count c ∷ rs) p late = absurd (omega (arith, p.0.0.1, late))
no_logs before (it.Log l ∷ rs) p late = absurd (omega (arith, p.0.0.1, late))
no_logs before (it.Group g ∷ rs) p late = no_logs (before ++ it.Group g ∷ []) rs p.1 (omega (arith, last_is before (it.Group g)))

abbrev pub of_kinds : List Count → List Log → List (List ℕ) → List ReportRecord
of_kinds counts logs groups = map it.Count counts ++ (map it.Log logs ++ map it.Group groups)

pub by_kinds : (before rs : List ReportRecord) → MayFollow report_format before rs → of_kinds (counts_in rs) (logs_in rs) (groups_in rs) ≡ rs
by_kinds before [] p = refl
by_kinds before (it.Count c ∷ rs) p = ap (λ xs. it.Count c ∷ xs) (by_kinds (before ++ it.Count c ∷ []) rs p.1)
by_kinds before (it.Log l ∷ rs) p =
    let none = no_counts (before ++ it.Log l ∷ []) rs p.1 (omega (arith, last_is before (it.Log l))) in
    let rest = by_kinds (before ++ it.Log l ∷ []) rs p.1 in
    ap (λ cs. of_kinds cs (l ∷ logs_in rs) (groups_in rs)) none
    ∙ ap (λ xs. it.Log l ∷ xs) (ap (λ cs. of_kinds cs (logs_in rs) (groups_in rs)) (sym none) ∙ rest)
by_kinds before (it.Group g ∷ rs) p =
    let no_count = no_counts (before ++ it.Group g ∷ []) rs p.1 (omega (arith, last_is before (it.Group g))) in
    let no_log = no_logs (before ++ it.Group g ∷ []) rs p.1 (omega (arith, last_is before (it.Group g))) in
    let rest = by_kinds (before ++ it.Group g ∷ []) rs p.1 in
    ap (λ cs. of_kinds cs (logs_in rs) (g ∷ groups_in rs)) no_count ∙ ap (λ ls. of_kinds [] ls (g ∷ groups_in rs)) no_log
    ∙ ap (λ xs. it.Group g ∷ xs) (ap (λ ls. of_kinds [] ls (groups_in rs)) (sym no_log)
    ∙ ap (λ cs. of_kinds cs (logs_in rs) (groups_in rs)) (sym no_count) ∙ rest)

-- ---- a report that is made from them

-- with these that are left it comes to the records
abbrev pub IsHalf : Report → (left rs : List ReportRecord) → Type 0
IsHalf report left rs = (report.counts ++ counts_in left ≡ counts_in rs) × (report.logs ++ logs_in left ≡ logs_in rs)
    × (report.groups ++ groups_in left ≡ groups_in rs)

pub one_more : (old new : Report) (r : ReportRecord) (left rs : List ReportRecord) → IsHalf old (r ∷ left) rs → Adds r old new → IsHalf new left rs
one_more old new r left rs half more = (
  ap (λ xs. xs ++ counts_in left) more.counts ∙ append_assoc old.counts (counts_in (r ∷ [])) (counts_in left)
      ∙ ap (λ xs. old.counts ++ xs) (sym (counts_behind r left)) ∙ half.0,
  ap (λ xs. xs ++ logs_in left) more.logs ∙ append_assoc old.logs (logs_in (r ∷ [])) (logs_in left)
      ∙ ap (λ xs. old.logs ++ xs) (sym (logs_behind r left)) ∙ half.1,
  ap (λ xs. xs ++ groups_in left) more.groups ∙ append_assoc old.groups (groups_in (r ∷ [])) (groups_in left)
      ∙ ap (λ xs. old.groups ++ xs) (sym (groups_behind r left)) ∙ half.2,
)

pub all_kinds : (report : Report) (rs : List ReportRecord) → IsHalf report [] rs → MayFollow report_format [] rs → records_of report ≡ rs
all_kinds report rs half follow =
    let cs : report.counts ≡ counts_in rs = sym (append-nil report.counts) ∙ half.0 in
    let ls : report.logs ≡ logs_in rs = sym (append-nil report.logs) ∙ half.1 in
    let gs : report.groups ≡ groups_in rs = sym (append-nil report.groups) ∙ half.2 in
    ap (λ xs. of_kinds xs report.logs report.groups) cs ∙ ap (λ xs. of_kinds (counts_in rs) xs report.groups) ls
    ∙ ap (λ xs. of_kinds (counts_in rs) (logs_in rs) xs) gs ∙ by_kinds [] rs follow
