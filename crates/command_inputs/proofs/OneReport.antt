-- Records are those of one report.
use Rattle.std.proofs.Common.{◌≡◌, ◌∙◌, ℕ, List, [], ◌∷◌, ◌++◌, map, refl, ap, sym}
use Rattle.period.specs.declared.report.Count.{Count}
use Rattle.period.specs.declared.report.Log.{Log}
use Rattle.period.specs.declared.report.Report.{Report}
use Rattle.report_format.specs.Reports.{records_of}
use Rattle.report_format.specs.RecordKinds.{counts_in, logs_in, groups_in}
use Rattle.report_format.specs.declared.format.ReportRecord.{ReportRecord}
use Rattle.report_format.specs.declared.format.ReportRecord.TheVariants as it

no_count : (gs : List (List ℕ)) → counts_in (map it.Group gs) ≡ []
no_count [] = refl
no_count (g ∷ gs) = no_count gs

no_log : (gs : List (List ℕ)) → logs_in (map it.Group gs) ≡ []
no_log [] = refl
no_log (g ∷ gs) = no_log gs

all_groups : (gs : List (List ℕ)) → groups_in (map it.Group gs) ≡ gs
all_groups [] = refl
all_groups (g ∷ gs) = ap (λ xs. g ∷ xs) (all_groups gs)

counts_behind : (ls : List Log) (gs : List (List ℕ)) → counts_in (map it.Log ls ++ map it.Group gs) ≡ []
counts_behind [] gs = no_count gs
counts_behind (l ∷ ls) gs = counts_behind ls gs

logs_behind : (ls : List Log) (gs : List (List ℕ)) → logs_in (map it.Log ls ++ map it.Group gs) ≡ ls
logs_behind [] gs = no_log gs
logs_behind (l ∷ ls) gs = ap (λ xs. l ∷ xs) (logs_behind ls gs)

groups_behind : (ls : List Log) (gs : List (List ℕ)) → groups_in (map it.Log ls ++ map it.Group gs) ≡ gs
groups_behind [] gs = all_groups gs
groups_behind (l ∷ ls) gs = groups_behind ls gs

all_counts : (cs : List Count) (rest : List ReportRecord) → counts_in rest ≡ [] → counts_in (map it.Count cs ++ rest) ≡ cs
all_counts [] rest none = none
all_counts (c ∷ cs) rest none = ap (λ xs. c ∷ xs) (all_counts cs rest none)

past_counts : (cs : List Count) (rest : List ReportRecord) → logs_in (map it.Count cs ++ rest) ≡ logs_in rest
past_counts [] rest = refl
past_counts (c ∷ cs) rest = past_counts cs rest

to_groups : (cs : List Count) (rest : List ReportRecord) → groups_in (map it.Count cs ++ rest) ≡ groups_in rest
to_groups [] rest = refl
to_groups (c ∷ cs) rest = to_groups cs rest

abbrev report_from : List ReportRecord → Report
report_from rs = record { counts = counts_in rs; logs = logs_in rs; groups = groups_in rs }

given_back : (r : Report) → report_from (records_of r) ≡ r
given_back r =
    let counts : counts_in (records_of r) ≡ r.counts = all_counts r.counts _ (counts_behind r.logs r.groups) in
    let logs : logs_in (records_of r) ≡ r.logs = past_counts r.counts _ ∙ logs_behind r.logs r.groups in
    let groups : groups_in (records_of r) ≡ r.groups = to_groups r.counts _ ∙ groups_behind r.logs r.groups in
    λ i. record { counts = counts i; logs = logs i; groups = groups i }

pub one_report : (x y : Report) → records_of x ≡ records_of y → x ≡ y
one_report x y e = sym (given_back x) ∙ ap report_from e ∙ given_back y
