-- Records by their kinds.
use Rattle.std.specs.Prelude.{◌≡◌, ℕ, List, [], ◌∷◌, ◌++◌}
use Rattle.period.specs.declared.report.Count.{Count}
use Rattle.period.specs.declared.report.Log.{Log}
use Rattle.period.specs.declared.report.Report.{Report}
use Rattle.report_format.specs.declared.format.ReportRecord.{ReportRecord}
use Rattle.report_format.specs.declared.format.ReportRecord.TheVariants as it

-- the counts among records
abbrev pub counts_in : List ReportRecord → List Count
counts_in [] = []
counts_in (it.Count c ∷ rs) = c ∷ counts_in rs
counts_in (it.Log l ∷ rs) = counts_in rs
counts_in (it.Group g ∷ rs) = counts_in rs

-- the logs among records
abbrev pub logs_in : List ReportRecord → List Log
logs_in [] = []
logs_in (it.Count c ∷ rs) = logs_in rs
logs_in (it.Log l ∷ rs) = l ∷ logs_in rs
logs_in (it.Group g ∷ rs) = logs_in rs

-- the groups among records
abbrev pub groups_in : List ReportRecord → List (List ℕ)
groups_in [] = []
groups_in (it.Count c ∷ rs) = groups_in rs
groups_in (it.Log l ∷ rs) = groups_in rs
groups_in (it.Group g ∷ rs) = g ∷ groups_in rs

-- The report has this record more, behind those of its kind.
pub record Adds (r : ReportRecord) (old new : Report) : Type 0 where
  pub counts : new.counts ≡ old.counts ++ counts_in (r ∷ [])
  pub logs : new.logs ≡ old.logs ++ logs_in (r ∷ [])
  pub groups : new.groups ≡ old.groups ++ groups_in (r ∷ [])
