-- Tables with their widths.
use Rattle.std.specs.Prelude.{ℕ, List, [], map, refl}
use Rattle.std.specs.Coded.{Coded, code_by, coded×, coded_ℕ, coded_list}
use Rattle.script_tree.specs.DatumCode.{coded_data}
use Rattle.script_tree.specs.Transactions.{Table}

-- How many columns each table has, and its rows. A program's tables keep their widths.
pub record TableSet : Type 0 where
  pub widths : List ℕ
  pub tables : List Table

-- the set of these widths and rows
abbrev pub table_set : List ℕ → List Table → TableSet
table_set widths tables = record { widths = widths; tables = tables }

-- as many tables without rows
abbrev pub no_rows : List ℕ → List Table
no_rows widths = map (λ width. []) widths

-- how a proof stores them
abbrev pub coded_table_set : Coded TableSet
coded_table_set =
    code_by (List ℕ × List Table) (coded× (coded_list coded_ℕ) (coded_list (coded_list coded_data)))
    (λ s. (s.widths, s.tables)) (λ p. table_set p.0 p.1) (λ _. refl)
