-- Tables over time, and what their log tells of them.
use Rattle.std.specs.Prelude.{◌≡◌, ℕ, List, [], ◌∷◌, length, take, Some, None, refl}
use Rattle.std.specs.Coded.{Coded, code_by, coded_list, coded×, coded_ℕ, coded_option}
use Rattle.basis.specs.Lists.{nth}
use Rattle.script_tree.specs.DatumCode.{coded_data}
use Rattle.script_tree.specs.Datum.{Datum}
use Rattle.script_tree.specs.Fit.{AreTables}
use Rattle.script_tree.specs.Objects.{Cell, rows, acted}
use Rattle.script_tree.specs.Transactions.{Row, Table}
use Rattle.script_tree.specs.declared.operation.Act.{Act}
use Rattle.script_tree.specs.declared.operation.Act.TheVariants.{Read, Write, Get, Put, Remove, Transact, Now, Roll}
use Rattle.script_tree.specs.declared.operation.Choice.{Choice}
use Rattle.script_fit.specs.FitsOperation.{FitsTables}
use Rattle.period.specs.declared.report.LogEntry.{LogEntry}
use Rattle.object_tables.specs.Keys.{row_at}
use Rattle.object_tables.specs.TableSets.{TableSet}
use Rattle.period.specs.LeftBy.{left_by}
use Rattle.versioned_cells.specs.Versions.{VersionsByKey, history_at, held_at, AreAllUntil, AreChanges}
use Rattle.versioned_tables.specs.Standing.{RowsOverTime, IsStanding, AreFrom, AllChange, Advances}

-- how many columns each table has, and its rows over time
pub record OverTime : Type 0 where
  pub widths : List ℕ
  pub rows : RowsOverTime

-- tables of these widths, with these rows over time
abbrev pub over_time : List ℕ → RowsOverTime → OverTime
over_time widths hs = record { widths = widths; rows = hs }

-- how a proof stores them
abbrev pub coded_over_time : Coded OverTime
coded_over_time =
    code_by (List ℕ × RowsOverTime)
    (coded× (coded_list coded_ℕ) (coded_list (coded_list (coded× (coded_list coded_ℕ) (coded_list (coded× coded_ℕ (coded_option coded_data)))))))
    (λ v. (v.widths, v.rows)) (λ p. over_time p.0 p.1) (λ _. refl)

-- At a position stands what an object holds.
pub record Holds (cell : Cell) (p : ℕ) (v : OverTime) : Type 0 where
  pub tables : List Table
  pub is : cell ≡ rows tables
  pub fit : AreTables v.widths tables
  pub standing : IsStanding p v.rows tables

-- At each position of the log stands what the entries before it leave.
pub record TellsTables (entries : List LogEntry) (start : TableSet) (v : OverTime) : Type 0 where
  pub widths : v.widths ≡ start.widths
  pub holds : (p : ℕ) → Holds (left_by (take p entries) (rows start.tables)) p v

-- what an act answers at a position
abbrev pub IsAnswerThen : Act → ℕ → OverTime → Datum → Type 0
IsAnswerThen act p v d = (cell : Cell) (choice : Choice) → Holds cell p v → d ≡ (acted act choice cell).1

-- each entry is one of tables of these widths
abbrev pub FitEntries : List ℕ → List LogEntry → Type 0
FitEntries widths entries = (p : ℕ) (e : LogEntry) → nth entries p ≡ Some e → FitsTables widths e.act

-- Nothing but what stands at the start.
pub record BeginsTables (start : TableSet) (hs : RowsOverTime) : Type 0 where
  pub rows : (p : ℕ) → IsStanding p hs start.tables
  pub until : AreFrom 0 hs
  pub count : length hs ≡ length start.widths
  pub changes : AllChange hs
  pub fit : AreTables start.widths start.tables

-- Nothing but what stands in the table at the start.
pub record BeginsTable (table : Table) (es : VersionsByKey Row) : Type 0 where
  pub rows : (p : ℕ) (k : List ℕ) → held_at p es k ≡ row_at k table
  pub until : AreAllUntil 0 es
  pub changes : (k : List ℕ) → AreChanges None (history_at k es)

-- histories of some tables, from the first on
abbrev pub BeginAll : List Table → RowsOverTime → Type 0
BeginAll [] [] = Unit {0}
BeginAll [] (es ∷ hs) = ⊥
BeginAll (table ∷ tables) [] = ⊥
BeginAll (table ∷ tables) (es ∷ hs) = BeginsTable table es × BeginAll tables hs

-- What the act makes of what stands at a position stands from the next on.
abbrev pub AdvancesBy : List ℕ → ℕ → Act → RowsOverTime → RowsOverTime → Type 0
AdvancesBy widths p Read old new = ⊥
AdvancesBy widths p (Write d) old new = ⊥
AdvancesBy widths p (Get k) old new = ⊥
AdvancesBy widths p (Put k d) old new = ⊥
AdvancesBy widths p (Remove k) old new = ⊥
AdvancesBy widths p (Transact ss) old new = Advances widths p ss old new
AdvancesBy widths p Now old new = ⊥
AdvancesBy widths p (Roll bound) old new = ⊥
