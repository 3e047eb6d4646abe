-- What is known of the tables over time and of their selects.
use Rattle.std.specs.Prelude.{◌≡◌, ℕ, Bool, ◌&&◌, nat_eq, List, length, slice_index_or, take, Option, Some, IfSome}
use Rattle.std.specs.Option.{is_some}
use Rattle.basis.specs.Lists.{nth}
use Rattle.script_tree.specs.Datum.{Datum}
use Rattle.script_tree.specs.Objects.{rows, acted}
use Rattle.script_tree.specs.Transactions.{Table}
use Rattle.period.specs.declared.report.LogEntry.{LogEntry}
use Rattle.period.specs.LeftBy.{left_by}
use Rattle.object_tables.specs.TableSets.{TableSet}
use Rattle.versioned_tables.specs.OverTime.{OverTime, TellsTables, FitEntries, IsAnswerThen}
use Rattle.versioned_store.specs.Sources.{AreSources, selects_alone}
use Rattle.versioned_store.specs.declared.selects.SelectedTables.{SelectedTables}

-- the entry at a position is a transaction of selects alone, and its own source
abbrev pub is_own : LogEntry → ℕ → ℕ → Bool
is_own e source p = selects_alone e.act && nat_eq source p

-- The answer of each source of selects is kept, and no other.
pub record AreKept (entries : List LogEntry) (v : OverTime) (sources : List ℕ) (kept : List (Option Datum)) : Type 0 where
  pub count : length kept ≡ length entries
  pub own : (p : ℕ) (e : LogEntry) (o : Option Datum) → nth entries p ≡ Some e → nth kept p ≡ Some o → is_some o ≡ is_own e (slice_index_or sources p 0) p
  pub answers : (p : ℕ) (e : LogEntry) (o : Option Datum) → nth entries p ≡ Some e → nth kept p ≡ Some o → IfSome o (IsAnswerThen e.act p v)

-- The tables over time are those of the log, each entry has its source, and the answers of sources are kept.
pub record TellsSelects (entries : List LogEntry) (start : TableSet) (t : SelectedTables) : Type 0 where
  pub tables : TellsTables entries start t.tables
  pub sources : AreSources entries t.sources.items
  pub kept : AreKept entries t.tables t.sources.items t.kept.items

-- They are those of the log from some start, which its entries fit.
pub record IsToldSelects (entries : List LogEntry) (t : SelectedTables) : Type 0 where
  pub start : TableSet
  pub fit : FitEntries start.widths entries
  pub tells : TellsSelects entries start t

-- the entry at a position is answered so, where these tables stood at the start
abbrev pub IsTablesAnswer : List LogEntry → List Table → ℕ → Datum → Type 0
IsTablesAnswer entries tables p d = (e : LogEntry) → nth entries p ≡ Some e → d ≡ (acted e.act e.choice (left_by (take p entries) (rows tables))).1
