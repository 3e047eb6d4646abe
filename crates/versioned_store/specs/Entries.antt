-- What is told of an entry by its log's number and its position.
use Rattle.std.specs.Prelude.{◌≡◌, ℕ, ◌<◌, true, List, length, Option, Some, IfSome}
use Rattle.std.specs.Option.{is_some}
use Rattle.basis.specs.Lists.{nth}
use Rattle.script_tree.specs.Datum.{Datum}
use Rattle.period.specs.declared.report.LogEntry.{LogEntry}
use Rattle.versioned_store.specs.Logged.{Logged, IsAnswer, IsCellBefore}
use Rattle.versioned_store.specs.Sources.{IsSource, selects_alone}

-- ---- in its log

-- The entry is a transaction of selects alone, and its own source.
pub record IsOwnSource (o : Logged) (p : ℕ) : Type 0 where
  pub selects : (e : LogEntry) → nth o.log.entries p ≡ Some e → selects_alone e.act ≡ true
  pub source : IsSource o.log.entries p p

-- It is kept exactly of a source of selects, and is its answer.
pub record IsKept (o : Logged) (p : ℕ) (kept : Option Datum) : Type 0 where
  pub there : IsOwnSource o p → is_some kept ≡ true
  pub only : is_some kept ≡ true → IsOwnSource o p
  pub answer : IfSome kept (IsAnswer o p)

-- ---- in all logs

-- There is such an entry.
pub record HasEntry (logs : List Logged) (l p : ℕ) : Type 0 where
  pub object : Logged
  pub log_is : nth logs l ≡ Some object
  pub within : p < length object.log.entries

-- The entry at a position of the log of this number, where there is one, is answered so.
abbrev pub IsAnswerIn : List Logged → ℕ → ℕ → Datum → Type 0
IsAnswerIn logs l p d = (o : Logged) → nth logs l ≡ Some o → IsAnswer o p d

-- The cell of such an entry held this before.
abbrev pub IsCellIn : List Logged → ℕ → ℕ → Option Datum → Type 0
IsCellIn logs l p held = (o : Logged) → nth logs l ≡ Some o → IsCellBefore o p held

-- The source of such an entry is the entry at the other position.
abbrev pub IsSourceIn : List Logged → ℕ → ℕ → ℕ → Type 0
IsSourceIn logs l p q = (o : Logged) → nth logs l ≡ Some o → IsSource o.log.entries p q

-- This is kept of such an entry.
abbrev pub IsKeptIn : List Logged → ℕ → ℕ → Option Datum → Type 0
IsKeptIn logs l p kept = (o : Logged) → nth logs l ≡ Some o → IsKept o p kept
