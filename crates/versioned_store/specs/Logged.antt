-- An object by its log.
use Rattle.std.specs.Prelude.{◌≡◌, ℕ, List, take, Option, Some, None, refl}
use Rattle.std.specs.Coded.{Coded, code_by, coded×}
use Rattle.basis.specs.Lists.{nth}
use Rattle.script_tree.specs.Datum.{Datum}
use Rattle.script_tree.specs.Objects.{Cell, one, many, rows, reading, none, acted}
use Rattle.script_tree.specs.declared.operation.Act.{Act}
use Rattle.script_tree.specs.declared.operation.Act.TheVariants.{Get, Put, Remove}
use Rattle.script_tree.specs.declared.operation.Object.{Object}
use Rattle.period.specs.declared.report.Log.{Log}
use Rattle.period.specs.declared.report.LogEntry.{LogEntry}
use Rattle.period.specs.contracts.report.Log as log_row
use Rattle.period.specs.LeftBy.{left_by}
use Rattle.object_set.specs.Applied.{FitsSet, op_of}
use Rattle.object_set.specs.ObjectSets.{HeldObjects, objects_of, coded_objects}

-- what all objects held at the start, and the log of one of them
pub record Logged : Type 0 where
  pub start : HeldObjects
  pub log : Log

-- an object by its log, where this is what all objects held at the start
abbrev pub logged : HeldObjects → Log → Logged
logged start log = record { start = start; log = log }

-- how a proof stores them
abbrev pub coded_logged : Coded Logged
coded_logged = code_by (HeldObjects × Log) (coded× coded_objects log_row.the_row.coded) (λ o. (o.start, o.log)) (λ p. logged p.0 p.1) (λ _. refl)

-- what the object holds before the entry at a position
abbrev pub cell_before : Logged → ℕ → Cell
cell_before o p = left_by (take p o.log.entries) (objects_of o.start o.log.object)

-- the answer of an entry on what the entries before it leave of the object
abbrev pub answer_there : Logged → ℕ → LogEntry → Datum
answer_there o p e = (acted e.act e.choice (cell_before o p)).1

-- what the cell holds that an act of a register or of a store is about
abbrev pub named_cell : Act → Cell → Option Datum
named_cell (Get k) (many m) = m k
named_cell (Put k d) (many m) = m k
named_cell (Remove k) (many m) = m k
named_cell a (one d) = d
named_cell a (many m) = None
named_cell a (rows tables) = None
named_cell a (reading n) = None
named_cell a none = None

-- ---- the entry at a position

-- it is answered so
abbrev pub IsAnswer : Logged → ℕ → Datum → Type 0
IsAnswer o p d = (e : LogEntry) → nth o.log.entries p ≡ Some e → d ≡ answer_there o p e

-- its cell held this before
abbrev pub IsCellBefore : Logged → ℕ → Option Datum → Type 0
IsCellBefore o p held = (e : LogEntry) → nth o.log.entries p ≡ Some e → held ≡ named_cell e.act (cell_before o p)

-- ---- entries that fit

-- Each of these entries is an operation that the object is asked for.
abbrev pub FitAll : HeldObjects → Object → List LogEntry → Type 0
FitAll start object entries = (p : ℕ) (e : LogEntry) → nth entries p ≡ Some e → FitsSet start (op_of object e.act)

-- Each entry is an operation that the object is asked for.
abbrev pub FitsLog : HeldObjects → Log → Type 0
FitsLog start log = FitAll start log.object log.entries

-- Each log's entries are such operations.
abbrev pub FitLogs : HeldObjects → List Log → Type 0
FitLogs start logs = (l : ℕ) (log : Log) → nth logs l ≡ Some log → FitsLog start log
