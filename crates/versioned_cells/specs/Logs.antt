-- What versions tell of the log of a register or of a store.
use Rattle.std.specs.Prelude.{◌≡◌, ℕ, List, if◌then◌else◌, nat_le, take, Option, Some, None}
use Rattle.script_tree.specs.Datum.{Datum}
use Rattle.script_tree.specs.Objects.{one, many, with_key}
use Rattle.script_tree.specs.declared.operation.Act.{Act}
use Rattle.script_tree.specs.declared.operation.Act.TheVariants.{Read, Write, Get, Put, Remove, Transact, Now, Roll}
use Rattle.period.specs.declared.report.LogEntry.{LogEntry}
use Rattle.period.specs.LeftBy.{left_by}
use Rattle.versioned_cells.specs.Versions.{Versions, VersionsByKey, as_of, held_at, AreUntil, AreAllUntil}

-- ---- one cell

-- what an act makes of what a register holds
abbrev pub written : Act → Option Datum → Option Datum
written Read o = o
written (Write d) o = Some d
written (Get k) o = o
written (Put k d) o = o
written (Remove k) o = o
written (Transact statements) o = o
written Now o = o
written (Roll bound) o = o

-- what an act makes of what a store holds
abbrev pub stored : Act → (List ℕ → Option Datum) → List ℕ → Option Datum
stored Read m = m
stored (Write d) m = m
stored (Get k) m = m
stored (Put k d) m = with_key k (Some d) m
stored (Remove k) m = with_key k None m
stored (Transact statements) m = m
stored Now m = m
stored (Roll bound) m = m

-- ---- histories of a log

-- At each position of the log stands what the entries before it leave.
abbrev pub TellsRegister : List LogEntry → Option Datum → Versions Datum → Type 0
TellsRegister entries start vs = (p : ℕ) → left_by (take p entries) (one start) ≡ one (as_of p None vs)

-- At each position of a store's log stands what the entries before it leave.
abbrev pub TellsStore : List LogEntry → (List ℕ → Option Datum) → VersionsByKey Datum → Type 0
TellsStore entries start es = (p : ℕ) → left_by (take p entries) (many start) ≡ many (held_at p es)

-- From a position on the act's effect stands there, and before it what stood there.
pub record Writes (since : ℕ) (act : Act) (old new : Versions Datum) : Type 0 where
  pub at : (p : ℕ) → as_of p None new ≡ (if nat_le since p then written act (as_of p None old) else as_of p None old)
  pub until : AreUntil since new

-- From a position on the act's effect on the store stands there, and before it what stood there.
pub record Stores (since : ℕ) (act : Act) (old new : VersionsByKey Datum) : Type 0 where
  pub at : (p : ℕ) (k : List ℕ) → held_at p new k ≡ (if nat_le since p then stored act (held_at p old) k else held_at p old k)
  pub until : AreAllUntil since new

-- Nothing but what stands at the start.
pub record Begins (start : Option Datum) (vs : Versions Datum) : Type 0 where
  pub at : (p : ℕ) → as_of p None vs ≡ start
  pub until : AreUntil 0 vs

-- Nothing but what stands in the store at the start.
pub record BeginsStore (start : List ℕ → Option Datum) (es : VersionsByKey Datum) : Type 0 where
  pub at : (p : ℕ) (k : List ℕ) → held_at p es k ≡ start k
  pub until : AreAllUntil 0 es
