-- From which entry of the tables' log the answer of a select may be taken.
use Rattle.std.specs.Prelude.{◌≡◌, ℕ, ◌≤◌, ◌<◌, Bool, true, false, List, [], ◌∷◌, length, slice_index_or, Some}
use Rattle.basis.specs.Lists.{nth}
use Rattle.script_tree.specs.declared.operation.Act.{Act}
use Rattle.script_tree.specs.declared.operation.Act.TheVariants.{Read, Write, Get, Put, Remove, Transact, Now, Roll}
use Rattle.script_tree.specs.declared.transaction.Statement.{Statement}
use Rattle.script_tree.specs.declared.transaction.Statement.TheVariants.{Insert, Select, Update, Delete, Expect}
use Rattle.period.specs.declared.report.LogEntry.{LogEntry}
use Rattle.versioned_tables.specs.Reads.{keeps_tables}

-- all are selects
abbrev pub are_selects : List Statement → Bool
are_selects [] = true
are_selects (Insert t row ∷ ss) = false
are_selects (Select t columns tests ∷ ss) = are_selects ss
are_selects (Update t changes tests ∷ ss) = false
are_selects (Delete t tests ∷ ss) = false
are_selects (Expect n t tests ∷ ss) = false

-- a transaction of selects alone
abbrev pub selects_alone : Act → Bool
selects_alone Read = false
selects_alone (Write d) = false
selects_alone (Get k) = false
selects_alone (Put k d) = false
selects_alone (Remove k) = false
selects_alone (Transact ss) = are_selects ss
selects_alone Now = false
selects_alone (Roll bound) = false

-- From q on, up to before p, no entry changes the tables.
abbrev pub IsCalm : List LogEntry → ℕ → ℕ → Type 0
IsCalm entries q p = (i : ℕ) (e : LogEntry) → q ≤ i → i < p → nth entries i ≡ Some e → keeps_tables e.act ≡ true

-- The entry at q has the act of that at p, and none between changes the tables.
pub record IsLike (entries : List LogEntry) (p q : ℕ) : Type 0 where
  pub before : q ≤ p
  pub same : (e f : LogEntry) → nth entries q ≡ Some e → nth entries p ≡ Some f → e.act ≡ f.act
  pub calm : IsCalm entries q p

-- The source of a transaction of selects alone is the first entry that is like it; any other entry is its own.
pub record IsSource (entries : List LogEntry) (p q : ℕ) : Type 0 where
  pub like : IsLike entries p q
  pub least : (e : LogEntry) → nth entries p ≡ Some e → selects_alone e.act ≡ true → (i : ℕ) → IsLike entries p i → q ≤ i
  pub own : (e : LogEntry) → nth entries p ≡ Some e → selects_alone e.act ≡ false → q ≡ p

-- Each entry has its source.
pub record AreSources (entries : List LogEntry) (sources : List ℕ) : Type 0 where
  pub count : length sources ≡ length entries
  pub each : (p d : ℕ) → p < length sources → IsSource entries p (slice_index_or sources p d)
