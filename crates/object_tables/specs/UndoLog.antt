-- What taking changes back makes of the tables.
use Rattle.std.specs.Prelude.{◌≡◌, ℕ, suc, Bool, true, false, ◌&&◌, ◌||◌, nat_eq, List, [], ◌∷◌, Option, slice_index_or, slice_set}
use Rattle.std.specs.Option.{is_some}
use Rattle.std.specs.BTreeMap.{is_at}
use Rattle.object_tables.specs.declared.undo_log.Undo.{Undo}
use Rattle.object_tables.specs.Slots.{Slot, Slots, by_bytes, put, replaced, restored, settled, with_puts, IsFiled}

-- the slots of the table at a number; none where no such table is there
abbrev pub slots_at : ℕ → List Slots → Slots
slots_at t ts = slice_index_or ts t []

-- with this slot at a key of a table
abbrev pub put_at : ℕ → List ℕ → Slot → List Slots → List Slots
put_at t k s ts = slice_set ts t (put k s (slots_at t ts))

-- with another slot at a key of a table that is there
abbrev pub replaced_at : ℕ → List ℕ → Slot → List Slots → List Slots
replaced_at t k s ts = slice_set ts t (replaced k s (slots_at t ts))

-- with this slot at a key of a table that is there, or without the key
abbrev pub restored_at : ℕ → List ℕ → Option Slot → List Slots → List Slots
restored_at t k before ts = slice_set ts t (restored k before (slots_at t ts))

-- this slot is the one to put back there
abbrev pub Restores : ℕ → List ℕ → List Slots → List Slots → Option Slot → Type 0
Restores t k new old before = restored_at t k before new ≡ old

-- without a key of a table whose slot is empty
abbrev pub settled_at : ℕ → List ℕ → List Slots → List Slots
settled_at t k ts = slice_set ts t (settled k (slots_at t ts))

-- with all of these slots in a table, at keys that are there
abbrev pub with_puts_at : ℕ → Slots → List Slots → List Slots
with_puts_at t puts ts = slice_set ts t (with_puts puts (slots_at t ts))

-- one change taken back
abbrev pub put_back : Undo → List Slots → List Slots
put_back u ts = restored_at u.table u.key u.before ts

-- all changes taken back, the last one first
abbrev pub undone : List Undo → List Slots → List Slots
undone [] ts = ts
undone (u ∷ us) ts = put_back u (undone us ts)

-- in each of the tables each row lies under its key
abbrev pub AllFiled : List Slots → Type 0
AllFiled [] = Unit {0}
AllFiled (es ∷ ts) = IsFiled es × AllFiled ts

-- ---- empty slots

-- one of these changes was at this key of this table
abbrev pub is_noted : List Undo → ℕ → List ℕ → Bool
is_noted [] t k = false
is_noted (u ∷ us) t k = (nat_eq u.table t && is_at (by_bytes u.key) k) || is_noted us t k

-- only slots of keys that pass may be empty
abbrev pub IsWholeBut : (List ℕ → Bool) → Slots → Type 0
IsWholeBut may [] = Unit {0}
IsWholeBut may (e ∷ es) = ((is_some e.1 || may e.0) ≡ true) × IsWholeBut may es

-- in each table only slots of keys that pass for it may be empty
abbrev pub AreWholeBut : (ℕ → List ℕ → Bool) → List Slots → Type 0
AreWholeBut may [] = Unit {0}
AreWholeBut may (es ∷ ts) = IsWholeBut (may 0) es × AreWholeBut (λ t. may (suc t)) ts

-- no slot is empty
abbrev pub AreWhole : List Slots → Type 0
AreWhole ts = AreWholeBut (λ t k. false) ts
