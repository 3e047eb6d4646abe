-- Shared objects: what each holds, which choices it takes, and what an operation does to it.
use Rattle.std.specs.Prelude.{ℕ, ℤ, pos, Bool, true, false, ◌&&◌, if◌then◌else◌, List, [], ◌∷◌, Option, Some, None, int_le, int_lt}
use Rattle.std.specs.Str.{bytes_eq}
use Rattle.script_tree.specs.Datum.{Datum, null, number}
use Rattle.script_tree.specs.Transactions.{Table, after_transaction}
use Rattle.script_tree.specs.declared.operation.Object.{Object}
use Rattle.script_tree.specs.declared.operation.Object.TheVariants.{Register, Store, Tables, Clock, Dice}
use Rattle.script_tree.specs.declared.operation.Act.{Act}
use Rattle.script_tree.specs.declared.operation.Act.TheVariants.{Read, Write, Get, Put, Remove, Transact, Now, Roll}
use Rattle.script_tree.specs.declared.operation.Choice.{Choice}
use Rattle.script_tree.specs.declared.operation.Choice.TheVariants.{Nothing, Number}

-- What one object holds: a register its value, a store its values by key, tables their rows, the clock its last reading, the
-- dice nothing. A value that isn't there is None.
pub data Cell : Type 0 where
  one : Option Datum → Cell
  many : (List ℕ → Option Datum) → Cell
  rows : List Table → Cell
  reading : ℤ → Cell
  none : Cell

-- what all objects hold
abbrev pub Objects : Type 0
Objects = Object → Cell

-- whether two objects are one
abbrev pub is_same : Object → Object → Bool
is_same (Register a) (Register b) = bytes_eq a b
is_same (Store a) (Store b) = bytes_eq a b
is_same Tables Tables = true
is_same Clock Clock = true
is_same Dice Dice = true
is_same (Register a) b = false
is_same (Store a) b = false
is_same Tables b = false
is_same Clock b = false
is_same Dice b = false

-- one object holds something else
abbrev pub holding : Object → Cell → Objects → Objects
holding o cell objects x = if is_same o x then cell else objects x

-- one key has something else
abbrev pub with_key : List ℕ → Option Datum → (List ℕ → Option Datum) → List ℕ → Option Datum
with_key k d m x = if bytes_eq x k then d else m x

-- what isn't there reads null
abbrev pub or_null : Option Datum → Datum
or_null None = null
or_null (Some d) = d

-- What an act makes of its object, and its answer, by the choice that was made. An act that isn't one of the object does
-- nothing, nor does a reading of the clock or a roll without a number.
unfoldable pub acted : Act → Choice → Cell → Cell × Datum
acted Read c (one d) = (one d, or_null d)
acted Read c cell = (cell, null)
acted (Write d) c (one old) = (one (Some d), null)
acted (Write d) c cell = (cell, null)
acted (Get k) c (many m) = (many m, or_null (m k))
acted (Get k) c cell = (cell, null)
acted (Put k d) c (many m) = (many (with_key k (Some d) m), null)
acted (Put k d) c cell = (cell, null)
acted (Remove k) c (many m) = (many (with_key k None m), null)
acted (Remove k) c cell = (cell, null)
acted (Transact ss) c (rows tables) = (rows (after_transaction ss tables).0, (after_transaction ss tables).1)
acted (Transact ss) c cell = (cell, null)
acted Now Nothing cell = (cell, null)
acted Now (Number n) (reading last) = (reading n, number n)
acted Now (Number n) cell = (cell, null)
acted (Roll bound) Nothing cell = (cell, null)
acted (Roll bound) (Number n) none = (none, number n)
acted (Roll bound) (Number n) cell = (cell, null)

-- the choice where nothing is left open
abbrev pub is_nothing : Choice → Bool
is_nothing Nothing = true
is_nothing (Number n) = false

-- the choices of a clock: a number that isn't below its last reading
abbrev pub is_reading : Choice → Cell → Bool
is_reading Nothing cell = false
is_reading (Number n) (reading last) = int_le last n
is_reading (Number n) cell = false

-- the choices of dice: a number from 0 to below the bound
abbrev pub is_roll : ℤ → Choice → Cell → Bool
is_roll bound Nothing cell = false
is_roll bound (Number n) none = int_le (pos 0) n && int_lt n bound
is_roll bound (Number n) cell = false

-- the choices that an object takes for an act: where nothing is left open, nothing
unfoldable pub plausible : Act → Choice → Cell → Bool
plausible Read c cell = is_nothing c
plausible (Write d) c cell = is_nothing c
plausible (Get k) c cell = is_nothing c
plausible (Put k d) c cell = is_nothing c
plausible (Remove k) c cell = is_nothing c
plausible (Transact ss) c cell = is_nothing c
plausible Now c cell = is_reading c cell
plausible (Roll bound) c cell = is_roll bound c cell

-- what an object holds after these acts with their choices, as its log lists them
abbrev pub folded : List (Act × Choice) → Cell → Cell
folded [] cell = cell
folded (e ∷ es) cell = folded es (acted e.0 e.1 cell).0

-- what the objects hold where nothing is stored: the start of an empty state, for a program without tables (`Fit`)
abbrev pub nothing_stored : Objects
nothing_stored (Register x) = one None
nothing_stored (Store s) = many (λ k. None)
nothing_stored Tables = rows []
nothing_stored Clock = reading (pos 0)
nothing_stored Dice = none
