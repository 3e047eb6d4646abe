-- What the reader of values finds, by the limits that are left to it.
use Rattle.std.specs.Prelude.{◌≡◌, ℕ, ◌+◌, ◌≤◌, List, [], ◌++◌, length, true, false}
use Rattle.std.specs.Int.{w32, to_be_bytes}
use Rattle.script_tree.specs.Datum.{Datum, null, bool, number, text, list, members, size, nesting}
use Rattle.wire.specs.Spellings.{IsSpelled, value_spelling, values_spelling, integer_spelling, bytes_spelling, HasWideNumbers, Reading}
use Rattle.basis.specs.UnlessMemory.{UnlessMemory}
use Rattle.wire.specs.declared.value_reading.Part.{Part}

-- the first byte of a value's spelling
abbrev pub tag_of : Datum → ℕ
tag_of null = 0
tag_of (bool false) = 1
tag_of (bool true) = 2
tag_of (number n) = 3
tag_of (text bytes) = 4
tag_of (list ds) = 5

-- what stands behind it
abbrev pub tail_of : Datum → List ℕ
tail_of null = []
tail_of (bool b) = []
tail_of (number n) = integer_spelling n
tail_of (text bytes) = bytes_spelling bytes
tail_of (list ds) = to_be_bytes w32 (length (members ds)) ++ values_spelling ds

-- A value of at most this nesting and this size.
pub record IsBounded (depth room : ℕ) (d : Datum) : Type 0 where
  pub wide : HasWideNumbers d
  pub nested : nesting d ≤ depth
  pub sized : size d ≤ room

-- What is left of the room, and the value's size, are the room.
pub record IsWithinRoom (depth room : ℕ) (part : Part) : Type 0 where
  pub wide : HasWideNumbers part.value
  pub nested : nesting part.value ≤ depth
  pub sized : part.room + size part.value ≡ room

-- No value of these bounds stands at the place.
abbrev pub LacksValue : ℕ → ℕ → List ℕ → ℕ → Type 0
LacksValue depth room bytes at =
    (d : Datum) (next : ℕ) → IsBounded depth room d → IsSpelled bytes at (value_spelling d) next → ⊥

-- Behind this tag no value of these bounds goes on at the place.
abbrev pub LacksTail : ℕ → ℕ → ℕ → List ℕ → ℕ → Type 0
LacksTail tag depth room bytes at =
    (d : Datum) (next : ℕ) →
    tag ≡ tag_of d → IsBounded depth room d → IsSpelled bytes at (tail_of d) next → ⊥

-- This value stands at the place, within these bounds.
abbrev pub HasValue : ℕ → ℕ → List ℕ → ℕ → Part → Type 0
HasValue depth room bytes at part =
    IsSpelled bytes at (value_spelling part.value) part.next × IsWithinRoom depth room part

-- Behind this tag the value goes on at the place, within these bounds.
abbrev pub HasTail : ℕ → ℕ → ℕ → List ℕ → ℕ → Part → Type 0
HasTail tag depth room bytes at part =
    (tag ≡ tag_of part.value)
    × (IsSpelled bytes at (tail_of part.value) part.next × IsWithinRoom depth room part)

-- the value at a place, or none of these bounds stands there, unless memory ran out
abbrev pub GivesValue : ℕ → ℕ → List ℕ → ℕ → Reading Part → Type 0
GivesValue depth room bytes at result =
    UnlessMemory (HasValue depth room bytes at) (λ fault. LacksValue depth room bytes at) result

-- the same behind the value's tag
abbrev pub GivesTail : ℕ → ℕ → ℕ → List ℕ → ℕ → Reading Part → Type 0
GivesTail tag depth room bytes at result =
    UnlessMemory
    (HasTail tag depth room bytes at)
    (λ fault. LacksTail tag depth room bytes at)
    result
