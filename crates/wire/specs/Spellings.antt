-- How fields are spelled, each in one way, and what it is that a field stands at a place.
use Rattle.std.specs.Prelude.{◌≡◌, ℕ, ◌+◌, ◌<◌, ◌≤◌, ◌^◌, ℤ, List, [], ◌∷◌, ◌++◌, length, drop, true, false, Result, Ok, Err}
use Rattle.std.specs.Int.{Width, w16, w32, w64, byte_len, to_be_bytes, cast_unsigned}
use Rattle.std.specs.Int.RustNames.{FitsSigned}
use Rattle.script_tree.specs.Datum.{Datum, null, bool, number, text, list, Data, none, more, members, data_of, IsWithinLimits}
use Rattle.basis.specs.UnlessMemory.{UnlessMemory}
use Rattle.basis.specs.declared.or_memory.OrMemory.{OrMemory}
use Rattle.wire.specs.declared.fault.Unreadable.{Unreadable}
use Rattle.script_tree.specs.declared.operation.Choice.{Choice}
use Rattle.script_tree.specs.declared.operation.Choice.TheVariants.{Nothing, Number}

-- a kind of field: what may stand there, and how it is spelled
pub record Field (A : Type 0) : Type 1 where
  pub allows : A → Type 0
  pub spelling : A → List ℕ

-- one byte
abbrev pub byte_field : Field ℕ
byte_field = record { allows = λ n. n < 256; spelling = λ n. n ∷ [] }

-- a number of this width, its highest byte first
abbrev pub number_field : Width → Field ℕ
number_field w = record { allows = λ n. n < 256 ^ byte_len w; spelling = λ n. to_be_bytes w n }

-- the same of 64 bits, as two's complement
abbrev pub integer_spelling : ℤ → List ℕ
integer_spelling n = to_be_bytes w64 (cast_unsigned w64 n)

-- a signed number of 64 bits
abbrev pub integer_field : Field ℤ
integer_field = record { allows = λ n. FitsSigned w64 n; spelling = λ n. integer_spelling n }

-- a length, and so many bytes
abbrev pub bytes_spelling : List ℕ → List ℕ
bytes_spelling bytes = to_be_bytes w32 (length bytes) ++ bytes

-- bytes behind their length
abbrev pub bytes_field : Field (List ℕ)
bytes_field = record {
  allows = λ bytes. length bytes < 2 ^ 32;
  spelling = λ bytes. bytes_spelling bytes;
}

-- a field of another kind behind the length of its spelling
abbrev pub framed : {A : Type 0} → Field A → Field A
framed field = record {
  allows = λ x. field.allows x × (length (field.spelling x) < 2 ^ 32);
  spelling = λ x. bytes_spelling (field.spelling x);
}

-- a tag, and the number of a choice that has one
abbrev pub choice_spelling : Choice → List ℕ
choice_spelling Nothing = 0 ∷ []
choice_spelling (Number n) = 1 ∷ integer_spelling n

-- The number of a choice that has one is of 64 bits.
abbrev pub IsWideChoice : Choice → Type 0
IsWideChoice Nothing = Unit {0}
IsWideChoice (Number n) = FitsSigned w64 n

-- a choice, whose number is of 64 bits
abbrev pub choice_field : Field Choice
choice_field = record { allows = λ c. IsWideChoice c; spelling = λ c. choice_spelling c }

-- a tag, and what the value consists of
abbrev mutual
  pub value_spelling : Datum → List ℕ
  value_spelling null = 0 ∷ []
  value_spelling (bool false) = 1 ∷ []
  value_spelling (bool true) = 2 ∷ []
  value_spelling (number n) = 3 ∷ integer_spelling n
  value_spelling (text bytes) = 4 ∷ bytes_spelling bytes
  value_spelling (list ds) = 5 ∷ (to_be_bytes w32 (length (members ds)) ++ values_spelling ds)

  -- values, one after another
  pub values_spelling : Data → List ℕ
  values_spelling none = []
  values_spelling (more d ds) = value_spelling d ++ values_spelling ds

-- how many values there are, and these
abbrev pub list_spelling : List Datum → List ℕ
list_spelling ds = to_be_bytes w32 (length ds) ++ values_spelling (data_of ds)

-- Each number in the value is one of 64 bits.
abbrev mutual
  pub HasWideNumbers : Datum → Type 0
  HasWideNumbers null = Unit {0}
  HasWideNumbers (bool b) = Unit {0}
  HasWideNumbers (number n) = FitsSigned w64 n
  HasWideNumbers (text bytes) = Unit {0}
  HasWideNumbers (list ds) = HaveWideNumbers ds

  -- Each number in these values is one of 64 bits.
  pub HaveWideNumbers : Data → Type 0
  HaveWideNumbers none = Unit {0}
  HaveWideNumbers (more d ds) = HasWideNumbers d × HaveWideNumbers ds

-- a value within the limits, whose numbers are of 64 bits
abbrev pub value_field : Field Datum
value_field = record {
  allows = λ d. IsWithinLimits d × HasWideNumbers d;
  spelling = λ d. value_spelling d;
}

-- These bytes stand at a place, up to the next one.
pub record IsSpelled (bytes : List ℕ) (at : ℕ) (spelling : List ℕ) (next : ℕ) : Type 0 where
  pub spells : drop at bytes ≡ spelling ++ drop next bytes
  pub next_is : next ≡ at + length spelling

-- This stands at a place, up to the next one.
abbrev pub IsFieldAt : {A : Type 0} → Field A → List ℕ → ℕ → A → ℕ → Type 0
IsFieldAt field bytes at x next = field.allows x × IsSpelled bytes at (field.spelling x) next

-- The next place is behind this one and not behind the end.
abbrev pub IsWithin : List ℕ → ℕ → ℕ → Type 0
IsWithin bytes at next = (at < next) × (next ≤ length bytes)

-- No two things of the kind are spelled alike, and no spelling begins another.
abbrev pub HasOneSpelling : {A : Type 0} → Field A → Type 0
HasOneSpelling {A} field =
    (x y : A) (r s : List ℕ) →
    field.allows x → field.allows y →
    field.spelling x ++ r ≡ field.spelling y ++ s → (x ≡ y) × (r ≡ s)

-- The fields of each kind are told apart by their spellings.
pub record AreToldApart : Type 0 where
  pub bytes : HasOneSpelling byte_field
  pub numbers_16 : HasOneSpelling (number_field w16)
  pub numbers_32 : HasOneSpelling (number_field w32)
  pub numbers_64 : HasOneSpelling (number_field w64)
  pub integers : HasOneSpelling integer_field
  pub byte_strings : HasOneSpelling bytes_field
  pub choices : HasOneSpelling choice_field
  pub values : HasOneSpelling value_field

-- What was there is still the front.
pub record IsFront (old new : List ℕ) : Type 0 where
  pub rest : List ℕ
  pub is : new ≡ old ++ rest

-- Nothing of the kind stands at the place.
abbrev pub NoneIsAt : {A : Type 0} → Field A → List ℕ → ℕ → Type 0
NoneIsAt {A} field bytes at = (x : A) (next : ℕ) → IsFieldAt field bytes at x next → ⊥

-- A fault names the place, and no field of the kind stands there.
abbrev pub IsFaultAt : {A : Type 0} → Field A → List ℕ → ℕ → Unreadable → Type 0
IsFaultAt field bytes at fault = (fault.at ≡ at) × NoneIsAt field bytes at

-- what a reader answers that takes memory
abbrev pub Reading : Type 0 → Type 0
Reading A = Result A (OrMemory Unreadable)

-- What is read, seen by `view`, is the field at the place, and where the next one may begin.
abbrev pub ReadsField :
    {A X : Type 0} → (X → A) → Field A → List ℕ → ℕ → Result (X × ℕ) Unreadable → Type 0
ReadsField view field bytes at (Ok x) = IsFieldAt field bytes at (view x.0) x.1
ReadsField view field bytes at (Err fault) = IsFaultAt field bytes at fault

-- The same, unless memory ran out.
abbrev pub TakesField : {A X : Type 0} → (X → A) → Field A → List ℕ → ℕ → Reading (X × ℕ) → Type 0
TakesField view field bytes at result =
    UnlessMemory (λ x. IsFieldAt field bytes at (view x.0) x.1) (IsFaultAt field bytes at) result

-- The same of a part of a record: a fault may name another place.
abbrev pub TakesPart : {A X : Type 0} → (X → A) → Field A → List ℕ → ℕ → Reading (X × ℕ) → Type 0
TakesPart view field bytes at result =
    UnlessMemory
    (λ x. IsFieldAt field bytes at (view x.0) x.1)
    (λ fault. NoneIsAt field bytes at)
    result
