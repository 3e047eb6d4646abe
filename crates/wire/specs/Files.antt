-- A file: a magic, then records up to the end.
use Rattle.std.specs.Prelude.{◌≡◌, ℕ, ◌+◌, ◌<◌, ◌≤◌, List, [], ◌∷◌, ◌++◌, length, Option, Some, None, Result, IfOk, ◌⊎◌}
use Rattle.wire.specs.Spellings.{Field, IsSpelled, IsFieldAt, bytes_spelling, framed, HasOneSpelling, Reading}
use Rattle.basis.specs.UnlessMemory.{UnlessMemory}
use Rattle.basis.specs.declared.or_memory.OrMemory.{OrMemory}
use Rattle.wire.specs.declared.fault.PastLimit.{PastLimit}

-- a kind of file: its magic, how the payload of a record is spelled, and behind which records it
-- may stand
pub record Format (A : Type 0) : Type 1 where
  pub magic : List ℕ
  pub payload : A → List ℕ
  pub allows : List A → A → Type 0

-- a record: the length of its payload, and the payload
abbrev pub record_spelling : {A : Type 0} → Format A → A → List ℕ
record_spelling format x = bytes_spelling (format.payload x)

-- records, one after another
abbrev pub records_spelling : {A : Type 0} → Format A → List A → List ℕ
records_spelling format [] = []
records_spelling format (x ∷ xs) = record_spelling format x ++ records_spelling format xs

-- the whole file
abbrev pub file_spelling : {A : Type 0} → Format A → List A → List ℕ
file_spelling format xs = format.magic ++ records_spelling format xs

-- what the payload of a record behind these may be
abbrev pub payload_field : {A : Type 0} → Format A → List A → Field A
payload_field format before = record {
  allows = λ x. format.allows before x;
  spelling = λ x. format.payload x;
}

-- what a record behind these may be
abbrev pub record_field : {A : Type 0} → Format A → List A → Field A
record_field format before = framed (payload_field format before)

-- Behind these records the others may stand, one after another.
abbrev pub MayFollow : {A : Type 0} → Format A → List A → List A → Type 0
MayFollow format before [] = Unit {0}
MayFollow format before (x ∷ xs) =
    (record_field format before).allows x × MayFollow format (before ++ x ∷ []) xs

-- The file has these records and no others.
pub record Spells {A : Type 0} (format : Format A) (bytes : List ℕ) (items : List A) : Type 0 where
  pub spelled : bytes ≡ file_spelling format items
  pub allowed : MayFollow format [] items

-- The file begins with the magic.
abbrev pub HasMagic : {A : Type 0} → Format A → List ℕ → Type 0
HasMagic format bytes = (rest : List ℕ) × (bytes ≡ format.magic ++ rest)

-- Up to this place the file is whole and well spelled, and there no record that may follow begins,
-- although it goes on.
pub record IsBadRecord {A : Type 0} (format : Format A) (bytes : List ℕ) (at : ℕ) : Type 0 where
  pub before : List A
  pub allowed : MayFollow format [] before
  pub spelled : IsSpelled bytes 0 (file_spelling format before) at
  pub inside : at < length bytes
  pub bad : (x : A) (next : ℕ) → IsFieldAt (record_field format before) bytes at x next → ⊥

-- where a file that has no spelling is at fault
abbrev pub IsFault : {A : Type 0} → Format A → List ℕ → ℕ → Type 0
IsFault format bytes at = (¬ HasMagic format bytes × (at ≡ 0)) ⊎ IsBadRecord format bytes at

-- the records of the file, or its fault, unless memory ran out
abbrev pub Decodes : {A : Type 0} → Format A → List ℕ → Reading (List A) → Type 0
Decodes format bytes result =
    UnlessMemory (Spells format bytes) (λ fault. IsFault format bytes fault.at) result

-- ---- readers of records

-- The payload spells this item, which may stand behind these.
abbrev pub IsPayload : {A : Type 0} → Format A → List A → List ℕ → A → Type 0
IsPayload format before payload x = format.allows before x × (payload ≡ format.payload x)

-- The payload spells no item that may stand behind these.
abbrev pub SpellsNone : {A : Type 0} → Format A → List A → List ℕ → Type 0
SpellsNone {A} format before payload = (x : A) → ¬ IsPayload format before payload x

-- The payload of a record behind these is read as the item that it spells; a fault means that it
-- spells none.
abbrev pub TakesPayload : {A : Type 0} → Format A → List A → List ℕ → Reading A → Type 0
TakesPayload format before payload result =
    UnlessMemory
    (IsPayload format before payload)
    (λ fault. SpellsNone format before payload)
    result

-- A reader takes the payload behind whatever it has read.
abbrev pub TakesNext :
    {S A : Type 0} → Format A → (S → List A → Type 0) → S → List ℕ → Reading A → Type 0
TakesNext {A = A} format has_read reader payload result =
    (before : List A) → has_read reader before → TakesPayload format before payload result

-- Then it has read the item too.
abbrev pub GoesOn : {S A : Type 0} → (S → List A → Type 0) → S → S → Reading A → Type 0
GoesOn {A = A} has_read old new result =
    (before : List A) → has_read old before → IfOk result (λ x. has_read new (before ++ x ∷ []))

-- ---- lengths

-- what is left of the room behind the spelling, or nothing where the spelling is longer
abbrev pub LeavesRoom : ℕ → List ℕ → Option ℕ → Type 0
LeavesRoom room spelling None = room < length spelling
LeavesRoom room spelling (Some left) = left + length spelling ≡ room

-- how many bytes the payload of a record has that fits into the room, or nothing where the record
-- is longer
abbrev pub HasLen : ℕ → List ℕ → Option ℕ → Type 0
HasLen room payload None = room < length (bytes_spelling payload)
HasLen room payload (Some len) = (len ≡ length payload) × (len + 4 ≤ room)

-- Of these, the first whose record would end behind the limit has its record here.
pub record IsBeyond {A : Type 0} (format : Format A) (most at : ℕ) (xs : List A) : Type 0 where
  pub before : List A
  pub item : A
  pub after : List A
  pub parts : xs ≡ before ++ item ∷ after
  pub at_is : at ≡ length (file_spelling format before)
  pub within : at ≤ most
  pub beyond : most < at + length (record_spelling format item)

-- The file has these items, and is within the limit.
abbrev pub IsFileWithin : {A : Type 0} → Format A → ℕ → List A → List ℕ → Type 0
IsFileWithin format limit items bytes =
    (bytes ≡ file_spelling format items) × (length bytes ≤ limit)

-- the file of these items, seen by `view`, or where it would pass the limit, unless memory ran out
abbrev pub Encodes :
    {A X : Type 0} → (X → List ℕ) → Format A → ℕ → List A → Result X (OrMemory PastLimit) → Type 0
Encodes view format limit items result =
    UnlessMemory
    (λ out. IsFileWithin format limit items (view out))
    (λ fault. IsBeyond format limit fault.at items)
    result

-- what decoding the file of these items gives: them again, unless memory ran out
abbrev pub GivesBack : {A : Type 0} → List A → Reading (List A) → Type 0
GivesBack items result = UnlessMemory (λ found. found ≡ items) (λ fault. ⊥) result

-- No record is spelled as another, and none begins another; a file has one list of records at most,
-- and none where it has a fault; it has one fault at most; and what is encoded is decoded again.
pub record IsExact {A : Type 0} (format : Format A) : Type 0 where
  pub one_spelling : (before : List A) → HasOneSpelling (record_field format before)
  pub one_reading :
      (bytes : List ℕ) (xs ys : List A) → Spells format bytes xs → Spells format bytes ys → xs ≡ ys
  pub one_fault :
      (bytes : List ℕ) (at at' : ℕ) → IsFault format bytes at → IsFault format bytes at' → at ≡ at'
  pub no_reading_at_fault :
      (bytes : List ℕ) (at : ℕ) (xs : List A) → IsFault format bytes at → ¬ Spells format bytes xs
  pub gives_back :
      (xs : List A) (r : Reading (List A)) →
      MayFollow format [] xs → Decodes format (file_spelling format xs) r → GivesBack xs r
