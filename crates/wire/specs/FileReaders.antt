-- A reader of a file, record after record. Private clauses alone speak of it.
use Rattle.std.specs.Prelude.{◌≡◌, ℕ, ◌<◌, ◌≤◌, List, [], ◌∷◌, ◌++◌, length, Option, Some, None, Result, Ok, Err}
use Rattle.basis.specs.UnlessMemory.{UnlessMemory}
use Rattle.wire.specs.Files.{Format, file_spelling, record_field, MayFollow, Spells, IsFault}
use Rattle.wire.specs.Spellings.{IsSpelled, IsFieldAt, Reading}
use Rattle.wire.specs.declared.fault.Unreadable.{Unreadable}
use Rattle.wire.specs.declared.file.FileReader.{FileReader}

-- These records stand one after another, from the start of the file up to this place.
pub record IsReadUpTo {A : Type 0} (format : Format A) (bytes : List ℕ) (items : List A) (at : ℕ) : Type 0 where
  pub allowed : MayFollow format [] items
  pub spelled : IsSpelled bytes 0 (file_spelling format items) at
  pub within : at ≤ length bytes

-- These records of the file were read, up to the reader's place.
pub record HasReadFile {R A : Type 0} (format : Format A) (has_read : R → List A → Type 0) (bytes : List ℕ) (items : List A) (file : FileReader R) : Type 0 where
  pub of : file.bytes.now ≡ bytes
  pub kept : has_read file.reader items
  pub read : IsReadUpTo format bytes items file.at

-- The reader has read none of the file, or the file lacks its magic.
abbrev pub Begins :
    {R A : Type 0} → Format A → (R → List A → Type 0) → List ℕ → Result (FileReader R) Unreadable → Type 0
Begins format has_read bytes (Ok file) = HasReadFile format has_read bytes [] file
Begins format has_read bytes (Err fault) = IsFault format bytes fault.at

-- Behind these records is the end of the file, or this one at its place, which then was read too.
abbrev pub HasNext :
    {R A : Type 0} → Format A → (R → List A → Type 0) → List ℕ → List A → FileReader R → Option (ℕ × A) → Type 0
HasNext format has_read bytes items file None = Spells format bytes items
HasNext format has_read bytes items file (Some (at, x)) =
    IsFieldAt (record_field format items) bytes at x file.at
    × HasReadFile format has_read bytes (items ++ x ∷ []) file

-- Behind whatever was read of a file, the reader finds what is next, or the file's fault.
abbrev pub ReadsNext :
    {R A : Type 0} → Format A → (R → List A → Type 0) → FileReader R → FileReader R → Reading (Option (ℕ × A)) → Type 0
ReadsNext {A = A} format has_read old new result =
    (bytes : List ℕ) (items : List A) →
    HasReadFile format has_read bytes items old →
    UnlessMemory (HasNext format has_read bytes items new) (λ fault. IsFault format bytes fault.at) result

-- It is the same file, and its end is nearer.
abbrev pub IsNearer : {R : Type 0} → FileReader R → FileReader R → Type 0
IsNearer old new = (new.bytes.now ≡ old.bytes.now) × (old.at < new.at) × (new.at ≤ length old.bytes.now)
