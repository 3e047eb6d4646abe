-- What is told of a shelf, and what calls do to it.
use Rattle.std.specs.Prelude.{◌≡◌, ℕ, ◌+◌, ◌≤◌, Bool, true, false, List, [], ◌∷◌, ◌++◌, length, Option, Some, None, Result, Ok, Err, ⊤}
use Rattle.std.specs.Option.{option_map, ForSome}
use Rattle.std.specs.FinMap.{empty, get, insert}
use Rattle.outside.specs.Counts.{next_count, RisesWhere}
use Rattle.outside.specs.Files.{Files, IsReadFrom, OthersStay}
use Rattle.outside.specs.declared.fault.Fault.{Fault}
use Rattle.outside.specs.declared.fault.Fault.TheVariants.{Failed, Memory}
use Rattle.outside.specs.declared.fault.ShelfFault.{ShelfFault}
use Rattle.outside.specs.declared.fault.ShelfFault.TheVariants.{Absent, Failed as ReadFailed, Memory as ReadMemory}

-- The files, where they are told, how often the shelf has failed and a name was absent, and whether
-- it is told that it never fails.
pub record ShelfTold : Type 0 where
  pub files : Option Files
  pub faults : ℕ
  pub absences : ℕ
  pub never_fails : Bool

-- no files, and nothing done yet
abbrev pub new_shelf : Bool → ShelfTold
new_shelf never_fails = record {
  files = Some empty;
  faults = 0;
  absences = 0;
  never_fails = never_fails;
}

-- no more than the counts
abbrev pub counts_alone : ℕ → ℕ → ShelfTold
counts_alone faults absences = record {
  files = None;
  faults = faults;
  absences = absences;
  never_fails = false;
}

-- one more fault
abbrev pub with_fault : ShelfTold → ShelfTold
with_fault told = record told { faults = next_count told.faults }

-- one more absence
abbrev pub with_absence : ShelfTold → ShelfTold
with_absence told = record told { absences = next_count told.absences }

-- these bytes under the name
abbrev pub with_file : List ℕ → List ℕ → ShelfTold → ShelfTold
with_file name bytes told = record told {
  files = option_map (λ files. insert files name bytes) told.files;
}

-- other files
abbrev pub with_files : Option Files → ShelfTold → ShelfTold
with_files files told = record told { files = files }

-- ---- one call

-- A read of a name that was refused.
abbrev pub IsReadRefused : ShelfTold → ShelfTold → List ℕ → ShelfFault → Type 0
IsReadRefused old new name Absent =
    (new ≡ with_absence old) × ForSome old.files (λ files. get files name ≡ None)
IsReadRefused old new name ReadFailed = (new ≡ with_fault old) × (old.never_fails ≡ false)
IsReadRefused old new name ReadMemory = new ≡ old

-- A read of a name from an offset on, into a piece that was `before` and is `after`.
abbrev pub IsReadAt : ShelfTold → ShelfTold → List ℕ → ℕ → List ℕ → List ℕ → Result ℕ ShelfFault
    → Type 0
IsReadAt old new name offset before after (Ok count) =
    (new ≡ old) × (count ≤ length before)
    × ForSome old.files (λ files. IsReadFrom files name offset before after count)
IsReadAt old new name offset before after (Err fault) = IsReadRefused old new name fault

-- Bytes put under a name, in place of what was there. Refused, it isn't known what is under that
-- name.
abbrev pub IsPut : {A : Type 0} → ShelfTold → ShelfTold → List ℕ → List ℕ → Result A Fault → Type 0
IsPut old new name bytes (Ok done) = new ≡ with_file name bytes old
IsPut old new name bytes (Err Failed) =
    (new ≡ with_files new.files (with_fault old)) × OthersStay old.files new.files name
    × (old.never_fails ≡ false)
IsPut old new name bytes (Err Memory) =
    (new ≡ with_files new.files old) × OthersStay old.files new.files name

-- ---- any number of reads

-- Reads, of which one failed or found its name absent just where these hold.
pub record UsesShelf (old new : ShelfTold) (failed absent : Type 0) : Type 0 where
  pub files : new.files ≡ old.files
  pub faults : RisesWhere old.faults new.faults failed
  pub absences : RisesWhere old.absences new.absences absent
  pub as_told : new.never_fails ≡ old.never_fails
  pub never_failed : old.never_fails ≡ true → ¬ failed

-- ---- which calls were made

-- A call of a shelf: a read of a name, which began at this place and to which so many bytes came, none
-- where it was refused; or a write of bytes under a name, taken or refused.
pub data ShelfCall : Type 0 where
  a_read : (name : List ℕ) (from count : ℕ) → ShelfCall
  a_write : (name bytes : List ℕ) → ShelfCall

-- the read of a name from a place on, with this result
abbrev pub read_made : List ℕ → ℕ → Result ℕ ShelfFault → ShelfCall
read_made name from (Ok count) = a_read name from count
read_made name from (Err fault) = a_read name from 0

-- the calls made, and these after them, where they are told
abbrev pub then_calls : Option (List ShelfCall) → List ShelfCall → Option (List ShelfCall)
then_calls told more = option_map (λ calls. calls ++ more) told

-- They are reads, all of this name. The first begins at this place, and each other where the one
-- before it ended.
abbrev pub ReadOn : List ℕ → ℕ → List ShelfCall → Type 0
ReadOn name place [] = ⊤
ReadOn name place (a_read other from count ∷ calls) =
    (other ≡ name) × (from ≡ place) × ReadOn name (place + count) calls
ReadOn name place (a_write other bytes ∷ calls) = ⊥

-- The file of the name was read once, from its front on, and nothing else was done.
abbrev pub IsReadOnce : Option (List ShelfCall) → Option (List ShelfCall) → List ℕ → Type 0
IsReadOnce old new name = (calls : List ShelfCall) × (new ≡ then_calls old calls) × ReadOn name 0 calls
