-- What an input is: a thing that its file spells, or a fault.
use Rattle.std.specs.Prelude.{◌≡◌, ◌⊎◌, ℕ, ◌<◌, ◌≤◌, List, length, Option, Some, None, Result, Ok, Err}
use Rattle.std.specs.FinMap.{get}
use Rattle.std.specs.Option.{ForSome}
use Rattle.outside.specs.Shelves.{ShelfTold}
use Rattle.command_inputs.specs.declared.fault.InputError.{InputError}
use Rattle.command_inputs.specs.declared.fault.InputError.TheVariants.{Fault, Halt as Halts}
use Rattle.command_inputs.specs.declared.fault.InputFault.{InputFault}
use Rattle.command_inputs.specs.declared.fault.InputFault.TheVariants.{Absent, TooLong}
use Rattle.command_inputs.specs.declared.role.Role.{Role}

-- a kind of input: what it is to a command, how many bytes it may have, what its bytes spell, and
-- which faults they have
pub record Input (A : Type 0) : Type 1 where
  pub role : Role
  pub most : ℕ
  pub spells : List ℕ → A → Type 0
  pub has_fault : List ℕ → InputFault → Type 0

-- bytes as they are
abbrev pub bytes_input : Role → ℕ → Input (List ℕ)
bytes_input role most = record {
  role = role;
  most = most;
  spells = λ bytes x. x ≡ bytes;
  has_fault = λ bytes fault. ⊥;
}

-- The bytes are more than the limit, or have a fault.
abbrev pub AreAtFault : {A : Type 0} → Input A → List ℕ → InputFault → Type 0
AreAtFault input bytes fault =
    ((input.most < length bytes) × (fault ≡ TooLong input.role))
    ⊎ ((length bytes ≤ input.most) × input.has_fault bytes fault)

-- The file spells this thing, or has this fault.
abbrev pub IsInput : {A : Type 0} → Input A → Option (List ℕ) → Result A InputFault → Type 0
IsInput input None (Ok x) = ⊥
IsInput input None (Err fault) = fault ≡ Absent input.role
IsInput input (Some bytes) (Ok x) = (length bytes ≤ input.most) × input.spells bytes x
IsInput input (Some bytes) (Err fault) = AreAtFault input bytes fault

-- The thing that was read, seen by `view`, or the fault, is that of the file. Nothing is said where
-- the command halts.
abbrev pub IsRead : {A X : Type 0} → (X → A) → Input A → Option (List ℕ) → Result X InputError
    → Type 0
IsRead view input file (Ok x) = IsInput input file (Ok (view x))
IsRead view input file (Err (Fault fault)) = IsInput input file (Err fault)
IsRead view input file (Err (Halts halt)) = Unit {0}

-- The same of the file of a name, where the shelf tells its files.
abbrev pub IsReadUnder : {A X : Type 0} → (X → A) → Input A → ShelfTold → List ℕ
    → Result X InputError → Type 0
IsReadUnder view input told name result =
    ForSome told.files (λ files. IsRead view input (get files name) result)
