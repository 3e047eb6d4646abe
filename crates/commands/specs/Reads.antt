-- Which inputs a command reads, and how.
use Rattle.std.specs.Prelude.{◌≡◌, ℕ, List, [], ◌∷◌, ◌++◌, Option, Some, None, Result, Ok, Err}
use Rattle.outside.specs.Shelves.{IsReadOnce}
use Rattle.command_inputs.specs.Faults.{role_of}
use Rattle.command_inputs.specs.declared.fault.InputError.{InputError}
use Rattle.command_inputs.specs.declared.fault.InputError.TheVariants as error
use Rattle.command_inputs.specs.declared.fault.InputFault.{InputFault}
use Rattle.command_inputs.specs.declared.role.Role.{Role}
use Rattle.command_words.specs.Commands.{Command}
use Rattle.commands.specs.Asked.{NamedInput, inputs_of}
use Rattle.commands.specs.Seen.{ShelfCalls}

-- The files of these inputs were read, one after the other and each once, and nothing else was done.
abbrev pub AreReadOnce : ShelfCalls → ShelfCalls → List NamedInput → Type 0
AreReadOnce old new [] = new ≡ old
AreReadOnce old new (input ∷ inputs) =
    (next : ShelfCalls) × IsReadOnce old next input.1 × AreReadOnce next new inputs

-- Of these inputs those up to one of this role were read, and none after it.
pub record AreReadTo (inputs : List NamedInput) (role : Role) (old new : ShelfCalls) : Type 0 where
  pub before : List NamedInput
  pub name : List ℕ
  pub after : List NamedInput
  pub parts : inputs ≡ before ++ (role, name) ∷ after
  pub reads : AreReadOnce old new (before ++ (role, name) ∷ [])

-- Of these inputs a front part was read.
pub record AreReadInPart (inputs : List NamedInput) (old new : ShelfCalls) : Type 0 where
  pub before : List NamedInput
  pub after : List NamedInput
  pub parts : inputs ≡ before ++ after
  pub reads : AreReadOnce old new before

-- What was read of these inputs, of which this came: all of them, those up to the one at fault, or,
-- where it halts, a front part.
abbrev pub AreReadFor : {A : Type 0} → List NamedInput → ShelfCalls → ShelfCalls → Result A InputError → Type 0
AreReadFor inputs old new (Ok x) = AreReadOnce old new inputs
AreReadFor inputs old new (Err (error.Fault fault)) = AreReadTo inputs (role_of fault) old new
AreReadFor inputs old new (Err (error.Halt halt)) = AreReadInPart inputs old new

-- What a command reads where it comes to this fault of an input, or to none: the inputs up to the
-- one at fault, or all.
abbrev pub ReadsUpTo : Option InputFault → Command → ShelfCalls → ShelfCalls → Type 0
ReadsUpTo None command old new = AreReadOnce old new (inputs_of command)
ReadsUpTo (Some fault) command old new = AreReadTo (inputs_of command) (role_of fault) old new
