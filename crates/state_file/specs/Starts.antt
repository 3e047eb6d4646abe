-- The objects that a program starts with.
use Rattle.std.specs.Prelude.{◌≡◌, ℕ, List}
use Rattle.script_tree.specs.Programs.{Program}
use Rattle.script_tree.specs.declared.operation.Object.{Object}
use Rattle.object_set.specs.ObjectSets.{HeldObjects, IsSetOf, objects_of}
use Rattle.state_file.specs.States.{SpellsState, IsFaultless}
use Rattle.state_file.specs.Stored.{given_objects}
use Rattle.state_file.specs.declared.given.Given.{Given}

-- The set is that of the program, and each object holds what is given.
pub record Holds (program : Program) (given : Given) (objects : HeldObjects) : Type 0 where
  pub declared : IsSetOf program objects
  pub held : (o : Object) → objects_of objects o ≡ given_objects program given o

-- The bytes are a state without a fault, and the objects hold what it gives.
pub record IsStart (program : Program) (bytes : List ℕ) (objects : HeldObjects) : Type 0 where
  pub given : Given
  pub spelled : SpellsState program bytes given
  pub holds : Holds program given objects

-- What is given has no fault, and the objects hold it.
abbrev pub IsStored : Program → Given → HeldObjects → Type 0
IsStored program given objects = IsFaultless program given × Holds program given objects
