-- What an operation makes of a set of objects.
use Rattle.std.specs.Prelude.{◌≡◌, ℕ, List, Bool, true, false, Result, Ok, Err, replicate}
use Rattle.std.specs.declared.vec.Vec.{Vec}
use Rattle.basis.specs.declared.or_memory.OrMemory.{OrMemory}
use Rattle.basis.specs.declared.or_memory.OrMemory.TheVariants.{Memory, Other}
use Rattle.script_tree.specs.Datum.{Datum, null, number}
use Rattle.script_tree.specs.Objects.{acted, plausible}
use Rattle.script_tree.specs.declared.operation.Act.{Act}
use Rattle.script_tree.specs.declared.operation.Choice.{Choice}
use Rattle.script_tree.specs.declared.operation.Choice.TheVariants.{Nothing, Number}
use Rattle.script_tree.specs.declared.operation.Object.{Object}
use Rattle.script_tree.specs.declared.operation.Op.{Op}
use Rattle.script_fit.specs.ActOf.{IsActOf}
use Rattle.script_fit.specs.FitsOperation.{FitsAct}
use Rattle.script_fit.specs.Laws.{objects_after}
use Rattle.object_cells.specs.Stores.{has_store}
use Rattle.object_set.specs.ObjectSets.{HeldObjects, objects_of}
use Rattle.object_set.specs.declared.set.Refused.{Refused}

-- The operation is one of objects with these stores and tables. The sizes of its values aren't asked about.
abbrev pub IsOpOf : HeldObjects → Op → Type 0
IsOpOf h op = IsActOf (has_store h.stores) h.tables.widths op.object op.act

-- It is, has a statement where it is a transaction, and its values are within the limits.
abbrev pub FitsSet : HeldObjects → Op → Type 0
FitsSet h op = FitsAct (has_store h.stores) h.tables.widths op.object op.act

-- The same stores and tables are there.
pub record HasSame (old new : HeldObjects) : Type 0 where
  pub stores : (s : List ℕ) → has_store new.stores s ≡ has_store old.stores s
  pub widths : new.tables.widths ≡ old.tables.widths

-- the operation that is this act on this object
abbrev pub op_of : Object → Act → Op
op_of object act = record { object = object; act = act }

-- what an object answers
abbrev pub answer_now : Object → Act → Choice → HeldObjects → Datum
answer_now object act choice h = (acted act choice (objects_of h object)).1

-- the number that was chosen
abbrev pub told : Choice → Datum
told Nothing = null
told (Number n) = number n

-- The operation gives this answer, and leaves the objects as it is defined to.
pub record Does (op : Op) (choice : Choice) (old new : HeldObjects) (answer : Datum) : Type 0 where
  pub answered : answer ≡ answer_now op.object op.act choice old
  pub left : (o : Object) → objects_of new o ≡ objects_after op choice (objects_of old) o
  pub same : HasSame old new

-- It does, and gives this answer so many times.
pub record DoesTimes {A : Type 0} (count : ℕ) (op : Op) (choice : Choice) (old new : HeldObjects) (answers : Vec Datum A) : Type 0 where
  pub answer : Datum
  pub done : Does op choice old new answer
  pub given : answers.items ≡ replicate count answer

-- whether the object takes the choice
abbrev pub takes : Op → Choice → HeldObjects → Bool
takes op choice h = plausible op.act choice (objects_of h op.object)

-- It is done where the object takes the choice, and refused where it doesn't. Refused, or without memory, nothing changes.
abbrev pub IsApplied : Op → Choice → HeldObjects → HeldObjects → Result Datum (OrMemory Refused) → Type 0
IsApplied op choice old new (Ok answer) = (takes op choice old ≡ true) × Does op choice old new answer
IsApplied op choice old new (Err (Other refused)) = (takes op choice old ≡ false) × (new ≡ old)
IsApplied op choice old new (Err Memory) = new ≡ old

-- the same, with so many answers
abbrev pub IsAppliedTimes : {A : Type 0} → ℕ → Op → Choice → HeldObjects → HeldObjects → Result (Vec Datum A) (OrMemory Refused) → Type 0
IsAppliedTimes count op choice old new (Ok answers) = (takes op choice old ≡ true) × DoesTimes count op choice old new answers
IsAppliedTimes count op choice old new (Err (Other refused)) = (takes op choice old ≡ false) × (new ≡ old)
IsAppliedTimes count op choice old new (Err Memory) = new ≡ old
