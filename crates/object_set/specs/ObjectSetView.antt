-- The set of the code, as definitions see it.
use Rattle.object_set.specs.ObjectSets.{HeldObjects, held_objects, AreKept}
use Rattle.object_set.specs.declared.set.ObjectSet.TheInside.{Inside}

-- what the set of the code holds
abbrev pub objects_in : Inside → HeldObjects
objects_in s = held_objects s.registers s.stores s.tables s.clock

-- each of its objects holds what it may
abbrev pub IsKeptIn : Inside → Type 0
IsKeptIn s = AreKept (objects_in s)
