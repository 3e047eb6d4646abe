-- A walk through a history.
use Rattle.std.specs.Prelude.{List, [], ◌∷◌, ◌++◌, Result, OnOk}
use Rattle.std.specs.declared.alloc.AllocError.{AllocError}
use Rattle.history.specs.Names.{Named}

-- What is made of names becomes what is made of them with one name more.
abbrev pub TakesIn : {D : Type 0} → (List Named → D → Type 0) → Named → D → D → Result (Unit {0}) AllocError → Type 0
TakesIn is_of named old new result = (names : List Named) → is_of names old → OnOk result (is_of (names ++ named ∷ []) new)
