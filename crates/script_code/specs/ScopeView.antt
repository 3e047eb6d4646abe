-- The names in scope, as the code keeps them.
use Rattle.std.specs.Prelude.{ℕ, List, map}
use denote.Ref.{Bor}
use Rattle.script_code.specs.Code.{Names}
use Rattle.script_code.specs.declared.scope.Scope.TheInside.{Inside}

-- the text of a name
abbrev pub text_in : Bor (List ℕ) → List ℕ
text_in name = name.now

-- the names in scope, the newest last
abbrev pub names_in : Inside → Names
names_in scope = map text_in scope.names.items
