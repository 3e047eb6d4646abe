-- The variables that a place of a program sees, the newest last.
use Rattle.std.specs.Prelude.{ℕ, if◌then◌else◌, List, [], ◌∷◌, ◌++◌}
use Rattle.std.specs.Str.{bytes_eq}
use Rattle.script_tree.specs.Datum.{Datum, null}
use Rattle.script_tree.specs.declared.syntax.name.Name.{Name}
pub use Rattle.script_meaning.specs.declared.run.Variable.{Variable}

-- the variables that a place sees, the newest last
abbrev pub Variables : Type 0
Variables = List Variable

-- the value of a variable, else null
abbrev pub value_in : Variables → List ℕ → Datum
value_in [] x = null
value_in (v ∷ vs) x = if bytes_eq x v.name then v.value else value_in vs x

-- with one variable more
abbrev pub declared : Variables → List ℕ → Datum → Variables
declared vs x d = vs ++ record { name = x; value = d } ∷ []

-- where the variable of this name has another value
abbrev pub assigned : Variables → List ℕ → Datum → Variables
assigned [] x d = []
assigned (v ∷ vs) x d = if bytes_eq x v.name then record v { value = d } ∷ vs else v ∷ assigned vs x d

-- the parameters of a function with the values of a call
abbrev pub bound : List Name → List Datum → Variables
bound (x ∷ xs) (d ∷ ds) = record { name = x.text; value = d } ∷ bound xs ds
bound (x ∷ xs) [] = []
bound [] ds = []
