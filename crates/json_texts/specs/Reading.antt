-- The JSON tree that bytes spell, and what it gives.
use Rattle.std.specs.Prelude.{◌≡◌, ℕ, List, IsUtf8, Option, Some, None}
use Rattle.serde_json.specs.Data as json
use Rattle.serde_json.specs.Read.{read}

-- The bytes are a JSON text, and this is its tree.
abbrev pub IsJson : List ℕ → json.Data → Type 0
IsJson bytes d = IsUtf8 bytes × (read bytes ≡ Some d)

-- The bytes aren't a JSON text.
abbrev pub IsNoJson : List ℕ → Type 0
IsNoJson bytes = (d : json.Data) → IsJson bytes d → ⊥

-- The bytes are a JSON text of the right shape, which gives this.
abbrev pub IsJsonOf : {A : Type 0} → (json.Data → Option A) → List ℕ → A → Type 0
IsJsonOf shape bytes given = (d : json.Data) × IsJson bytes d × (shape d ≡ Some given)

-- The bytes are a JSON text of another shape.
abbrev pub HasOtherShape : {A : Type 0} → (json.Data → Option A) → List ℕ → Type 0
HasOtherShape shape bytes = (d : json.Data) × IsJson bytes d × (shape d ≡ None)
