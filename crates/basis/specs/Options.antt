-- Words on options.
use Rattle.std.specs.Prelude.{Option, Some, None}

-- one answer after another, as long as there is one
infixl 10 ◌>>=◌
abbrev pub ◌>>=◌ : {A B : Type 0} → Option A → (A → Option B) → Option B
None >>= f = None
(Some x) >>= f = f x
