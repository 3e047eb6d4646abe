-- Words on results.
use Rattle.std.specs.Prelude.{Result, Ok, Err}

-- one answer after another, as long as there is one
infixl 10 ◌>>=◌
abbrev pub ◌>>=◌ : {A B E : Type 0} → Result A E → (A → Result B E) → Result B E
(Ok x) >>= f = f x
(Err e) >>= f = Err e
