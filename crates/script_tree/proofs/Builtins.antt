-- A name in one list of functions, or in the next one.
use Rattle.std.proofs.Common.{◌≡◌, Bool, true, false, ℕ, List, [], ◌∷◌, ◌++◌, Some, if◌then◌else◌, refl}
use Rattle.std.specs.Option.{option_or}
use Rattle.std.specs.Str.{bytes_eq}
use Rattle.script_tree.specs.Builtins.{named_in}
use Rattle.script_tree.specs.declared.syntax.builtin.Builtin.{Builtin}

first_or : (hit : Bool) (b : Builtin) (rest tail both : _) → both ≡ option_or rest tail
    → (if hit then Some b else both) ≡ option_or (if hit then Some b else rest) tail
first_or true b rest tail both e = refl
first_or false b rest tail both e = e

pub in_either : (es later : List (List ℕ × Builtin)) (name : List ℕ)
    → named_in (es ++ later) name ≡ option_or (named_in es name) (named_in later name)
in_either [] later name = refl
in_either (e ∷ es) later name = first_or (bytes_eq name e.0) e.1 (named_in es name) (named_in later name) (named_in (es ++ later) name) (in_either es later name)
