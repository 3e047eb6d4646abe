-- A walk through a history, one happening further.
use Rattle.std.proofs.Common.{◌≡◌, ◌∙◌, ℕ, ◌+◌, ◌<◌, List, [], ◌∷◌, ◌++◌, length, take, get_or, add-one, ap, sym}
use Rattle.std.proofs.Math.Seq.{take-suc}
use Rattle.std.proofs.lemmas.List.{map-append}
use Rattle.history.specs.Names.{name, names}
use Rattle.history.specs.declared.happening.Happening.{Happening}

pub taken_more : {A : Type 0} (xs : List A) (i : ℕ) (x : A) → i < length xs → x ≡ get_or xs i x → take (i + 1) xs ≡ take i xs ++ x ∷ []
taken_more xs i x inside is = ap (λ k. take k xs) (add-one i) ∙ take-suc xs i x inside ∙ ap (λ y. take i xs ++ y ∷ []) (sym is)

pub names_more : (xs : List Happening) (i : ℕ) (h : Happening) → i < length xs → h ≡ get_or xs i h → names (take (i + 1) xs) ≡ names (take i xs) ++ name h ∷ []
names_more xs i h inside is = ap names (taken_more xs i h inside is) ∙ map-append name (take i xs) (h ∷ [])
