-- The known variables, as the code keeps them.
use Rattle.std.specs.Prelude.{◌≡◌, ℕ, Bool, false, List, [], ◌∷◌}
use Rattle.std.specs.BTreeSet.{BTreeSet, contains_by}
use Rattle.std.specs.Cmp.Lexicographic.{slice_cmp}
use Rattle.std.specs.Ordering.{nat_cmp}
use denote.Ref.{Bor}
use Rattle.script_check.specs.Validity.{has}
use Rattle.script_check.specs.declared.scope.Scope.TheInside.{Inside}

-- whether the set has this text
abbrev pub holds : BTreeSet (Bor (List ℕ)) → List ℕ → Bool
holds set x = contains_by (λ key. slice_cmp nat_cmp x key.now) set

-- the texts, the last one first, before these
abbrev pub newest_first : List (List ℕ) → List (Bor (List ℕ)) → List (List ℕ)
newest_first older [] = older
newest_first older (x ∷ xs) = newest_first (x.now ∷ older) xs

-- No text is there twice.
abbrev pub AreApart : List (List ℕ) → Type 0
AreApart [] = Unit {0}
AreApart (x ∷ xs) = (has xs x ≡ false) × AreApart xs

-- the names that are known, the newest first
abbrev pub names_in : Inside → List (List ℕ)
names_in scope = newest_first [] scope.declared.items

-- The set has the names that were declared, each of which was declared once.
pub record IsScope (scope : Inside) : Type 0 where
  pub known : (x : List ℕ) → holds scope.known x ≡ has (names_in scope) x
  pub apart : AreApart (names_in scope)
