-- What is left of shapes and values where either is over.
use Rattle.std.proofs.Common.{◌≡◌, ◌∙◌, ℕ, List, [], ◌∷◌, length, drop, min, inl, inr, refl, ap, arith}
use Rattle.std.proofs.lemmas.Bool.{cases_lt}
use Rattle.std.proofs.lemmas.List.{drop_all}
use Rattle.script_tree.specs.Datum.{Datum}
use Rattle.script_code.specs.CodeRun.{tests_with, changes_with}
use Rattle.script_code.specs.declared.instruction.TestShape.{TestShape}

no_values : (shapes : List TestShape) → tests_with shapes [] ≡ []
no_values [] = refl
no_values (s ∷ ss) = refl

pub no_tests_left : (n : ℕ) (shapes : List TestShape) (ds : List Datum) → n ≡ min (length shapes) (length ds) → tests_with (drop n shapes) (drop n ds) ≡ []
no_tests_left n shapes ds h = elim (cases_lt (length shapes) (length ds)) [
  | inl less ↦ ap (λ ss. tests_with ss (drop n ds)) (drop_all n shapes (omega (arith, h, less)))
  | inr more ↦ ap (λ es. tests_with (drop n shapes) es) (drop_all n ds (omega (arith, h, more))) ∙ no_values (drop n shapes)
]

no_values_set : (columns : List ℕ) → changes_with columns [] ≡ []
no_values_set [] = refl
no_values_set (x ∷ xs) = refl

pub no_changes_left : (n : ℕ) (columns : List ℕ) (ds : List Datum) → n ≡ min (length columns) (length ds) → changes_with (drop n columns) (drop n ds) ≡ []
no_changes_left n columns ds h = elim (cases_lt (length columns) (length ds)) [
  | inl less ↦ ap (λ xs. changes_with xs (drop n ds)) (drop_all n columns (omega (arith, h, less)))
  | inr more ↦ ap (λ es. changes_with (drop n columns) es) (drop_all n ds (omega (arith, h, more))) ∙ no_values_set (drop n columns)
]
