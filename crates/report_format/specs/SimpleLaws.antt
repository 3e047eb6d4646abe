-- Fields without parts: no two are spelled alike, and each has a byte.
use Rattle.std.proofs.Common.{◌≡◌, ℕ, List, ◌∷◌, ap, sym, refl, ◌∙◌, eqb, cond}
use Rattle.script_tree.specs.declared.comparison.Comparison.{Comparison}
use Rattle.script_tree.specs.declared.comparison.Comparison.TheVariants.{Equal, Unequal, Less, AtMost, Greater, AtLeast}
use Rattle.wire.specs.Spellings.{HasOneSpelling}
use Rattle.wire.proofs.OneSpelling.{one_of_32}
use Rattle.report_format.specs.Operations.{u32_field, comparison_code, comparison_field}

-- No two numbers of 32 bits are spelled alike.
pub u32_one : HasOneSpelling u32_field
u32_one = one_of_32

-- ---- comparisons

-- the comparison of a byte
abbrev comparison_of : ℕ → Comparison
comparison_of n =
    cond (eqb n 1) Equal (cond (eqb n 2) Unequal (cond (eqb n 3) Less (cond (eqb n 4) AtMost (cond (eqb n 5) Greater AtLeast))))

-- A comparison is the one of its byte.
its_code : (c : Comparison) → comparison_of (comparison_code c) ≡ c
its_code Equal = refl
its_code Unequal = refl
its_code Less = refl
its_code AtMost = refl
its_code Greater = refl
its_code AtLeast = refl

-- Equal lists have the same first byte.
first_is : (a b : ℕ) (r s : List ℕ) → a ∷ r ≡ b ∷ s → a ≡ b
first_is a b r s e = cc

-- Equal lists are the same behind their first byte.
pub rest_is : (a b : ℕ) (r s : List ℕ) → a ∷ r ≡ b ∷ s → r ≡ s
rest_is a b r s e = cc

-- No two comparisons are spelled alike.
pub comparison_one : HasOneSpelling comparison_field
comparison_one x y r s p q e =
    let same = first_is (comparison_code x) (comparison_code y) r s e in
    (sym (its_code x) ∙ ap comparison_of same ∙ its_code y, rest_is (comparison_code x) (comparison_code y) r s e)
