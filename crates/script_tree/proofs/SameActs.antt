-- The derived comparisons of acts are the tests of equal ones.
use Rattle.std.proofs.Common.{◌≡◌, ◌∙◌, ℕ, Bool, true, ◌&&◌, List, [], ◌∷◌, refl, sym, ap}
use Rattle.std.specs.Prelude.{nat_eq}
use Rattle.std.specs.Cmp.Lexicographic.{pointwise}
use Rattle.std.specs.Ordering.{int_eq, is_eq}
use Rattle.std.proofs.lemmas.Map.Text.{is_eq-slice_cmp}
use Rattle.basis.specs.Lists.{each}
use Rattle.script_tree.specs.declared.comparison.Comparison.{Comparison}
use Rattle.script_tree.specs.declared.comparison.Comparison.TheVariants as by
use Rattle.script_tree.specs.declared.operation.Act.{Act}
use Rattle.script_tree.specs.declared.operation.Act.TheVariants.{Read, Write, Get, Put, Remove, Transact, Now, Roll}
use Rattle.script_tree.specs.declared.transaction.Change.{Change}
use Rattle.script_tree.specs.declared.transaction.Statement.{Statement}
use Rattle.script_tree.specs.declared.transaction.Statement.TheVariants.{Insert, Select, Update, Delete, Expect}
use Rattle.script_tree.specs.declared.transaction.Test.{Test}
use Rattle.script_tree.specs.Alike.{same_datum, same_comparison, same_test, same_change, same_statement, same_act}
use Rattle.script_tree.proofs.Equals.{act_is, act_itself}
use Rattle.script_tree.specs.contracts.comparison.ComparisonPartialEq.TheImpl as comparison_eq
use Rattle.script_tree.specs.contracts.transaction.TestPartialEq.TheImpl as test_eq
use Rattle.script_tree.specs.contracts.transaction.ChangePartialEq.TheImpl as change_eq
use Rattle.script_tree.specs.contracts.transaction.StatementPartialEq.TheImpl as statement_eq
use Rattle.script_tree.specs.contracts.operation.ActPartialEq.TheImpl as act_eq
use Rattle.script_tree.specs.contracts.operation.ActOrd.TheImpl as act_ord
use Rattle.script_tree.specs.contracts.operation.ActOrd.TheImpl.Laws as act_laws

alike : {A : Type 0} (f g : A → A → Bool) → ((a b : A) → f a b ≡ g a b) → (xs ys : List A) → pointwise f xs ys ≡ each g xs ys
alike f g e [] [] = refl
alike f g e [] (y ∷ ys) = refl
alike f g e (x ∷ xs) [] = refl
alike f g e (x ∷ xs) (y ∷ ys) = λ i. e x y i && alike f g e xs ys i

alike_data : (xs ys : List _) → pointwise same_datum xs ys ≡ each same_datum xs ys
alike_data = alike same_datum same_datum (λ a b. refl)

alike_columns : (xs ys : List ℕ) → pointwise nat_eq xs ys ≡ each nat_eq xs ys
alike_columns = alike nat_eq nat_eq (λ a b. refl)

comparisons : (a b : Comparison) → (comparison_eq.ghosts).eq a b ≡ same_comparison a b
comparisons by.Equal by.Equal = refl
comparisons by.Unequal by.Unequal = refl
comparisons by.Less by.Less = refl
comparisons by.AtMost by.AtMost = refl
comparisons by.Greater by.Greater = refl
comparisons by.AtLeast by.AtLeast = refl
comparisons a b = refl

tests : (a b : Test) → (test_eq.ghosts).eq a b ≡ same_test a b
tests a b = λ i. nat_eq a.column b.column && (comparisons a.comparison b.comparison i && same_datum a.value b.value)

changes : (a b : Change) → (change_eq.ghosts).eq a b ≡ same_change a b
changes a b = refl

alike_tests : (xs ys : List Test) → pointwise (test_eq.ghosts).eq xs ys ≡ each same_test xs ys
alike_tests = alike (test_eq.ghosts).eq same_test tests

alike_changes : (xs ys : List Change) → pointwise (change_eq.ghosts).eq xs ys ≡ each same_change xs ys
alike_changes = alike (change_eq.ghosts).eq same_change changes

statements : (a b : Statement) → (statement_eq.ghosts).eq a b ≡ same_statement a b
statements (Insert t r) (Insert u s) = λ i. nat_eq t u && alike_data r s i
statements (Select t c a) (Select u d b) = λ i. nat_eq t u && (alike_columns c d i && alike_tests a b i)
statements (Update t c a) (Update u d b) = λ i. nat_eq t u && (alike_changes c d i && alike_tests a b i)
statements (Delete t a) (Delete u b) = λ i. nat_eq t u && alike_tests a b i
statements (Expect m t a) (Expect n u b) = λ i. int_eq m n && (nat_eq t u && alike_tests a b i)
statements a b = refl

-- equal acts are the same
pub same_acts : (a b : Act) → (act_eq.ghosts).eq a b ≡ same_act a b
same_acts Read Read = refl
same_acts (Write a) (Write b) = refl
same_acts (Get k) (Get l) = is_eq-slice_cmp k l
same_acts (Put k a) (Put l b) = λ i. is_eq-slice_cmp k l i && same_datum a b
same_acts (Remove k) (Remove l) = is_eq-slice_cmp k l
same_acts (Transact a) (Transact b) = alike (statement_eq.ghosts).eq same_statement statements a b
same_acts Now Now = refl
same_acts (Roll a) (Roll b) = refl
same_acts a b = refl

-- and so are those that tie
pub acts_tie : (a b : Act) → is_eq ((act_ord.ghosts).cmp a b) ≡ same_act a b
acts_tie a b = sym (act_laws.matches_eq-law a b) ∙ same_acts a b

pub same_exactly : (a b : Act) → (same_act a b ≡ true → a ≡ b) × (a ≡ b → same_act a b ≡ true)
same_exactly a b = (act_is a b, λ e. ap (same_act a) (sym e) ∙ act_itself a)
