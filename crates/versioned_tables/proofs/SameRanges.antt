-- Statements that look at the same rows.
use Rattle.std.proofs.Common.{◌≡◌, ◌∙◌, ℕ, zero, suc, ◌+◌, ◌-◌, ◌<◌, nat_eq, true, List, [], ◌∷◌, length, get_or, take, Some, refl, sym, ap, subst, arith, true≢false}
use Rattle.std.specs.Prelude.{slice_index_or}
use Rattle.std.specs.Cmp.Lexicographic.{pointwise}
use Rattle.std.specs.Ordering.{is_eq}
use Rattle.std.proofs.lemmas.Bool.{and_parts, eqb-true}
use Rattle.basis.proofs.Options.{some_is, none_is_not}
use Rattle.script_tree.specs.Order.{compare}
use Rattle.script_tree.specs.OrderLaws.{compare_exact}
use Rattle.script_tree.specs.declared.comparison.Comparison.{Comparison}
use Rattle.script_tree.specs.declared.comparison.Comparison.TheVariants as by
use Rattle.script_tree.specs.declared.transaction.Test.{Test}
use Rattle.script_tree.specs.declared.transaction.Statement.{Statement}
use Rattle.script_tree.specs.declared.transaction.Statement.TheVariants.{Insert, Select, Update, Delete, Expect}
use Rattle.script_tree.specs.contracts.comparison.ComparisonPartialEq.TheImpl as comparison_eq
use Rattle.script_tree.specs.contracts.transaction.TestPartialEq.TheImpl as test_eq
use Rattle.versioned_tables.specs.Standing.{RowsOverTime, Keys, Finds, Reaches, AllReached, range_in, LookAlike}
use Rattle.versioned_tables.proofs.KeyFacts.{equal}

-- ---- equal tests

comparison_is : (a b : Comparison) → (comparison_eq.ghosts).eq a b ≡ true → a ≡ b
comparison_is by.Equal by.Equal e = refl
comparison_is by.Unequal by.Unequal e = refl
comparison_is by.Less by.Less e = refl
comparison_is by.AtMost by.AtMost e = refl
comparison_is by.Greater by.Greater e = refl
comparison_is by.AtLeast by.AtLeast e = refl
comparison_is a b e = absurd (true≢false (sym e))

test_is : (a b : Test) → (test_eq.ghosts).eq a b ≡ true → a ≡ b
test_is a b e =
    let p = and_parts (nat_eq a.column b.column) _ e in
    let q = and_parts ((comparison_eq.ghosts).eq a.comparison b.comparison) (is_eq (compare a.value b.value)) p.1 in
    λ i. record {
      column = eqb-true a.column b.column p.0 i;
      comparison = comparison_is a.comparison b.comparison q.0 i;
      value = compare_exact a.value b.value (equal (compare a.value b.value) q.1) i;
    }

pub tests_are : (some others : List Test) → pointwise (test_eq.ghosts).eq some others ≡ true → some ≡ others
tests_are [] [] e = refl
tests_are [] (y ∷ ys) e = absurd (true≢false (sym e))
tests_are (x ∷ xs) [] e = absurd (true≢false (sym e))
tests_are (x ∷ xs) (y ∷ ys) e = let p = and_parts ((test_eq.ghosts).eq x y) (pointwise (test_eq.ghosts).eq xs ys) e in λ i. test_is x y p.0 i ∷ tests_are xs ys p.1 i

-- ---- equal ranges

-- a statement with a range reaches what the range has, and nothing else
range_reaches : (s : Statement) (t : ℕ) (tests : List Test) (hs : RowsOverTime) (keys : Keys)
    → range_in s ≡ Some (t, tests) → Reaches hs keys s ≡ Finds keys t tests (slice_index_or hs t [])
range_reaches (Insert u row) t tests hs keys e = absurd (none_is_not e)
range_reaches (Select u columns x) t tests hs keys e = ap (λ (r : ℕ × List Test). Finds keys r.0 r.1 (slice_index_or hs r.0 [])) (some_is e)
range_reaches (Update u changes x) t tests hs keys e = ap (λ (r : ℕ × List Test). Finds keys r.0 r.1 (slice_index_or hs r.0 [])) (some_is e)
range_reaches (Delete u x) t tests hs keys e = ap (λ (r : ℕ × List Test). Finds keys r.0 r.1 (slice_index_or hs r.0 [])) (some_is e)
range_reaches (Expect n u x) t tests hs keys e = ap (λ (r : ℕ × List Test). Finds keys r.0 r.1 (slice_index_or hs r.0 [])) (some_is e)

pub ranges_alike : (a b : Statement) (t : ℕ) (tests : List Test) → range_in a ≡ Some (t, tests) → range_in b ≡ Some (t, tests) → LookAlike a b
ranges_alike a b t tests e f hs keys r = subst (λ x. x) (range_reaches a t tests hs keys e ∙ sym (range_reaches b t tests hs keys f)) r

-- ---- one statement more

reached_at : (hs : RowsOverTime) (keys : Keys) (ss : List Statement) (n i : ℕ) (s : Statement) → i < n → i < length ss
    → s ≡ get_or ss i s → AllReached hs keys (take n ss) → Reaches hs keys s
reached_at hs keys [] n i s h l e a = absurd (omega arith)
reached_at hs keys (x ∷ ss) zero i s h l e a = absurd (omega arith)
reached_at hs keys (x ∷ ss) (suc n) zero s h l e a = subst (Reaches hs keys) (sym e) a.0
reached_at hs keys (x ∷ ss) (suc n) (suc i) s h l e a = reached_at hs keys ss n i s (omega arith) (omega arith) e a.1

one_reached : (hs : RowsOverTime) (keys : Keys) (ss : List Statement) (i : ℕ) (s : Statement) → i < length ss
    → s ≡ get_or ss i s → AllReached hs keys (take i ss) → Reaches hs keys s → AllReached hs keys (take (suc i) ss)
one_reached hs keys [] i s l e a r = absurd (omega arith)
one_reached hs keys (x ∷ ss) zero s l e a r = (subst (Reaches hs keys) e r, tt)
one_reached hs keys (x ∷ ss) (suc i) s l e a r = (a.0, one_reached hs keys ss i s (omega arith) e a.1 r)

pub alike_reached : (hs : RowsOverTime) (keys : Keys) (ss : List Statement) (i : ℕ) (before s : Statement) → (0 < i)
    → i < length ss → before ≡ get_or ss (i - 1) before → s ≡ get_or ss i s → LookAlike before s
    → AllReached hs keys (take i ss) → AllReached hs keys (take (i + 1) ss)
alike_reached hs keys ss i before s p l e f look a =
    let next : suc i ≡ i + 1 = omega arith in
    subst (λ n. AllReached hs keys (take n ss)) next (one_reached hs keys ss i s l f a (look hs keys (reached_at hs keys ss i (i - 1) before (omega (arith, p)) (omega (arith, p, l)) e a)))
