-- Sums over the views, when one of them changes, and what a list has at a place.
use Rattle.std.proofs.Common.{◌≡◌, ◌≢◌, ℕ, zero, suc, ◌+◌, ◌<◌, ◌≤◌, ◌⊎◌, List, [], ◌∷◌, ◌++◌, length, refl, sym, ap, ◌∙◌, subst, set, arith, inl}
use Rattle.std.proofs.Common.{inr, ⊎_elim}
use Rattle.std.specs.Prelude.{sum_by, count_by, ◌==◌}
use Rattle.std.proofs.lemmas.Bool.Decides.{nat_tests}
use Rattle.std.proofs.lemmas.List.Sums.{sum_by-cons}
use mathlib.Core.Option.{some, some-injective, some-ne-none}
use lib.ListN.{get_elem?}
use Rattle.atomic_table.proofs.Lists.{at_set}
use Rattle.shared_desk.specs.InOrder.{once_below}

-- how often the number is among these
abbrev pub times : ℕ → List ℕ → ℕ
times x xs = count_by (λ n. n == x) xs

pub once_below-suc : (x k : ℕ) → once_below x (k + 1) ≡ once_below x k + times x (k ∷ [])
once_below-suc x k = grind (arith, nat_tests)

pub once_below-one : (x : ℕ) → 0 + times x (0 ∷ []) ≡ once_below x 1
once_below-one x = grind (arith, nat_tests)

pub once_below-le : (x k : ℕ) → once_below x k ≤ 1
once_below-le x k = grind (arith, nat_tests)

pub once_below-in : (x k : ℕ) → x < k → once_below x k ≡ 1
once_below-in x k h = grind (arith, nat_tests)

pub once_below-out : (x k : ℕ) → k ≤ x → once_below x k ≡ 0
once_below-out x k h = grind (arith, nat_tests)

pub times_one : (x y : ℕ) → times x (y ∷ []) ≡ 1 → x ≡ y
times_one x y h = grind (arith, nat_tests)

pub times_self : (x y : ℕ) → x ≡ y → times x (y ∷ []) ≡ 1
times_self x y h = grind (arith, nat_tests)

pub times_none : (x : ℕ) (xs : List ℕ) → length xs ≡ 0 → times x xs ≡ 0
times_none x [] e = refl
times_none x (y ∷ ys) e = absurd (omega arith)

module _ {A : Type 0} where
  pub place_below : (l : List A) (i : ℕ) (a : A) → get_elem? l i ≡ some a → i < length l
  place_below [] i a e = absurd (some-ne-none a (sym e))
  place_below (x ∷ xs) zero a e = omega arith
  place_below (x ∷ xs) (suc i) a e = let r = place_below xs i a e in omega arith

  pub at_end : (l : List A) (a b : A) (j : ℕ) → get_elem? (l ++ a ∷ []) j ≡ some b → (get_elem? l j ≡ some b) ⊎ ((j ≡ length l) × (a ≡ b))
  at_end [] a b zero e = inr (refl, some-injective a b e)
  at_end [] a b (suc j) e = absurd (some-ne-none b (sym e))
  at_end (x ∷ xs) a b zero e = inl e
  at_end (x ∷ xs) a b (suc j) e =
      ⊎_elim (λ (was : get_elem? xs j ≡ some b). inl was) (λ (t : (j ≡ length xs) × (a ≡ b)). inr (ap suc t.0, t.1)) (at_end xs a b j e)

  pub same_at : (l : List A) (i : ℕ) (a b : A) → get_elem? l i ≡ some a → get_elem? l i ≡ some b → a ≡ b
  same_at l i a b p q = some-injective a b (sym p ∙ q)

  -- a fact of each element, when one is changed
  pub each_set : (P : ℕ → A → Type 0) (l : List A) (id : ℕ) (w : A) → P id w → ((j : ℕ) (u : A) → j ≢ id → get_elem? l j ≡ some u → P j u)
      → (j : ℕ) (u : A) → get_elem? (set l id w) j ≡ some u → P j u
  each_set P l id w here there j u at = ⊎_elim
      (λ (t : (j ≡ id) × (w ≡ u)). subst (λ (z : ℕ × A). P z.0 z.1) (λ i. (sym t.0 i, t.1 i)) here)
      (λ (t : (j ≢ id) × (get_elem? l j ≡ some u)). there j u t.0 t.1)
      (at_set l id j w u at)

  -- a fact of each element, when one is added
  pub each_end : (P : ℕ → A → Type 0) (l : List A) (w : A) → P (length l) w → ((j : ℕ) (u : A) → get_elem? l j ≡ some u → P j u)
      → (j : ℕ) (u : A) → get_elem? (l ++ w ∷ []) j ≡ some u → P j u
  each_end P l w here there j u at = ⊎_elim
      (λ (was : get_elem? l j ≡ some u). there j u was)
      (λ (t : (j ≡ length l) × (w ≡ u)). subst (λ (z : ℕ × A). P z.0 z.1) (λ i. (sym t.0 i, t.1 i)) here)
      (at_end l w u j at)

  pub sum_by-set : (f : A → ℕ) (l : List A) (id : ℕ) (v w : A) → get_elem? l id ≡ some v → sum_by f (set l id w) + f v ≡ sum_by f l + f w
  sum_by-set f [] id v w e = absurd (some-ne-none v (sym e))
  sum_by-set f (x ∷ xs) zero v w e = let is : f x ≡ f v = ap f (some-injective x v e) in omega (arith, sum_by-cons f x xs, sum_by-cons f w xs)
  sum_by-set f (x ∷ xs) (suc i) v w e = omega (arith, sum_by-cons f x xs, sum_by-cons f x (set xs i w), sum_by-set f xs i v w e)

  pub sum_by-at : (f : A → ℕ) (l : List A) (id : ℕ) (v : A) → get_elem? l id ≡ some v → f v ≤ sum_by f l
  sum_by-at f [] id v e = absurd (some-ne-none v (sym e))
  sum_by-at f (x ∷ xs) zero v e = let is : f x ≡ f v = ap f (some-injective x v e) in omega (arith, sum_by-cons f x xs)
  sum_by-at f (x ∷ xs) (suc i) v e = omega (arith, sum_by-cons f x xs, sum_by-at f xs i v e)

  pub sum_by-two : (f : A → ℕ) (l : List A) (i j : ℕ) (v w : A) → i ≢ j → get_elem? l i ≡ some v → get_elem? l j ≡ some w → f v + f w ≤ sum_by f l
  sum_by-two f [] i j v w ne p q = absurd (some-ne-none v (sym p))
  sum_by-two f (x ∷ xs) zero zero v w ne p q = absurd (ne refl)
  sum_by-two f (x ∷ xs) zero (suc j) v w ne p q =
      let is : f x ≡ f v = ap f (some-injective x v p) in omega (arith, sum_by-cons f x xs, sum_by-at f xs j w q)
  sum_by-two f (x ∷ xs) (suc i) zero v w ne p q =
      let is : f x ≡ f w = ap f (some-injective x w q) in omega (arith, sum_by-cons f x xs, sum_by-at f xs i v p)
  sum_by-two f (x ∷ xs) (suc i) (suc j) v w ne p q = omega (arith, sum_by-cons f x xs, sum_by-two f xs i j v w (λ e. ne (ap suc e)) p q)

  pub sum_by-le-length : (f : A → ℕ) → ((v : A) → f v ≤ 1) → (l : List A) → sum_by f l ≤ length l
  sum_by-le-length f few [] = omega arith
  sum_by-le-length f few (x ∷ xs) = omega (arith, sum_by-cons f x xs, sum_by-le-length f few xs, few x)

  -- where an element with none of g has none of f, and nothing has any of g, nothing has any of f
  sum_by-none : (f g : A → ℕ) (l : List A) → sum_by g l ≡ 0 → ((v : A) → g v ≡ 0 → f v ≡ 0) → sum_by f l ≡ 0
  sum_by-none f g [] all idle = refl
  sum_by-none f g (x ∷ xs) all idle =
      let of_g = sum_by-cons g x xs in
      let here : f x ≡ 0 = idle x (omega arith) in
      let others = sum_by-none f g xs (omega arith) idle in omega (arith, sum_by-cons f x xs)

  -- the same where one has all of g: it has all of f
  pub sum_by-alone : (f g : A → ℕ) (l : List A) (id : ℕ) (v : A) → get_elem? l id ≡ some v → sum_by g l ≡ g v → ((w : A) → g w ≡ 0 → f w ≡ 0)
      → sum_by f l ≡ f v
  sum_by-alone f g [] id v e all idle = absurd (some-ne-none v (sym e))
  sum_by-alone f g (x ∷ xs) zero v e all idle =
      let is : f x ≡ f v = ap f (some-injective x v e) in let of_g : g x ≡ g v = ap g (some-injective x v e) in
      let sum_g = sum_by-cons g x xs in
      let others = sum_by-none f g xs (omega arith) idle in omega (arith, sum_by-cons f x xs)
  sum_by-alone f g (x ∷ xs) (suc i) v e all idle =
      let sum_g = sum_by-cons g x xs in
      let more = sum_by-at g xs i v e in
      let here : f x ≡ 0 = idle x (omega arith) in
      let others = sum_by-alone f g xs i v e (omega arith) idle in omega (arith, sum_by-cons f x xs)
