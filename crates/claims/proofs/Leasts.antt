-- The numbers below a limit, and the least of some numbers.
use Rattle.std.proofs.Common.{◌≡◌, ℕ, zero, suc, ◌+◌, ◌<◌, ◌≤◌, ⊎_elim, List, [], ◌∷◌, ◌++◌, Contains, IsPermutation, min, ap, ◌∙◌, subst, arith}
use Rattle.std.specs.List.{range_with_len}
use Rattle.std.proofs.lemmas.Bool.{cases_lt}
use Rattle.std.proofs.lemmas.List.Elements.{All-push, All-weaker, Contains-append_left, Contains-push}
use Rattle.std.proofs.lemmas.List.Sorted.{IsPermutation-sym, All-permutation, Contains-permutation}
use Rattle.claims.specs.Lists.{numbers_below, IsLeastOf}

range-next : (a n : ℕ) → range_with_len a (suc n) ≡ range_with_len a n ++ (a + n) ∷ []
range-next a zero = let same : a ≡ a + 0 = omega arith in ap (λ (k : ℕ). k ∷ []) same
range-next a (suc n) =
    let same : a + 1 + n ≡ a + suc n = omega arith in
    ap (λ (l : List ℕ). a ∷ l) (range-next (a + 1) n ∙ ap (λ (k : ℕ). range_with_len (a + 1) n ++ k ∷ []) same)

-- the numbers below the next one
pub numbers_below-next : (n : ℕ) → numbers_below (n + 1) ≡ numbers_below n ++ n ∷ []
numbers_below-next n =
    let more : n + 1 ≡ suc n = omega arith in
    let last : 0 + n ≡ n = omega arith in
    ap numbers_below more ∙ (range-next 0 n ∙ ap (λ (k : ℕ). numbers_below n ++ k ∷ []) last)

-- the least of the same numbers in another order
pub least-permuted : (xs ys : List ℕ) (least : ℕ) → IsPermutation xs ys → IsLeastOf ys least → IsLeastOf xs least
least-permuted xs ys least order is =
    let back = IsPermutation-sym xs ys order in
    record { is_one = Contains-permutation ys xs least back is.is_one; none_less = All-permutation (λ k. least ≤ k) ys xs back is.none_less }

-- the least after one more number
pub least-more : (xs : List ℕ) (k least : ℕ) → IsLeastOf xs least → IsLeastOf (xs ++ k ∷ []) (min least k)
least-more xs k least is =
    record {
      is_one = ⊎_elim
          (λ (lt : least < k). let old : least ≡ min least k = omega arith in
          subst (Contains (xs ++ k ∷ [])) old (Contains-append_left xs (k ∷ []) least is.is_one))
          (λ (le : k ≤ least). let new : k ≡ min least k = omega arith in
          subst (Contains (xs ++ k ∷ [])) new (Contains-push xs k))
          (cases_lt least k);
      none_less = All-push (λ j. min least k ≤ j) xs k (All-weaker (λ j. least ≤ j) (λ j. min least k ≤ j) (λ j le. omega arith) xs is.none_less) (omega arith);
    }
