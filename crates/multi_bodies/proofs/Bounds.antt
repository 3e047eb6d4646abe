-- The least and the most of numbers, with one more of them.
use Rattle.std.proofs.Common.{◌≡◌, ◌∙◌, ◌≤◌, ◌<◌, ◌+◌, ℕ, List, length, get_or, min, max, inl, inr, arith, below_more}
use Rattle.std.proofs.lemmas.Bool.{cases_lt}
use Rattle.std.proofs.lemmas.Bool.Decides.{nat_tests}
use Rattle.multi_bodies.specs.BodiesOf.{AreReached, IsOneOf}

at_most_min : (a b c : ℕ) → a ≤ c → min a b ≤ c
at_most_min a b c h = grind (arith, nat_tests, h)

max_at_least : (a b c : ℕ) → c ≤ a → c ≤ max a b
max_at_least a b c h = grind (arith, nat_tests, h)

min_last : (a b : ℕ) → min a b ≤ b
min_last a b = grind (arith, nat_tests)

max_last : (a b : ℕ) → b ≤ max a b
max_last a b = grind (arith, nat_tests)

min_is : (a b : ℕ) → a ≤ b → a ≡ min a b
min_is a b h = grind (arith, nat_tests, h)

min_is_last : (a b : ℕ) → b < a → b ≡ min a b
min_is_last a b h = grind (arith, nat_tests, h)

max_is : (a b : ℕ) → b ≤ a → a ≡ max a b
max_is a b h = grind (arith, nat_tests, h)

max_is_last : (a b : ℕ) → a < b → b ≡ max a b
max_is_last a b h = grind (arith, nat_tests, h)

module _ (ns : List ℕ) (k x least most : ℕ) (here : get_or ns k 0 ≡ x) where
  pub within_more : ((i : ℕ) → i < k → (least ≤ get_or ns i 0) × (get_or ns i 0 ≤ most))
      → (i : ℕ) → i < k + 1 → (min least x ≤ get_or ns i 0) × (get_or ns i 0 ≤ max most x)
  within_more h =
      below_more (λ i. (min least x ≤ get_or ns i 0) × (get_or ns i 0 ≤ max most x)) k
      (λ i lt. (at_most_min least x (get_or ns i 0) (h i lt).0, max_at_least most x (get_or ns i 0) (h i lt).1))
      (let low = min_last least x in omega (arith, low, here), let high = max_last most x in omega (arith, high, here))

  pub reached_more : k < length ns → AreReached least most ns → AreReached (min least x) (max most x) ns
  reached_more lt h = (λ some. lower (h.0 some), higher)
    where
      lower : IsOneOf ns least → IsOneOf ns (min least x)
      lower r = elim (cases_lt x least) [
        | inl less ↦ (k, lt, here ∙ min_is_last least x less)
        | inr more ↦ (r.0, r.1, r.2 ∙ min_is least x (omega (arith, more)))
      ]

      higher : 0 < max most x → IsOneOf ns (max most x)
      higher some = elim (cases_lt most x) [
        | inl more ↦ (k, lt, here ∙ max_is_last most x more)
        | inr less ↦
            let is = max_is most x (omega (arith, less)) in
            let r = h.1 (omega (arith, some, is)) in
            (r.0, r.1, r.2 ∙ is)
      ]
