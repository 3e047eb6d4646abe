-- What the group's steps cost is the cost of its members' costs.
use Rattle.std.proofs.Common.{◌≡◌, ◌<◌, ◌+◌, ℕ, zero, suc, List, [], ◌∷◌, length, refl, sym, ap, ◌∙◌, arith}
use Rattle.script_meaning.specs.Run.{Cost}
use Rattle.script_meaning.specs.GroupCost.{step_cost, heads, tails, cost_of, group_cost}
use Rattle.multi_nodes.specs.Charges.{costs_from, price}
use Rattle.multi_state.specs.Progress.{Charges, costs_at, total}
use Rattle.multi_state.specs.Totals.{costs_of_all, TotalIsGroupCost}

heads_are : (k n : ℕ) (c : ℕ → Cost) (f : ℕ → List Cost) → heads (costs_of_all k n (λ i. c i ∷ f i)) ≡ costs_from k n c
heads_are k zero c f = refl
heads_are k (suc n) c f = ap (λ cs. c k ∷ cs) (heads_are (suc k) n c f)

tails_are : (k n : ℕ) (c : ℕ → Cost) (f : ℕ → List Cost) → tails (costs_of_all k n (λ i. c i ∷ f i)) ≡ costs_of_all k n f
tails_are k zero c f = refl
tails_are k (suc n) c f = ap (λ css. f k ∷ css) (tails_are (suc k) n c f)

by_steps : (n : ℕ) (cs : Charges) → total n cs ≡ cost_of (length cs) (costs_of_all 0 n (λ i. costs_at i cs))
by_steps n [] = refl
by_steps n (c ∷ cs) =
    let first : price n c ≡ step_cost (heads (costs_of_all 0 n (λ i. c i ∷ costs_at i cs))) = ap step_cost (sym (heads_are 0 n c (λ i. costs_at i cs))) in
    let others : total n cs ≡ cost_of (length cs) (tails (costs_of_all 0 n (λ i. c i ∷ costs_at i cs))) =
    by_steps n cs ∙ ap (cost_of (length cs)) (sym (tails_are 0 n c (λ i. costs_at i cs))) in
    λ z. first z + others z

at_length : (i : ℕ) (cs : Charges) → length (costs_at i cs) ≡ length cs
at_length i [] = refl
at_length i (c ∷ cs) = ap suc (at_length i cs)

pub total_is : TotalIsGroupCost
total_is = record {
  is = λ n cs some. by n cs some;
}
  where
    by : (n : ℕ) (cs : Charges) → 0 < n → total n cs ≡ group_cost (costs_of_all 0 n (λ i. costs_at i cs))
    by zero cs some = absurd (omega (arith, some))
    by (suc n) cs some = by_steps (suc n) cs ∙ ap (λ k. cost_of k (costs_of_all 0 (suc n) (λ i. costs_at i cs))) (sym (at_length 0 cs))

pub all_alike : (k n : ℕ) (f g : ℕ → List Cost) → ((i : ℕ) → i < k + n → f i ≡ g i) → costs_of_all k n f ≡ costs_of_all k n g
all_alike k zero f g h = refl
all_alike k (suc n) f g h =
    let first : f k ≡ g k = h k (omega arith) in
    let others = all_alike (suc k) n f g (λ i lt. h i (omega (arith, lt))) in
    λ z. first z ∷ others z
