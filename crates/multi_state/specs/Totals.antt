-- What the steps of a group cost, by what its members' steps were spent on.
use Rattle.std.specs.Prelude.{◌≡◌, ◌<◌, ℕ, zero, suc, List, [], ◌∷◌}
use Rattle.script_meaning.specs.GroupCost.{group_cost}
use Rattle.script_meaning.specs.Run.{Cost}
use Rattle.multi_state.specs.Progress.{Charges, costs_at, total}

-- those of n members from the k-th on
abbrev pub costs_of_all : (k n : ℕ) → (ℕ → List Cost) → List (List Cost)
costs_of_all k zero f = []
costs_of_all k (suc n) f = f k ∷ costs_of_all (suc k) n f

-- What the group's steps cost is the cost of its members' costs.
pub record TotalIsGroupCost : Type 0 where
  pub is : (n : ℕ) (cs : Charges) → 0 < n → total n cs ≡ group_cost (costs_of_all 0 n (λ i. costs_at i cs))
