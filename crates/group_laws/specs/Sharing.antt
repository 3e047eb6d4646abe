-- What a group costs whose members are charged alike.
use Rattle.std.specs.Prelude.{◌≡◌, ℕ, suc, ◌+◌, List, [], ◌∷◌, length, replicate}
use Rattle.script_meaning.specs.Run.{Cost, taking, taking_request, issuing}
use Rattle.script_meaning.specs.GroupCost.{group_cost}

-- n for each operation
abbrev pub for_operations : ℕ → List Cost → ℕ
for_operations n [] = 0
for_operations n (taking ds ∷ cs) = for_operations n cs
for_operations n (taking_request q ds ∷ cs) = for_operations n cs
for_operations n (issuing ∷ cs) = n + for_operations n cs

-- A group costs one member's steps, and for each operation the number of other members.
pub record EqualMembersShare : Type 0 where
  pub is : (n : ℕ) (cs : List Cost) → group_cost (replicate (suc n) cs) ≡ length cs + for_operations n cs
