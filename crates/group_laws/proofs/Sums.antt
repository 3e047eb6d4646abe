-- A group costs at most as many nodes as its members' steps have costs.
use Rattle.std.proofs.Common.{◌≡◌, ◌≤◌, ℕ, zero, suc, ◌+◌, Bool, true, false, cond, List, [], ◌∷◌, length, refl, arith}
use Rattle.std.specs.List.{list_all}
use Rattle.script_meaning.specs.GroupCost.{same_cost, step_cost, heads, tails, cost_of, first_length, group_cost}
use Rattle.script_meaning.specs.Run.{Cost}

-- how many there are in all
abbrev pub total : List (List Cost) → ℕ
total [] = 0
total (cs ∷ css) = length cs + total css

one_or_all : (b : Bool) (c : Cost) (cs : List Cost) → cond b 1 (length (c ∷ cs)) ≤ length (c ∷ cs)
one_or_all true c cs = omega arith
one_or_all false c cs = omega arith

step_at_most : (cs : List Cost) → step_cost cs ≤ length cs
step_at_most [] = omega arith
step_at_most (c ∷ cs) = one_or_all (list_all (same_cost c) (c ∷ cs)) c cs

heads_and_tails : (css : List (List Cost)) → length (heads css) + total (tails css) ≡ total css
heads_and_tails [] = refl
heads_and_tails ([] ∷ css) = let rest = heads_and_tails css in omega (arith, rest)
heads_and_tails ((c ∷ cs) ∷ css) = let rest = heads_and_tails css in omega (arith, rest)

cost_at_most : (n : ℕ) (css : List (List Cost)) → cost_of n css ≤ total css
cost_at_most zero css = omega arith
cost_at_most (suc n) css =
    let step = step_at_most (heads css) in
    let others = cost_at_most n (tails css) in
    let all = heads_and_tails css in
    omega (arith, step, others, all)

pub group_at_most : (css : List (List Cost)) → group_cost css ≤ total css
group_at_most css = cost_at_most (first_length css) css

-- ---- one member

one_step : (b : Bool) (c : Cost) → cond b 1 (length (c ∷ [])) ≡ 1
one_step true c = refl
one_step false c = refl

alone : (cs : List Cost) → cost_of (length cs) (cs ∷ []) ≡ length cs
alone [] = refl
alone (c ∷ cs) =
    let step = one_step (list_all (same_cost c) (c ∷ [])) c in
    let others = alone cs in
    omega (arith, step, others)

pub one_costs : (cs : List Cost) → group_cost (cs ∷ []) ≡ length cs
one_costs cs = alone cs
