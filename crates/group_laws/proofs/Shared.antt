-- Members that are charged alike share their steps.
use Rattle.std.proofs.Common.{◌≡◌, ℕ, zero, suc, ◌+◌, true, List, [], ◌∷◌, length, replicate, refl, ap, ◌∙◌, arith}
use Rattle.std.proofs.lemmas.List.{length-replicate}
use Rattle.std.specs.List.{list_all}
use Rattle.script_meaning.specs.GroupCost.{same_cost, step_cost, heads, tails, cost_of}
use Rattle.script_meaning.specs.Run.{Cost, taking, taking_request, issuing}
use Rattle.group_laws.specs.Sharing.{for_operations, EqualMembersShare}
use Rattle.group_laws.proofs.Same.{values_itself, request_itself}

heads_same : (n : ℕ) (c : Cost) (cs : List Cost) → heads (replicate n (c ∷ cs)) ≡ replicate n c
heads_same zero c cs = refl
heads_same (suc n) c cs = ap (λ xs. c ∷ xs) (heads_same n c cs)

tails_same : (n : ℕ) (c : Cost) (cs : List Cost) → tails (replicate n (c ∷ cs)) ≡ replicate n cs
tails_same zero c cs = refl
tails_same (suc n) c cs = ap (λ xs. cs ∷ xs) (tails_same n c cs)

all_same : (c : Cost) (n : ℕ) → same_cost c c ≡ true → list_all (same_cost c) (replicate n c) ≡ true
all_same c zero h = refl
all_same c (suc n) h = rw (h, all_same c n h) refl

one_step : (c : Cost) (n : ℕ) → same_cost c c ≡ true → step_cost (replicate (suc n) c) ≡ 1
one_step c n h = rw (h, all_same c n h) refl

each_step : (n : ℕ) → step_cost (replicate (suc n) issuing) ≡ suc n
each_step n = ap suc (length-replicate n issuing)

shares : (n : ℕ) (cs : List Cost) → cost_of (length cs) (replicate (suc n) cs) ≡ length cs + for_operations n cs
shares n [] = refl
shares n (taking ds ∷ cs) =
    let first : step_cost (heads (replicate (suc n) (taking ds ∷ cs))) ≡ 1 = ap step_cost (heads_same (suc n) (taking ds) cs) ∙ one_step (taking ds) n (values_itself ds) in
    let others = ap (cost_of (length cs)) (tails_same (suc n) (taking ds) cs) ∙ shares n cs in
    omega (arith, first, others)
shares n (taking_request q ds ∷ cs) =
    let itself : same_cost (taking_request q ds) (taking_request q ds) ≡ true = rw (request_itself q, values_itself ds) refl in
    let first : step_cost (heads (replicate (suc n) (taking_request q ds ∷ cs))) ≡ 1 = ap step_cost (heads_same (suc n) (taking_request q ds) cs) ∙ one_step (taking_request q ds) n itself in
    let others = ap (cost_of (length cs)) (tails_same (suc n) (taking_request q ds) cs) ∙ shares n cs in
    omega (arith, first, others)
shares n (issuing ∷ cs) =
    let first : step_cost (heads (replicate (suc n) (issuing ∷ cs))) ≡ suc n = ap step_cost (heads_same (suc n) issuing cs) ∙ each_step n in
    let others = ap (cost_of (length cs)) (tails_same (suc n) issuing cs) ∙ shares n cs in
    omega (arith, first, others)

pub members_share : EqualMembersShare
members_share = record { is = shares }
