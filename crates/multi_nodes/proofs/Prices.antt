-- How often a node is evaluated is what its step costs.
use Rattle.std.proofs.Common.{◌≡◌, ◌<◌, ◌+◌, ℕ, zero, suc, Bool, true, false, ◌&&◌, ◌||◌, not, List, [], ◌∷◌, length, refl, sym, ap, subst, ◌∙◌, arith}
use Rattle.std.proofs.lemmas.Bool.{and_parts, and_from}
use Rattle.std.specs.List.{list_all}
use Rattle.basis.specs.Lists.{each}
use Rattle.script_tree.specs.Alike.{same_datum}
use Rattle.script_tree.specs.Requests.{Request}
use Rattle.script_meaning.specs.GroupCost.{same_cost, same_request}
use Rattle.script_meaning.specs.Run.{Cost}
use Rattle.script_nodes.specs.declared.primitive.Primitive.{Primitive}
use Rattle.multivalue.specs.Many.{Many, member_value}
use Rattle.multi_nodes.specs.Charges.{cost_by, cost_at, costs_from, price, takes_request, agree, evaluations_if}
use Rattle.multi_nodes.specs.Members.{members_at, request_at, is_shared, alike_in}
use Rattle.multi_nodes.proofs.Agreed.{operands_shared, requests_alike}
use Rattle.multi_nodes.proofs.Below.{each_below}
use Rattle.group_laws.proofs.Same.{values_itself, request_itself}

-- ---- a list of costs

pub costs_length : (k n : ℕ) (c : ℕ → Cost) → length (costs_from k n c) ≡ n
costs_length k zero c = refl
costs_length k (suc n) c = ap suc (costs_length (suc k) n c)

all_from : (p : Cost → Bool) (k n : ℕ) (c : ℕ → Cost) → ((i : ℕ) → i < k + n → p (c i) ≡ true) → list_all p (costs_from k n c) ≡ true
all_from p k zero c h = refl
all_from p k (suc n) c h = and_from (p (c k)) (list_all p (costs_from (suc k) n c)) (h k (omega arith))
    (all_from p (suc k) n c (λ i lt. h i (omega (arith, lt))))

each_from : (p : Cost → Bool) (k n : ℕ) (c : ℕ → Cost) → list_all p (costs_from k n c) ≡ true → (j : ℕ) → j < n → p (c (k + j)) ≡ true
each_from p k zero c h j lt = absurd (omega (arith, lt))
each_from p k (suc n) c h zero lt = let e : k ≡ k + zero = omega arith in subst (λ i. p (c i) ≡ true) e (and_parts (p (c k)) (list_all p (costs_from (suc k) n c)) h).0
each_from p k (suc n) c h (suc j) lt =
    let e : suc k + j ≡ k + suc j = omega arith in
    subst (λ i. p (c i) ≡ true) e (each_from p (suc k) n c (and_parts (p (c k)) (list_all p (costs_from (suc k) n c)) h).1 j (omega (arith, lt)))

-- ---- where all are charged for the same, they agree

or_false : (b : Bool) → (b || false) ≡ true → b ≡ true
or_false true h = refl
or_false false h = cc

or_more : (b : Bool) → b ≡ true → (b || false) ≡ true
or_more true h = refl
or_more false h = cc

or_true : (b : Bool) → (b || true) ≡ true
or_true true = refl
or_true false = refl

all_agree : (n : ℕ) (ms : List Many) → ((i : ℕ) → i < n → each same_datum (members_at 0 ms) (members_at i ms) ≡ true) → list_all (is_shared n) ms ≡ true
all_agree n [] h = refl
all_agree n (m ∷ ms) h =
    let parts : (i : ℕ) → i < n → _ = λ i lt. and_parts (same_datum (member_value m 0) (member_value m i)) (each same_datum (members_at 0 ms) (members_at i ms)) (h i lt) in
    and_from (is_shared n m) (list_all (is_shared n) ms)
    (each_below n (λ i. same_datum (member_value m 0) (member_value m i)) (λ i lt. (parts i lt).0))
    (all_agree n ms (λ i lt. (parts i lt).1))

requests_from : (q : Request) (qs : List Request) → ((i : ℕ) → i < length qs → same_request q (request_at qs i) ≡ true) → list_all (same_request q) qs ≡ true
requests_from q [] h = refl
requests_from q (r ∷ qs) h = and_from (same_request q r) (list_all (same_request q) qs) (h 0 (omega arith))
    (requests_from q qs (λ i lt. h (suc i) (omega (arith, lt))))

-- ---- the price

module _ (qs : List Request) (ms : List Many) where
  costs_by : Bool → ℕ → Cost
  costs_by b i = cost_by b (request_at qs i) (members_at i ms)

  itself : (b : Bool) → same_cost (costs_by b 0) (costs_by b 0) ≡ true
  unfolding costs_by
  itself true = rw (request_itself (request_at qs 0), values_itself (members_at 0 ms)) refl
  itself false = values_itself (members_at 0 ms)

  -- members that agree are charged for the same
  charged_same : (b : Bool) → list_all (is_shared (length qs)) ms ≡ true → (alike_in qs || not b) ≡ true → (i : ℕ) → i < length qs → costs_by b i ≡ costs_by b 0
  unfolding costs_by
  charged_same true h g i lt = λ z. cost_by true (requests_alike qs (or_false (alike_in qs) g) i lt z) (operands_shared (length qs) ms i h lt z)
  charged_same false h g i lt = λ z. cost_by false (request_at qs 0) (operands_shared (length qs) ms i h lt z)

  agree_from : (b : Bool) → ((i : ℕ) → i < length qs → same_cost (costs_by b 0) (costs_by b i) ≡ true)
      → (list_all (is_shared (length qs)) ms && (alike_in qs || not b)) ≡ true
  unfolding costs_by
  agree_from true h =
      let parts : (i : ℕ) → i < length qs → _ = λ i lt. and_parts (same_request (request_at qs 0) (request_at qs i)) (each same_datum (members_at 0 ms) (members_at i ms)) (h i lt) in
      and_from (list_all (is_shared (length qs)) ms) (alike_in qs || false)
      (all_agree (length qs) ms (λ i lt. (parts i lt).1))
      (or_more (alike_in qs) (requests_from (request_at qs 0) qs (λ i lt. (parts i lt).0)))
  agree_from false h = and_from (list_all (is_shared (length qs)) ms) (alike_in qs || true) (all_agree (length qs) ms h) (or_true (alike_in qs))

  by_agreement : (b : Bool) → 0 < length qs → (a : Bool)
      → (list_all (is_shared (length qs)) ms && (alike_in qs || not b)) ≡ a
      → evaluations_if a (length qs) ≡ price (length qs) (costs_by b)
  by_agreement b some true h =
      let p = and_parts (list_all (is_shared (length qs)) ms) (alike_in qs || not b) h in
      sym (one (length qs) some (all_from (same_cost (costs_by b 0)) 0 (length qs) (costs_by b) (λ i lt. ap (same_cost (costs_by b 0)) (charged_same b p.0 p.1 i (omega (arith, lt))) ∙ itself b)))
    where
      one : (k : ℕ) → 0 < k → list_all (same_cost (costs_by b 0)) (costs_from 0 k (costs_by b)) ≡ true → price k (costs_by b) ≡ 1
      one zero s e = absurd (omega (arith, s))
      one (suc k) s e = rw e refl
  by_agreement b some false h = sym (many (length qs) some (not_all (list_all (same_cost (costs_by b 0)) (costs_from 0 (length qs) (costs_by b))) refl))
    where
      not_all : (x : Bool) → list_all (same_cost (costs_by b 0)) (costs_from 0 (length qs) (costs_by b)) ≡ x → x ≡ false
      not_all false e = refl
      not_all true e =
          let agreeing = agree_from b (λ i lt. let same_place : 0 + i ≡ i = omega arith in subst (λ j. same_cost (costs_by b 0) (costs_by b j) ≡ true) same_place (each_from (same_cost (costs_by b 0)) 0 (length qs) (costs_by b) e i lt)) in
          sym agreeing ∙ h

      many : (k : ℕ) → 0 < k → list_all (same_cost (costs_by b 0)) (costs_from 0 k (costs_by b)) ≡ false → price k (costs_by b) ≡ k
      many zero s e = absurd (omega (arith, s))
      many (suc k) s e = rw e (costs_length 0 (suc k) (costs_by b))

pub price_is : (qs : List Request) (ms : List Many) (p : Primitive) → 0 < length qs
    → evaluations_if (agree qs p ms) (length qs) ≡ price (length qs) (cost_at qs p ms)
unfolding costs_by
price_is qs ms p some = by_agreement qs ms (takes_request p) some (agree qs p ms) refl
