-- Orders of one graph agree.
use Rattle.std.proofs.Common.{◌≡◌, ℕ, zero, suc, ◌+◌, ◌<◌, ◌≤◌, List, [], ◌∷◌, ◌++◌, length, take, get_or, inl, inr, refl, sym, subst, ◌∙◌, arith}
use Rattle.std.proofs.lemmas.Bool.{cases_lt, cases_Bool}
use Rattle.std.proofs.lemmas.Cmp.{nat_eq_equiv}
use Rattle.std.proofs.lemmas.List.{take_more_same, take_all, length_push}
use Rattle.std.proofs.lemmas.Map.Keys.{IsDistinct-push}
use Rattle.std.proofs.lemmas.Map.Steps.{length-le_from_distinct_below}
use Rattle.event_order.specs.declared.graph.Graph.{Graph}
use Rattle.event_order.specs.Order.{has, IsFree, IsPlaced, IsOrder}
use Rattle.event_order.specs.Laws.{IsProper}
use Rattle.event_order.proofs.Members.{has_push_cases}
use Rattle.event_order.proofs.Steps.{placed_once, placed_inside}

-- two lists agree as far as both go
agree : (g : Graph) (xs ys : List ℕ) → IsPlaced g xs → IsPlaced g ys → (k : ℕ) → k ≤ length xs → k ≤ length ys → take k xs ≡ take k ys
agree g xs ys p q zero l m = refl
agree g xs ys p q (suc k) l m =
    let a : k < length xs = omega arith in
    let b : k < length ys = omega arith in
    let same = agree g xs ys p q k (omega arith) (omega arith) in
    let one = p k a in
    let two = q k b in
    let below = one.least (get_or ys k 0) (subst (λ zs. IsFree g zs (get_or ys k 0)) (sym same) two.free) in
    let above = two.least (get_or xs k 0) (subst (λ zs. IsFree g zs (get_or xs k 0)) same one.free) in
    let item : get_or xs k 0 ≡ get_or ys k 0 = omega (arith, below, above) in
    let s : k + 1 ≡ suc k = omega arith in
    subst (λ n. take n xs ≡ take n ys) s (take_more_same xs ys k 0 a b same item)

-- none goes further than one that has ended
no_further : (g : Graph) (xs ys : List ℕ) → IsOrder g xs → IsPlaced g ys → length ys ≤ length xs
no_further g xs ys o q = elim (cases_lt (length xs) (length ys)) [
  | inl l ↦
      let same = agree g xs ys o.placed q (length xs) (omega arith) (omega arith) in
      let all : take (length xs) xs ≡ xs = take_all (length xs) xs (omega arith) in
      absurd (o.ended (get_or ys (length xs) 0) (subst (λ zs. IsFree g zs (get_or ys (length xs) 0)) (sym same ∙ all) (q (length xs) l).free))
  | inr l ↦ l
]

pub one_order : (g : Graph) (xs ys : List ℕ) → IsOrder g xs → IsOrder g ys → xs ≡ ys
one_order g xs ys o p =
    let a = no_further g xs ys o p.placed in
    let b = no_further g ys xs p o.placed in
    let same = agree g xs ys o.placed p.placed (length xs) (omega arith) (omega (arith, b)) in
    sym (take_all (length xs) xs (omega arith)) ∙ same ∙ take_all (length xs) ys (omega (arith, a))

pub proper : (g : Graph) (xs : List ℕ) → IsPlaced g xs → IsProper g xs
proper g xs p = record {
  once = placed_once g xs p;
  inside = λ x h. placed_inside g xs x p h;
  after = λ y k l before. (p k l).free.ready y before;
  whole = λ e x l. elim (cases_Bool (has xs x)) [
    | inl t ↦ t
    | inr out ↦
        let more = IsDistinct-push nat_eq_equiv xs x (placed_once g xs p) out in
        let few = length-le_from_distinct_below (xs ++ x ∷ []) (length g.nodes.items) more (λ q h. elim (has_push_cases xs x q h) [
          | inl old ↦ placed_inside g xs q p old
          | inr same ↦ omega arith
        ]) in
        absurd (omega (arith, few, length_push xs x))
  ];
}
