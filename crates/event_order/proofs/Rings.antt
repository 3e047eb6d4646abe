-- The cycle of a walk runs along edges.
use Rattle.std.proofs.Common.{◌≡◌, ℕ, ◌+◌, ◌-◌, ◌<◌, ◌≤◌, List, ◌++◌, length, take, drop, reverse, get_or, inl, inr, sym, ap, subst, ◌∙◌, arith}
use Rattle.std.proofs.Math.ListN.{drop_of_length-le}
use Rattle.std.proofs.lemmas.Bool.{cases_lt, cases_order, cases_eq}
use Rattle.std.proofs.lemmas.List.{get_or_append_left, get_or-append_right, get_or-drop, get_or-take, get_or-reverse}
use Rattle.std.proofs.lemmas.List.{length-reverse, length-drop, length-take, length-append, take_all}
use Rattle.event_order.specs.declared.graph.Graph.{Graph}
use Rattle.event_order.specs.Cycle.{IsDirect, IsCycle}
use Rattle.event_order.specs.Laws.{IsRing}

direct_at : (g : Graph) (a b c d : ℕ) → a ≡ c → b ≡ d → IsDirect g c d → IsDirect g a b
direct_at g a b c d e f h = subst (λ n. IsDirect g n b) (sym e) (subst (IsDirect g c) (sym f) h)

ring_of_walk : (g : Graph) (xs cycle : List ℕ) (c : IsCycle g xs cycle) → IsRing g (reverse (drop c.start c.walk))
ring_of_walk g xs cycle c = record {
  runs = λ i j e l.
      let m = long in
      let k : length (drop c.start c.walk) - 1 - i ≡ (length (drop c.start c.walk) - 1 - j) + 1 = omega (arith, back) in
      let n : c.start + (length (drop c.start c.walk) - 1 - j) + 1 < length c.walk = omega (arith, back, long) in
      let same : c.start + (length (drop c.start c.walk) - 1 - i) ≡ c.start + (length (drop c.start c.walk) - 1 - j) + 1 = omega (arith, k) in
      direct_at g _ _ _ _
      (item i (omega (arith, back)) ∙ ap (λ n. get_or c.walk n 0) same)
      (item j (omega (arith, back)))
      (c.is_walk.steps (c.start + (length (drop c.start c.walk) - 1 - j)) n).0.0;
  closes = λ l.
      let first : c.start + (length (drop c.start c.walk) - 1 - (length (reverse (drop c.start c.walk)) - 1)) ≡ c.start = omega (arith, back) in
      let last : c.start + (length (drop c.start c.walk) - 1 - 0) ≡ length c.walk - 1 = omega (arith, long, c.inside) in
      direct_at g _ _ _ _
      (item (length (reverse (drop c.start c.walk)) - 1) (omega (arith, back)) ∙ ap (λ n. get_or c.walk n 0) first)
      (item 0 (omega (arith, back)) ∙ ap (λ n. get_or c.walk n 0) last)
      c.closes.0.0;
}
  where
    back : length (reverse (drop c.start c.walk)) ≡ length (drop c.start c.walk)
    back = length-reverse (drop c.start c.walk)

    long : length (drop c.start c.walk) ≡ length c.walk - c.start
    long = length-drop c.start c.walk

    item : (k : ℕ) → k < length (drop c.start c.walk)
        → get_or (reverse (drop c.start c.walk)) k 0 ≡ get_or c.walk (c.start + (length (drop c.start c.walk) - 1 - k)) 0
    item k l = get_or-reverse (drop c.start c.walk) k 0 l ∙ get_or-drop c.start c.walk (length (drop c.start c.walk) - 1 - k) 0

ring_turned : (g : Graph) (zs : List ℕ) (t : ℕ) → t < length zs → IsRing g zs → IsRing g (drop t zs ++ take t zs)
ring_turned g zs t l ring = record {
  runs = λ i j e m. elim (cases_order (i + 1) (length zs - t)) [
    | inl same ↦ direct_at g _ _ _ _
        (low i (omega arith) ∙ ap (λ n. get_or zs n 0) (let k : t + i ≡ length zs - 1 = omega arith in k))
        (high j (omega arith) (omega (arith, all)) ∙ ap (λ n. get_or zs n 0) (let k : j - (length zs - t) ≡ 0 = omega arith in k))
        (ring.closes (omega arith))
    | inr other ↦ elim other [
      | inl below ↦ direct_at g _ _ _ _ (low i (omega arith)) (low j (omega arith)) (ring.runs (t + i) (t + j) (omega arith) (omega arith))
      | inr above ↦ direct_at g _ _ _ _ (high i (omega arith) (omega (arith, all))) (high j (omega arith) (omega (arith, all)))
          (ring.runs (i - (length zs - t)) (j - (length zs - t)) (omega arith) (omega (arith, all)))
    ]
  ];
  closes = λ m. elim (cases_eq t 0) [
    | inl none ↦
        let last : t + (length (drop t zs ++ take t zs) - 1) ≡ length zs - 1 = omega (arith, all) in
        direct_at g _ _ _ _
        (low (length (drop t zs ++ take t zs) - 1) (omega (arith, all)) ∙ ap (λ n. get_or zs n 0) last)
        (low 0 (omega arith) ∙ ap (λ n. get_or zs n 0) (let k : t + 0 ≡ 0 = omega arith in k))
        (ring.closes (omega arith))
    | inr some ↦ direct_at g _ _ _ _
        (high (length (drop t zs ++ take t zs) - 1) (omega (arith, all, some)) (omega (arith, all)))
        (low 0 (omega arith))
        (ring.runs (length (drop t zs ++ take t zs) - 1 - (length zs - t)) (t + 0) (omega (arith, all, some)) (omega arith))
  ];
}
  where
    all : length (drop t zs ++ take t zs) ≡ length zs
    all = omega (arith, length-append (drop t zs) (take t zs), length-drop t zs, length-take t zs)

    low : (k : ℕ) → k < length zs - t → get_or (drop t zs ++ take t zs) k 0 ≡ get_or zs (t + k) 0
    low k m = get_or_append_left (drop t zs) (take t zs) 0 k (omega (arith, length-drop t zs)) ∙ get_or-drop t zs k 0

    high : (k : ℕ) → length zs - t ≤ k → k < length zs → get_or (drop t zs ++ take t zs) k 0 ≡ get_or zs (k - (length zs - t)) 0
    high k m n = get_or-append_right (drop t zs) (take t zs) (length zs - t) k 0 (length-drop t zs) m ∙ get_or-take t zs (k - (length zs - t)) 0 (omega arith)

pub cycles_run : (g : Graph) (xs cycle : List ℕ) → IsCycle g xs cycle → IsRing g cycle
cycles_run g xs cycle c = subst (IsRing g) (sym c.is) (elim (cases_lt c.turn (length (reverse (drop c.start c.walk)))) [
  | inl l ↦ ring_turned g (reverse (drop c.start c.walk)) c.turn l (ring_of_walk g xs cycle c)
  | inr l ↦ subst (IsRing g) (whole (reverse (drop c.start c.walk)) c.turn l) (ring_of_walk g xs cycle c)
])
  where
    whole : (zs : List ℕ) (t : ℕ) → length zs ≤ t → zs ≡ drop t zs ++ take t zs
    whole zs t l = sym (ap (λ ds. ds ++ take t zs) (drop_of_length-le zs l) ∙ take_all t zs l)
