-- Numbers of which each is greater than those before it.
use Rattle.std.proofs.Common.{◌≡◌, ◌∙◌, ℕ, zero, suc, ◌+◌, ◌<◌, ◌≤◌, List, [], ◌∷◌, ◌++◌, length, All, IsPermutation, refl, sym, ap, subst, arith}
use Rattle.std.specs.List.{range_with_len}
use Rattle.std.proofs.lemmas.List.Elements.{All-head, All-tail, All-weaker}
use Rattle.std.proofs.lemmas.List.FromFn.{length-range_with_len, get_or-range_with_len}
use Rattle.std.proofs.lemmas.List.Quantifiers.{all_pairs_push}
use Rattle.std.proofs.lemmas.List.Sorted.{All-permutation, IsPermutation-sym, length_permutation}
use Rattle.claims.specs.Lists.{numbers_below, IsGreaterThanAll, IsRising}

pub none_rises : IsRising []
none_rises i j d less below = absurd (omega arith)

-- one more number, which is greater than all
pub rises_more : (numbers : List ℕ) (number : ℕ) → IsRising numbers → IsGreaterThanAll numbers number → IsRising (numbers ++ number ∷ [])
rises_more numbers number rising greater = all_pairs_push (λ a b. a < b) numbers number rising greater

rises_on : (n : ℕ) (ns : List ℕ) → IsRising (n ∷ ns) → IsRising ns
rises_on n ns rising i j d less below = rising (suc i) (suc j) d (omega arith) (omega arith)

rises_above : (n : ℕ) (ns : List ℕ) → IsRising (n ∷ ns) → All (λ later. n + 1 ≤ later) ns
rises_above n ns rising k d below = let above : n < _ = rising 0 (suc k) d (omega arith) (omega arith) in omega (arith, above)

-- between two numbers there are no more than their difference
few_rise : (low high : ℕ) (ns : List ℕ) → IsRising ns → All (λ n. low ≤ n) ns → All (λ n. n < high) ns → low ≤ high → low + length ns ≤ high
few_rise low high [] rising above below order = omega arith
few_rise low high (n ∷ ns) rising above below order =
    let first : low ≤ n = All-head (λ n. low ≤ n) n ns above in
    let last : n < high = All-head (λ n. n < high) n ns below in
    let rest = few_rise (n + 1) high ns (rises_on n ns rising) (rises_above n ns rising) (All-tail (λ n. n < high) n ns below) (omega arith) in
    omega (arith, first, rest)

-- of the numbers below a limit there are no more than it
pub few_below : (limit : ℕ) (ns : List ℕ) → IsRising ns → All (λ n. n < limit) ns → length ns ≤ limit
few_below limit ns rising below = let few = few_rise 0 limit ns rising (λ k d within. omega arith) below (omega arith) in omega (arith, few)

all_rise : (low count : ℕ) (ns : List ℕ) → IsRising ns → All (λ n. low ≤ n) ns → All (λ n. n < low + count) ns → length ns ≡ count → ns ≡ range_with_len low count
all_rise low zero [] rising above below long = refl
all_rise low (suc count) [] rising above below long = absurd (omega arith)
all_rise low zero (n ∷ ns) rising above below long = absurd (omega arith)
all_rise low (suc count) (n ∷ ns) rising above below long =
    let first : low ≤ n = All-head (λ n. low ≤ n) n ns above in
    let last : n < low + suc count = All-head (λ n. n < low + suc count) n ns below in
    let few = few_rise (n + 1) (low + suc count) ns (rises_on n ns rising) (rises_above n ns rising) (All-tail (λ n. n < low + suc count) n ns below) (omega arith) in
    let same : n ≡ low = omega (arith, first, few, long) in
    let rest = all_rise (low + 1) count ns (rises_on n ns rising) (subst (λ k. All (λ later. k + 1 ≤ later) ns) same (rises_above n ns rising))
    (All-weaker (λ n. n < low + suc count) (λ n. n < low + 1 + count) (λ n less. omega (arith, less)) ns (All-tail (λ n. n < low + suc count) n ns below))
    (omega (arith, long)) in
    ap (λ k. k ∷ ns) same ∙ ap (λ l. low ∷ l) rest

all_below : (limit : ℕ) → All (λ n. n < limit) (numbers_below limit)
all_below limit k d within =
    let inside : k < limit = subst (λ l. k < l) (length-range_with_len 0 limit) within in
    omega (arith, inside, get_or-range_with_len 0 limit k d inside)

-- the numbers below a limit, each once, in some order: each is below it
pub below_limit : (limit : ℕ) (ns : List ℕ) → IsPermutation ns (numbers_below limit) → All (λ n. n < limit) ns
below_limit limit ns once = All-permutation (λ n. n < limit) (numbers_below limit) ns (IsPermutation-sym ns (numbers_below limit) once) (all_below limit)

-- where they rise they are in their order
pub in_order : (limit : ℕ) (ns : List ℕ) → IsRising ns → IsPermutation ns (numbers_below limit) → ns ≡ numbers_below limit
in_order limit ns rising once =
    all_rise 0 limit ns rising (λ k d within. omega arith)
    (All-weaker (λ n. n < limit) (λ n. n < 0 + limit) (λ n less. omega (arith, less)) ns (below_limit limit ns once))
    (sym (length_permutation ns (numbers_below limit) once) ∙ length-range_with_len 0 limit)
