-- Sums and gathered lists, over a list of which one member changes.
use Rattle.std.proofs.Common.{◌≡◌, ◌≢◌, ℕ, zero, suc, ◌+◌, ◌<◌, ◌≤◌, List, [], ◌∷◌, ◌++◌, length, get_or, set, All, IsPermutation, sum_by}
use Rattle.std.proofs.Common.{refl, sym, ap, ◌∙◌, subst, arith}
use Rattle.std.specs.List.{flat_map}
use Rattle.std.proofs.lemmas.List.{append_assoc, append-nil, set_comm, set-set}
use Rattle.std.proofs.lemmas.List.Concat.{flat_map-append}
use Rattle.std.proofs.lemmas.List.Elements.{All-nil, All-cons, All-head, All-tail}
use Rattle.std.proofs.lemmas.List.Sorted.{IsPermutation-append_right, IsPermutation-append_comm, IsPermutation-sym, IsPermutation-trans}
use Rattle.std.proofs.lemmas.List.Sums.{sum_by-set, sum_by-cons, get_or-le-sum_by}
use mathlib.Core.Option.{some, some-injective, some-ne-none}
use lib.ListN.{get_elem?}
use Rattle.atomic_table.proofs.Lists.{set_again, set_else}

module _ {X : Type 0} where
  -- what stands at a place, told in the way of the table and in that of std
  pub at_place : (xs : List X) (i : ℕ) (x : X) → get_elem? xs i ≡ some x → (i < length xs) × (get_or xs i x ≡ x)
  at_place [] i x at = absurd (some-ne-none x (sym at))
  at_place (y ∷ ys) zero x at = (omega arith, some-injective y x at)
  at_place (y ∷ ys) (suc i) x at = let there = at_place ys i x at in (omega (arith, there.0), there.1)

  -- a sum after one member changed
  pub sum_by-changed : (f : X → ℕ) (xs : List X) (i : ℕ) (x y : X) → get_elem? xs i ≡ some x → sum_by f (set xs i y) + f x ≡ sum_by f xs + f y
  sum_by-changed f xs i x y at =
      let there = at_place xs i x at in
      subst (λ (z : X). sum_by f (set xs i y) + f z ≡ sum_by f xs + f y) there.1 (sum_by-set f xs i y x there.0)

  -- a member's number is within the sum
  pub within-sum_by : (f : X → ℕ) (xs : List X) (i : ℕ) (x : X) → get_elem? xs i ≡ some x → f x ≤ sum_by f xs
  within-sum_by f xs i x at = let there = at_place xs i x at in subst (λ (z : X). f z ≤ sum_by f xs) there.1 (get_or-le-sum_by f xs i x there.0)

  -- where each number is no more than another, so are the sums
  pub sum_by-below : (f g : X → ℕ) → ((x : X) → f x ≤ g x) → (xs : List X) → sum_by f xs ≤ sum_by g xs
  sum_by-below f g below [] = omega arith
  sum_by-below f g below (x ∷ xs) =
      let here = below x in let others = sum_by-below f g below xs in
      omega (arith, sum_by-cons f x xs, sum_by-cons g x xs)

first_part : {A : Type 0} (P : A → Type 0) (xs ys : List A) → All P (xs ++ ys) → All P xs
first_part P [] ys all = All-nil P
first_part P (x ∷ xs) ys all = All-cons P x xs (All-head P x (xs ++ ys) all) (first_part P xs ys (All-tail P x (xs ++ ys) all))

last_part : {A : Type 0} (P : A → Type 0) (xs ys : List A) → All P (xs ++ ys) → All P ys
last_part P [] ys all = all
last_part P (x ∷ xs) ys all = last_part P xs ys (All-tail P x (xs ++ ys) all)

module _ {X A : Type 0} (f : X → List A) where
  -- a member that gives the same
  pub flat_map-same : (xs : List X) (i : ℕ) (x y : X) → get_elem? xs i ≡ some x → f y ≡ f x → flat_map f (set xs i y) ≡ flat_map f xs
  flat_map-same [] i x y at same = refl
  flat_map-same (z ∷ zs) zero x y at same = ap (λ (l : List A). l ++ flat_map f zs) (same ∙ ap f (sym (some-injective z x at)))
  flat_map-same (z ∷ zs) (suc i) x y at same = ap (λ (l : List A). f z ++ l) (flat_map-same zs i x y at same)

  -- a member that gives more
  pub flat_map-more : (more : List A) (xs : List X) (i : ℕ) (x y : X) → get_elem? xs i ≡ some x → f y ≡ f x ++ more
      → IsPermutation (flat_map f (set xs i y)) (flat_map f xs ++ more)
  flat_map-more more [] i x y at is = absurd (some-ne-none x (sym at))
  flat_map-more more (z ∷ zs) zero x y at is =
      let rest = flat_map f zs in
      let gives : f y ≡ f z ++ more = is ∙ ap (λ (u : X). f u ++ more) (sym (some-injective z x at)) in
      let here : f y ++ rest ≡ f z ++ (more ++ rest) = ap (λ (l : List A). l ++ rest) gives ∙ append_assoc (f z) more rest in
      let moved = IsPermutation-append_right (f z) (more ++ rest) (rest ++ more) (IsPermutation-append_comm more rest) in
      subst (λ (l : List A). IsPermutation l ((f z ++ rest) ++ more)) (sym here)
      (subst (IsPermutation (f z ++ (more ++ rest))) (sym (append_assoc (f z) rest more)) moved)
  flat_map-more more (z ∷ zs) (suc i) x y at is =
      let rest = flat_map f zs in
      subst (IsPermutation (f z ++ flat_map f (set zs i y))) (sym (append_assoc (f z) rest more))
      (IsPermutation-append_right (f z) (flat_map f (set zs i y)) (rest ++ more) (flat_map-more more zs i x y at is))

  -- what is true of all that is given is true of what one member gives
  pub flat_map-at : (P : A → Type 0) (xs : List X) (i : ℕ) (x : X) → get_elem? xs i ≡ some x → All P (flat_map f xs) → All P (f x)
  flat_map-at P [] i x at all = absurd (some-ne-none x (sym at))
  flat_map-at P (z ∷ zs) zero x at all = subst (λ (u : X). All P (f u)) (some-injective z x at) (first_part P (f z) (flat_map f zs) all)
  flat_map-at P (z ∷ zs) (suc i) x at all = flat_map-at P zs i x at (last_part P (f z) (flat_map f zs) all)

  -- one more member, which gives nothing
  pub flat_map-push : (xs : List X) (y : X) → f y ≡ [] → flat_map f (xs ++ y ∷ []) ≡ flat_map f xs
  flat_map-push xs y nothing =
      flat_map-append f xs (y ∷ []) ∙ (ap (λ (l : List A). flat_map f xs ++ (l ++ [])) nothing ∙ append-nil (flat_map f xs))

  -- one member gives what it gave and what another gave, which then gives nothing
  pub flat_map-moved : (xs : List X) (i j : ℕ) (x z y gone : X) → get_elem? xs i ≡ some x → i ≢ j → get_elem? xs j ≡ some z → f y ≡ f x ++ f z → f gone ≡ []
      → IsPermutation (flat_map f (set (set xs i y) j gone)) (flat_map f xs)
  flat_map-moved xs i j x z y gone at apart other both nothing =
      let without = set xs j gone in
      let gone_there : get_elem? without j ≡ some gone = set_there xs j z gone other in
      let back : set without j z ≡ xs = set-set xs j gone z ∙ set_again xs j z other in
      let x_there : get_elem? without i ≡ some x = set_else xs j i gone apart ∙ at in
      let here : IsPermutation (flat_map f (set without i y)) (flat_map f without ++ f z) = flat_map-more (f z) without i x y x_there both in
      let there : IsPermutation (flat_map f xs) (flat_map f without ++ f z) =
      subst (λ (l : List X). IsPermutation (flat_map f l) (flat_map f without ++ f z)) back
      (flat_map-more (f z) without j gone z gone_there (sym (ap (λ (l : List A). l ++ f z) nothing))) in
      subst (λ (l : List X). IsPermutation (flat_map f l) (flat_map f xs)) (set_comm xs j i gone y (λ same. apart (sym same)))
      (IsPermutation-trans (flat_map f (set without i y)) (flat_map f without ++ f z) (flat_map f xs) here
      (IsPermutation-sym (flat_map f xs) (flat_map f without ++ f z) there))
    where
      set_there : (l : List X) (k : ℕ) (a b : X) → get_elem? l k ≡ some a → get_elem? (set l k b) k ≡ some b
      set_there [] k a b e = absurd (some-ne-none a (sym e))
      set_there (c ∷ cs) zero a b e = refl
      set_there (c ∷ cs) (suc k) a b e = set_there cs k a b e

  -- where those without a share give nothing, and nobody has one, nothing is given
  flat_map-none : (share : X → ℕ) (xs : List X) → sum_by share xs ≡ 0 → All (λ x. share x ≡ 0 → f x ≡ []) xs → flat_map f xs ≡ []
  flat_map-none share [] none idle = refl
  flat_map-none share (z ∷ zs) none idle =
      let parts = sum_by-cons share z zs in
      let here : f z ≡ [] = All-head (λ x. share x ≡ 0 → f x ≡ []) z zs idle (omega arith) in
      ap (λ (l : List A). l ++ flat_map f zs) here ∙ flat_map-none share zs (omega arith) (All-tail (λ x. share x ≡ 0 → f x ≡ []) z zs idle)

  -- where one member has all shares, what it gives is all that is given
  pub flat_map-only : (share : X → ℕ) (xs : List X) (i : ℕ) (x : X) → get_elem? xs i ≡ some x → sum_by share xs ≡ share x
      → All (λ x. share x ≡ 0 → f x ≡ []) xs → flat_map f xs ≡ f x
  flat_map-only share [] i x at all idle = absurd (some-ne-none x (sym at))
  flat_map-only share (z ∷ zs) zero x at all idle =
      let parts = sum_by-cons share z zs in
      let same : share z ≡ share x = ap share (some-injective z x at) in
      let others = flat_map-none share zs (omega arith) (All-tail (λ x. share x ≡ 0 → f x ≡ []) z zs idle) in
      ap (λ (l : List A). f z ++ l) others ∙ (append-nil (f z) ∙ ap f (some-injective z x at))
  flat_map-only share (z ∷ zs) (suc i) x at all idle =
      let parts = sum_by-cons share z zs in
      let within = within-sum_by share zs i x at in
      let here : f z ≡ [] = All-head (λ x. share x ≡ 0 → f x ≡ []) z zs idle (omega arith) in
      ap (λ (l : List A). l ++ flat_map f zs) here ∙ flat_map-only share zs i x at (omega arith) (All-tail (λ x. share x ≡ 0 → f x ≡ []) z zs idle)
