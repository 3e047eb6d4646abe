-- Sums over lists, and lists whose members all stand in another.
use Rattle.std.proofs.Common.{◌≡◌, ◌∙◌, ℕ, zero, suc, ◌+◌, ◌≤◌, List, [], ◌∷◌, ◌++◌, length, map, flat_map, Some, ◌⊎◌, inl, inr, refl, sym, ap, subst, arith}
use Rattle.basis.specs.Lists.{nth}
use Rattle.basis.proofs.Options.{some_is, none_is_not}
use Rattle.basis.proofs.Places.{In}
use Rattle.audit_meaning.proofs.Places.{Apart, apart_head, apart_rest}

-- the sum of what the members weigh
unfoldable pub total : {A : Type 0} → (A → ℕ) → List A → ℕ
total w [] = 0
total w (x ∷ xs) = w x + total w xs

pub total_cons : {A : Type 0} (w : A → ℕ) (x : A) (xs : List A) → total w (x ∷ xs) ≡ w x + total w xs
unfolding total
total_cons w x xs = refl

pub total_append : {A : Type 0} (w : A → ℕ) (xs ys : List A) → total w (xs ++ ys) ≡ total w xs + total w ys
unfolding total
total_append w [] ys = omega arith
total_append w (x ∷ xs) ys = ap (λ n. w x + n) (total_append w xs ys) ∙ omega arith

pub total_map : {A B : Type 0} (w : B → ℕ) (f : A → B) (xs : List A) → total w (map f xs) ≡ total (λ x. w (f x)) xs
unfolding total
total_map w f [] = refl
total_map w f (x ∷ xs) = ap (λ n. w (f x) + n) (total_map w f xs)

pub total_flat : {A B : Type 0} (w : B → ℕ) (f : A → List B) (xs : List A) → total w (flat_map f xs) ≡ total (λ x. total w (f x)) xs
unfolding total
total_flat w f [] = refl
total_flat w f (x ∷ xs) = total_append w (f x) (flat_map f xs) ∙ ap (λ n. total w (f x) + n) (total_flat w f xs)

-- what weighs no more, one by one, weighs no more in all
pub total_le : {A : Type 0} (v w : A → ℕ) → ((x : A) → v x ≤ w x) → (xs : List A) → total v xs ≤ total w xs
unfolding total
total_le v w each [] = omega arith
total_le v w each (x ∷ xs) = let h = each x in let rest = total_le v w each xs in omega (arith, h, rest)

pub total_same : {A : Type 0} (v w : A → ℕ) → ((x : A) → v x ≡ w x) → (xs : List A) → total v xs ≡ total w xs
unfolding total
total_same v w each [] = refl
total_same v w each (x ∷ xs) = ap (λ n. n + total v xs) (each x) ∙ ap (λ n. w x + n) (total_same v w each xs)

-- as many as there are, where each weighs one
pub total_ones : {A : Type 0} (xs : List A) → total (λ x. 1) xs ≡ length xs
unfolding total
total_ones [] = refl
total_ones (x ∷ xs) = let rest = total_ones xs in omega (arith, rest)

-- ---- one member less

less : {A : Type 0} → ℕ → List A → List A
less i [] = []
less zero (y ∷ ys) = ys
less (suc i) (y ∷ ys) = y ∷ less i ys

total_less : {A : Type 0} (w : A → ℕ) (ys : List A) (i : ℕ) (x : A) → nth ys i ≡ Some x → total w ys ≡ w x + total w (less i ys)
unfolding total less
total_less w [] i x e = absurd (none_is_not e)
total_less w (y ∷ ys) zero x e = ap (λ z. w z + total w ys) (some_is e)
total_less w (y ∷ ys) (suc i) x e = ap (λ n. w y + n) (total_less w ys i x e) ∙ omega arith

in_less : {A : Type 0} (ys : List A) (i j : ℕ) (x z : A) → nth ys i ≡ Some x → nth ys j ≡ Some z → (x ≡ z) ⊎ In (less i ys) z
unfolding less
in_less [] i j x z a b = absurd (none_is_not a)
in_less (y ∷ ys) zero zero x z a b = inl (some_is (sym a ∙ b))
in_less (y ∷ ys) zero (suc j) x z a b = inr (j, b)
in_less (y ∷ ys) (suc i) zero x z a b = inr (0, b)
in_less (y ∷ ys) (suc i) (suc j) x z a b = elim (in_less ys i j x z a b) [ inl e ↦ inl e | inr h ↦ inr (suc h.0, h.1) ]

-- Where no member stands twice, and each stands in another list, they weigh no more than it.
pub total_within : {A : Type 0} (w : A → ℕ) (xs ys : List A) → Apart xs → ((x : A) → In xs x → In ys x) → total w xs ≤ total w ys
unfolding total less
total_within w [] ys apart inside = omega arith
total_within {A} w (x ∷ xs) ys apart inside =
    let here = inside x (0, refl) in
    let rest = total_within w xs (less here.0 ys) (apart_rest x xs apart) (λ z m. moved z m (in_less ys here.0 (inside z (suc m.0, m.1)).0 x z here.1 (inside z (suc m.0, m.1)).1)) in
    let whole = total_less w ys here.0 x here.1 in
    omega (arith, rest, whole)
  where
    moved : (z : A) → In xs z → (x ≡ z) ⊎ In (less (inside x (0, refl)).0 ys) z → In (less (inside x (0, refl)).0 ys) z
    moved z m (inl e) = absurd (apart_head x xs apart (subst (In xs) (sym e) m))
    moved z m (inr h) = h
