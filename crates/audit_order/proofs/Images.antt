-- Numbers and the nodes that they name.
use Rattle.std.proofs.Common.{◌≡◌, ◌∙◌, ℕ, zero, suc, ◌<◌, ◌≤◌, List, [], ◌∷◌, ◌++◌, length, take, drop, filter, Some, Bool, true, false, cond, nat_eq, refl, ap, sym, arith}
use Rattle.std.specs.Prelude.{slice_index}
use Rattle.std.proofs.lemmas.Bool.{eqb-true, eq-eqb}
use Rattle.basis.specs.Lists.{nth}
use Rattle.audit_meaning.proofs.Filters.{filter_apart, filter_in}
use Rattle.audit_meaning.proofs.Places.{Apart}
use Rattle.audit_meaning.proofs.Words.{nth_map, map_nth}
use Rattle.basis.proofs.Options.{some_is, none_is_not}
use Rattle.basis.proofs.Places.{true_any, any_true, nth_within}
use Rattle.audit_meaning.specs.declared.node.Node.{Node}
use Rattle.event_order.specs.Order.{has}
use Rattle.audit_order.specs.Mirrors.{at, named}

-- ---- numbers in a list

pub nth_index : (xs : List ℕ) (k : ℕ) → k < length xs → nth xs k ≡ Some (slice_index xs k)
nth_index [] k lt = absurd (omega arith)
nth_index (x ∷ xs) zero lt = refl
nth_index (x ∷ xs) (suc k) lt = nth_index xs k (omega arith)

pub index_nth : (xs : List ℕ) (k x : ℕ) → nth xs k ≡ Some x → slice_index xs k ≡ x
index_nth xs k x e = some_is (sym (nth_index xs k (nth_within xs k x e)) ∙ e)

pub in_has : (xs : List ℕ) (i x : ℕ) → nth xs i ≡ Some x → has xs x ≡ true
in_has xs i x e = true_any (nat_eq x) xs i x e (eq-eqb x x refl)

pub has_in : (xs : List ℕ) (x : ℕ) → has xs x ≡ true → (i : ℕ) × (nth xs i ≡ Some x)
has_in xs x h = let f = any_true (nat_eq x) xs h in (f.1.0, f.1.1 ∙ ap (λ y. Some y) (sym (eqb-true x f.0 f.2)))

pub not_has : (xs : List ℕ) (x : ℕ) → ((i : ℕ) → nth xs i ≡ Some x → ⊥) → has xs x ≡ false
not_has xs x n = go (has xs x) refl
  where
    go : (b : Bool) → has xs x ≡ b → b ≡ false
    go true e = absurd (let f = has_in xs x e in n f.0 f.1)
    go false e = refl

-- all stand among so many
abbrev pub AreBelow : ℕ → List ℕ → Type 0
AreBelow n xs = (i x : ℕ) → nth xs i ≡ Some x → x < n

-- ---- names

pub at_there : (ns : List Node) (x : ℕ) → x < length ns → nth ns x ≡ Some (at ns x)
at_there [] x lt = absurd (omega arith)
at_there (n ∷ ns) zero lt = refl
at_there (n ∷ ns) (suc x) lt = at_there ns x (omega arith)

pub there_at : (ns : List Node) (x : ℕ) (a : Node) → nth ns x ≡ Some a → at ns x ≡ a
there_at ns x a e = some_is (sym (at_there ns x (nth_within ns x a e)) ∙ e)

-- the number of a name is one
pub number_is : (ns : List Node) (x y : ℕ) (a : Node) → Apart ns → nth ns x ≡ Some a → nth ns y ≡ Some a → x ≡ y
number_is ns x y a apart e f = apart a x y e f

pub in_named : (ns : List Node) (xs : List ℕ) (i x : ℕ) (a : Node) → nth xs i ≡ Some x → nth ns x ≡ Some a → nth (named ns xs) i ≡ Some a
in_named ns xs i x a e f = map_nth (at ns) xs i x e ∙ ap (λ n. Some n) (there_at ns x a f)

pub named_in : (ns : List Node) (xs : List ℕ) (i : ℕ) (a : Node) → AreBelow (length ns) xs
    → nth (named ns xs) i ≡ Some a → (x : ℕ) × (nth xs i ≡ Some x) × (nth ns x ≡ Some a)
named_in ns xs i a below e =
    let f = nth_map (at ns) xs i a e in
    (f.0, f.1, at_there ns f.0 (below i f.0 f.1) ∙ ap (λ n. Some n) f.2)

pub take_named : (ns : List Node) (xs : List ℕ) (k : ℕ) → take k (named ns xs) ≡ named ns (take k xs)
take_named ns [] zero = refl
take_named ns [] (suc k) = refl
take_named ns (x ∷ xs) zero = refl
take_named ns (x ∷ xs) (suc k) = ap (λ ys. at ns x ∷ ys) (take_named ns xs k)

pub drop_named : (ns : List Node) (xs : List ℕ) (k : ℕ) → drop k (named ns xs) ≡ named ns (drop k xs)
drop_named ns [] zero = refl
drop_named ns [] (suc k) = refl
drop_named ns (x ∷ xs) zero = refl
drop_named ns (x ∷ xs) (suc k) = drop_named ns xs k

pub named_both : (ns : List Node) (xs ys : List ℕ) → named ns (xs ++ ys) ≡ named ns xs ++ named ns ys
named_both ns [] ys = refl
named_both ns (x ∷ xs) ys = ap (λ zs. at ns x ∷ zs) (named_both ns xs ys)

pub length_named : (ns : List Node) (xs : List ℕ) → length (named ns xs) ≡ length xs
length_named ns [] = refl
length_named ns (x ∷ xs) = ap suc (length_named ns xs)

-- ---- places in a filtered list

pub take_filter : {A : Type 0} (p : A → Bool) (xs : List A) (x : ℕ) (a : A) → nth xs x ≡ Some a → p a ≡ true
    → nth (filter p xs) (length (filter p (take x xs))) ≡ Some a
take_filter p [] x a e t = absurd (none_is_not e)
take_filter p (z ∷ xs) zero a e t = rw (ap p (some_is e) ∙ t) e
take_filter {A} p (z ∷ xs) (suc x) a e t = go (p z) (take_filter p xs x a e t)
  where
    go : (b : Bool) → nth (filter p xs) (length (filter p (take x xs))) ≡ Some a
        → nth (cond b (z ∷ filter p xs) (filter p xs))
        (length (cond b (z ∷ filter p (take x xs)) (filter p (take x xs)))) ≡ Some a
    go true h = h
    go false h = h

fewer : {A : Type 0} (p : A → Bool) (xs : List A) (x y : ℕ) → x ≤ y → length (filter p (take x xs)) ≤ length (filter p (take y xs))
fewer p [] zero zero le = omega arith
fewer p [] zero (suc y) le = omega arith
fewer p [] (suc x) zero le = omega arith
fewer p [] (suc x) (suc y) le = omega arith
fewer p (z ∷ xs) zero y le = omega arith
fewer p (z ∷ xs) (suc x) zero le = absurd (omega arith)
fewer {A} p (z ∷ xs) (suc x) (suc y) le = go (p z) (fewer p xs x y (omega arith))
  where
    go : (b : Bool) → length (filter p (take x xs)) ≤ length (filter p (take y xs))
        → length (cond b (z ∷ filter p (take x xs)) (filter p (take x xs))) ≤ length
        (cond b (z ∷ filter p (take y xs)) (filter p (take y xs)))
    go true h = omega arith
    go false h = h

-- what stands earlier stands earlier in what is left
pub in_turn : {A : Type 0} (p : A → Bool) (xs : List A) → Apart xs → (x y i j : ℕ) (a b : A) → nth xs x ≡ Some a
    → nth xs y ≡ Some b → nth (filter p xs) i ≡ Some a → nth (filter p xs) j ≡ Some b → x ≤ y → i ≤ j
in_turn p xs apart x y i j a b ex ey ei ej le =
    let apart' = filter_apart p xs apart in
    let pi : i ≡ length (filter p (take x xs)) = apart' a i (length (filter p (take x xs))) ei (take_filter p xs x a ex (filter_in p xs a i ei).1) in
    let pj : j ≡ length (filter p (take y xs)) = apart' b j (length (filter p (take y xs))) ej (take_filter p xs y b ey (filter_in p xs b j ej).1) in
    let less = fewer p xs x y le in
    omega arith
