-- Facts on places in lists.
use Rattle.std.proofs.Common.{◌≡◌, ℕ, zero, suc, ◌+◌, ◌<◌, ◌≤◌, Bool, true, false, ◌||◌, List, [], ◌∷◌, ◌++◌, take, map, Some, None, Option, ◌⊎◌, inl, inr, refl, sym, ap, subst, ◌∙◌, arith, append_assoc, append-nil, flat_map, true≢false}
use Rattle.std.specs.List.{list_any}
use Rattle.std.proofs.lemmas.Bool.{cases_eq}
use Rattle.basis.specs.Lists.{nth, first_answer, or_else}
use Rattle.basis.proofs.Options.{some_is, none_is_not}
use Rattle.basis.proofs.Places.{In}
use Rattle.audit_meaning.specs.Lists.{befores, befores_from, last, numbers, answer_if}
use Rattle.audit_meaning.proofs.Words.{nth_map, map_nth}

pub in_left : {A : Type 0} (xs ys : List A) (x : A) → In xs x → In (xs ++ ys) x
in_left {A} xs ys x h = (h.0, go xs h.0 h.1)
  where
    go : (zs : List A) (i : ℕ) → nth zs i ≡ Some x → nth (zs ++ ys) i ≡ Some x
    go [] i e = absurd (none_is_not e)
    go (z ∷ zs) zero e = e
    go (z ∷ zs) (suc i) e = go zs i e

pub in_right : {A : Type 0} (xs ys : List A) (x : A) → In ys x → In (xs ++ ys) x
in_right [] ys x h = h
in_right (z ∷ xs) ys x h = let more = in_right xs ys x h in (suc more.0, more.1)

pub in_either : {A : Type 0} (xs ys : List A) (x : A) (i : ℕ) → nth (xs ++ ys) i ≡ Some x → In xs x ⊎ In ys x
in_either [] ys x i e = inr (i, e)
in_either (z ∷ xs) ys x zero e = inl (0, e)
in_either (z ∷ xs) ys x (suc i) e = elim (in_either xs ys x i e) [ inl h ↦ inl (suc h.0, h.1) | inr h ↦ inr h ]

pub in_map : {A B : Type 0} (f : A → B) (xs : List A) (x : A) → In xs x → In (map f xs) (f x)
in_map f xs x h = (h.0, map_nth f xs h.0 x h.1)

pub in_map_back : {A B : Type 0} (f : A → B) (xs : List A) (y : B) → In (map f xs) y → (x : A) × (In xs x) × (f x ≡ y)
in_map_back f xs y h = let x = nth_map f xs h.0 y h.1 in (x.0, (h.0, x.1), x.2)

pub in_flat : {A B : Type 0} (f : A → List B) (xs : List A) (x : A) (y : B) (i : ℕ) → nth xs i ≡ Some x → In (f x) y → In (flat_map f xs) y
in_flat f [] x y i e h = absurd (none_is_not e)
in_flat f (z ∷ xs) x y zero e h = in_left (f z) (flat_map f xs) y (subst (λ w. In (f w) y) (sym (some_is e)) h)
in_flat f (z ∷ xs) x y (suc i) e h = in_right (f z) (flat_map f xs) y (in_flat f xs x y i e h)

pub in_flat_back : {A B : Type 0} (f : A → List B) (xs : List A) (y : B) (i : ℕ) → nth (flat_map f xs) i ≡ Some y → (x : A) × (In xs x) × (In (f x) y)
in_flat_back f [] y i e = absurd (none_is_not e)
in_flat_back f (z ∷ xs) y i e =
    elim (in_either (f z) (flat_map f xs) y i e) [
      | inl h ↦ (z, (0, refl), h)
      | inr h ↦ let more = in_flat_back f xs y h.0 h.1 in (more.0, (suc more.1.0, more.1.1), more.2)
    ]

pub in_numbers : (k n j : ℕ) → k ≤ j → j < k + n → In (numbers k n) j
in_numbers k zero j l m = absurd (omega arith)
in_numbers k (suc n) j l m = elim (cases_first k j) [
  | inl e ↦ (0, ap (λ x. Some x) e)
  | inr ne ↦ let more = in_numbers (suc k) n j (omega (arith, ne)) (omega arith) in (suc more.0, more.1)
]
  where
    cases_first : (a b : ℕ) → (a ≡ b) ⊎ (a ≡ b → ⊥)
    cases_first = cases_eq

pub numbers_in : (k n j i : ℕ) → nth (numbers k n) i ≡ Some j → (k ≤ j) × (j < k + n)
numbers_in k zero j i e = absurd (none_is_not e)
numbers_in k (suc n) j zero e = let p : k ≡ j = some_is e in (omega arith, omega arith)
numbers_in k (suc n) j (suc i) e = let h = numbers_in (suc k) n j i e in (omega (arith, h.0), omega (arith, h.1))

-- ---- first answers

pub or_none : {A : Type 0} (a b : Option A) → or_else a b ≡ None → (a ≡ None) × (b ≡ None)
unfolding or_else
or_none None b e = (refl, e)
or_none (Some x) b e = absurd (none_is_not (sym e))

pub first_none : {A B : Type 0} (f : A → Option B) (xs : List A) (i : ℕ) (x : A) → first_answer f xs ≡ None → nth xs i ≡ Some x → f x ≡ None
unfolding first_answer
first_none f [] i x e h = absurd (none_is_not h)
first_none f (y ∷ xs) zero x e h = ap f (sym (some_is h)) ∙ (or_none (f y) (first_answer f xs) e).0
first_none f (y ∷ xs) (suc i) x e h = first_none f xs i x (or_none (f y) (first_answer f xs) e).1 h

pub answer_none : {A : Type 0} (b : Bool) (x : A) → answer_if b x ≡ None → b ≡ false
unfolding answer_if
answer_none true x e = absurd (none_is_not (sym e))
answer_none false x e = refl

pub answer_some : {A : Type 0} (b : Bool) (x y : A) → answer_if b x ≡ Some y → (b ≡ true) × (x ≡ y)
unfolding answer_if
answer_some true x y e = (refl, some_is e)
answer_some false x y e = absurd (none_is_not e)

or_false : (a b : Bool) → (a || b) ≡ false → (a ≡ false) × (b ≡ false)
or_false true b e = absurd (true≢false e)
or_false false b e = (refl, e)

-- ---- what stands before

pub befores_from_at : {A : Type 0} (past ys : List A) (k : ℕ) (x : A) → nth ys k ≡ Some x → nth (befores_from past ys) k ≡ Some (past ++ take k ys, x)
befores_from_at past [] k x h = absurd (none_is_not h)
befores_from_at past (y ∷ ys) zero x h = λ j. Some (sym (append-nil past) j, some_is h j)
befores_from_at past (y ∷ ys) (suc k) x h = befores_from_at (past ++ y ∷ []) ys k x h ∙ ap (λ w. Some (w, x)) (append_assoc past (y ∷ []) (take k ys))

pub befores_at : {A : Type 0} (xs : List A) (i : ℕ) (x : A) → nth xs i ≡ Some x → nth (befores xs) i ≡ Some (take i xs, x)
befores_at xs i x e = befores_from_at [] xs i x e

pub befores_from_back : {A : Type 0} (past ys : List A) (k : ℕ) (b : List A × A)
    → nth (befores_from past ys) k ≡ Some b → (nth ys k ≡ Some b.1) × (past ++ take k ys ≡ b.0)
befores_from_back past [] k b h = absurd (none_is_not h)
befores_from_back past (y ∷ ys) zero b h = (ap (λ w. Some w.1) (some_is h), append-nil past ∙ ap (λ w. w.0) (some_is h))
befores_from_back past (y ∷ ys) (suc k) b h =
    let more = befores_from_back (past ++ y ∷ []) ys k b h in
    (more.0, sym (append_assoc past (y ∷ []) (take k ys)) ∙ more.1)

pub befores_back : {A : Type 0} (xs : List A) (i : ℕ) (b : List A × A) → nth (befores xs) i ≡ Some b → (nth xs i ≡ Some b.1) × (take i xs ≡ b.0)
befores_back xs i b e = befores_from_back [] xs i b e

pub last_take : {A : Type 0} (xs : List A) (i : ℕ) (x : A) → nth xs i ≡ Some x → last (take (suc i) xs) ≡ Some x
last_take [] i x e = absurd (none_is_not e)
last_take (y ∷ xs) zero x e = e
last_take (y ∷ []) (suc i) x e = absurd (none_is_not e)
last_take (y ∷ z ∷ xs) (suc i) x e = last_take (z ∷ xs) i x e

-- ---- lists in which nothing stands twice

abbrev pub Apart : {A : Type 0} → List A → Type 0
Apart {A} xs = (x : A) (i j : ℕ) → nth xs i ≡ Some x → nth xs j ≡ Some x → i ≡ j

pub apart_rest : {A : Type 0} (y : A) (ys : List A) → Apart (y ∷ ys) → Apart ys
apart_rest y ys h x i j a b = let e : suc i ≡ suc j = h x (suc i) (suc j) a b in omega arith

pub apart_head : {A : Type 0} (y : A) (ys : List A) → Apart (y ∷ ys) → In ys y → ⊥
apart_head y ys h in_ys = let e : 0 ≡ suc in_ys.0 = h y 0 (suc in_ys.0) refl in_ys.1 in absurd (omega arith)

pub apart_more : {A : Type 0} (y : A) (ys : List A) → (In ys y → ⊥) → Apart ys → Apart (y ∷ ys)
apart_more y ys n h x zero zero a b = refl
apart_more y ys n h x zero (suc j) a b = absurd (n (j, b ∙ sym a))
apart_more y ys n h x (suc i) zero a b = absurd (n (i, a ∙ sym b))
apart_more y ys n h x (suc i) (suc j) a b = ap suc (h x i j a b)

pub apart_both : {A : Type 0} (xs ys : List A) → Apart xs → Apart ys → ((x : A) → In xs x → In ys x → ⊥) → Apart (xs ++ ys)
apart_both [] ys a b n = b
apart_both (x ∷ xs) ys a b n =
    apart_more x (xs ++ ys)
    (λ h. elim (in_either xs ys x h.0 h.1) [
      | inl l ↦ apart_head x xs a l
      | inr r ↦ n x (0, refl) r
    ])
    (apart_both xs ys (apart_rest x xs a) b (λ z l r. n z (suc l.0, l.1) r))

pub take_nth : {A : Type 0} (xs : List A) (n i : ℕ) (x : A) → nth (take n xs) i ≡ Some x → nth xs i ≡ Some x
take_nth [] zero i x e = e
take_nth [] (suc n) i x e = e
take_nth (y ∷ xs) zero i x e = absurd (none_is_not e)
take_nth (y ∷ xs) (suc n) zero x e = e
take_nth (y ∷ xs) (suc n) (suc i) x e = take_nth xs n i x e

pub take_within : {A : Type 0} (xs : List A) (n i : ℕ) (x : A) → nth (take n xs) i ≡ Some x → i < n
take_within [] zero i x e = absurd (none_is_not e)
take_within [] (suc n) i x e = absurd (none_is_not e)
take_within (y ∷ xs) zero i x e = absurd (none_is_not e)
take_within (y ∷ xs) (suc n) zero x e = omega arith
take_within (y ∷ xs) (suc n) (suc i) x e = let l : i < n = take_within xs n i x e in omega arith

-- ---- the other way round

pub none_or : {A : Type 0} (a b : Option A) → a ≡ None → b ≡ None → or_else a b ≡ None
unfolding or_else
none_or None b e f = f
none_or (Some x) b e f = absurd (none_is_not (sym e))

pub none_first : {A B : Type 0} (f : A → Option B) (xs : List A) → ((i : ℕ) (x : A) → nth xs i ≡ Some x → f x ≡ None) → first_answer f xs ≡ None
unfolding first_answer
none_first f [] h = refl
none_first f (x ∷ xs) h = none_or (f x) (first_answer f xs) (h 0 x refl) (none_first f xs (λ i y e. h (suc i) y e))

pub none_answer : {A : Type 0} (b : Bool) (x : A) → b ≡ false → answer_if b x ≡ None
unfolding answer_if
none_answer true x e = absurd (true≢false e)
none_answer false x e = refl

pub false_any : {A : Type 0} (p : A → Bool) (xs : List A) → ((i : ℕ) (x : A) → nth xs i ≡ Some x → p x ≡ false) → list_any p xs ≡ false
false_any p [] h = refl
false_any p (x ∷ xs) h = both (p x) (list_any p xs) (h 0 x refl) (false_any p xs (λ i y e. h (suc i) y e))
  where
    both : (a b : Bool) → a ≡ false → b ≡ false → (a || b) ≡ false
    both true b e f = absurd (true≢false e)
    both false b e f = f

pub apart_flat : {A B : Type 0} (f : A → List B) (xs : List A) → ((i : ℕ) (x : A) → nth xs i ≡ Some x → Apart (f x))
    → ((i j : ℕ) (x y : A) (b : B) → nth xs i ≡ Some x → nth xs j ≡ Some y → In (f x) b → In (f y) b → i ≡ j) → Apart (flat_map f xs)
apart_flat f [] each one = λ x i j a b. absurd (none_is_not a)
apart_flat f (z ∷ xs) each one = apart_both (f z) (flat_map f xs) (each 0 z refl)
    (apart_flat f xs (λ i x e. each (suc i) x e) (λ i j x y b at_i at_j m n. let h : suc i ≡ suc j = one (suc i) (suc j) x y b at_i at_j m n in omega arith))
    (λ b m n.
    let from = in_flat_back f xs b n.0 n.1 in
    let h : 0 ≡ suc from.1.0 = one 0 (suc from.1.0) z from.0 b refl from.1.1 m from.2 in
    absurd (omega arith))
