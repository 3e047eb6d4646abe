-- What a list has after a push, and a set after an insertion.
use Rattle.std.proofs.Common.{◌≡◌, ℕ, Bool, true, false, ◌||◌, List, [], ◌∷◌, ◌++◌, ◌⊎◌, inl, inr, refl, sym, ap, ◌∙◌, arith, true≢false, nat_eq}
use Rattle.std.specs.BTreeSet.{BTreeSet, contains, Updates}
use Rattle.std.specs.Ordering.{nat_cmp}
use Rattle.std.proofs.lemmas.Grind.{common_steps}
use Rattle.std.proofs.lemmas.Bool.{cases_eq, cases_Bool, eqb-true, eq-eqb, ne_eqb, or_cases, or_left, or_right, or_parts, or_from}
use Rattle.std.proofs.lemmas.List.Folds.{list_any-append}
use Rattle.event_order.specs.Order.{has}

has_push : (xs : List ℕ) (x q : ℕ) → has (xs ++ x ∷ []) q ≡ (has xs q || (nat_eq q x || false))
has_push xs x q = list_any-append (nat_eq q) xs (x ∷ [])

pub has_push_old : (xs : List ℕ) (x q : ℕ) → has xs q ≡ true → has (xs ++ x ∷ []) q ≡ true
has_push_old xs x q h = has_push xs x q ∙ or_left _ _ h

pub has_push_new : (xs : List ℕ) (x : ℕ) → has (xs ++ x ∷ []) x ≡ true
has_push_new xs x = has_push xs x x ∙ or_right (has xs x) _ (or_left (nat_eq x x) false (eq-eqb x x refl))

pub has_push_not : (xs : List ℕ) (x q : ℕ) → has xs q ≡ false → ¬ (q ≡ x) → has (xs ++ x ∷ []) q ≡ false
has_push_not xs x q h ne = has_push xs x q ∙ or_from (has xs q) _ h (or_from (nat_eq q x) false (ne_eqb q x ne) refl)

pub has_push_cases : (xs : List ℕ) (x q : ℕ) → has (xs ++ x ∷ []) q ≡ true → (has xs q ≡ true) ⊎ (q ≡ x)
has_push_cases xs x q h = elim (or_cases (has xs q) _ (sym (has_push xs x q) ∙ h)) [
  | inl old ↦ inl old
  | inr new ↦ elim (or_cases (nat_eq q x) false new) [ inl e ↦ inr (eqb-true q x e) | inr bad ↦ absurd (true≢false (sym bad)) ]
]

pub has_push_before : (xs : List ℕ) (x q : ℕ) → has (xs ++ x ∷ []) q ≡ false → has xs q ≡ false
has_push_before xs x q h = (or_parts (has xs q) _ (sym (has_push xs x q) ∙ h)).0

pub has_push_other : (xs : List ℕ) (x q : ℕ) → ¬ (q ≡ x) → has (xs ++ x ∷ []) q ≡ has xs q
has_push_other xs x q ne = elim (cases_Bool (has xs q)) [
  | inl h ↦ has_push_old xs x q h ∙ sym h
  | inr h ↦ has_push_not xs x q h ne ∙ sym h
]

-- the second set has the keys of the first, and x
pub record Enters (f h : ℕ → Bool) (x : ℕ) : Type 0 where
  pub kept : (q : ℕ) → f q ≡ true → h q ≡ true
  pub there : h x ≡ true
  pub only : (q : ℕ) → h q ≡ true → (f q ≡ true) ⊎ (q ≡ x)

pub set_enters : (s t : BTreeSet ℕ) (x : ℕ) → Updates nat_cmp s t x true → Enters (contains nat_cmp s) (contains nat_cmp t) x
set_enters s t x u = record {
  kept = λ q h. elim (cases_eq q x) [
    | inl e ↦ ap (contains nat_cmp t) e ∙ u.1
    | inr ne ↦ other q ne ∙ h
  ];
  there = u.1;
  only = λ q h. elim (cases_eq q x) [ inl e ↦ inr e | inr ne ↦ inl (sym (other q ne) ∙ h) ];
}
  where
    other : (q : ℕ) → ¬ (q ≡ x) → contains nat_cmp t q ≡ contains nat_cmp s q
    other q ne = u.2 q (grind (arith, common_steps))

-- the second set has the other keys of the first
pub record Leaves (f h : ℕ → Bool) (x : ℕ) : Type 0 where
  pub gone : h x ≡ false
  pub others : (q : ℕ) → ¬ (q ≡ x) → h q ≡ f q

pub set_leaves : (s t : BTreeSet ℕ) (x : ℕ) → Updates nat_cmp s t x false → Leaves (contains nat_cmp s) (contains nat_cmp t) x
set_leaves s t x u = record {
  gone = u.1;
  others = λ q ne. u.2 q (grind (arith, common_steps));
}
