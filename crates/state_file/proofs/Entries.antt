-- Facts on entries that are stored from the last to the first.
use Rattle.std.proofs.Common.{◌≡◌, ◌∙◌, ℕ, ◌≤◌, List, [], ◌∷◌, ◌++◌, length, Option, Some, None, Bool, true, false, ◌||◌, ◌&&◌, is_some, refl, ap, sym, arith}
use Rattle.std.specs.Prelude.{nat_le, not}
use Rattle.std.specs.List.{list_all, list_any}
use Rattle.std.specs.Map.{keys_of}
use Rattle.std.specs.Str.{bytes_eq}
use Rattle.std.proofs.lemmas.List.Folds.{list_all-append}
use Rattle.std.proofs.lemmas.Map.Made.{is_some-lookup}
use Rattle.basis.proofs.Booleans.{both-left, both-right, or-false}
use Rattle.script_tree.specs.Datum.{IsWithinLimits, is_within_limits}
use Rattle.script_tree.specs.Fit.{IsKey}
use Rattle.script_tree.specs.declared.limits.TheConstants.{MOST_KEY_BYTES}
use Rattle.json_texts.specs.Shapes.{Named, has_twice}
use Rattle.state_file.specs.Givens.{Entry}
use Rattle.state_file.specs.Faults.{is_entry_within_limits, some_key_is_twice}
use Rattle.state_file.specs.Stored.{given_at}

-- ---- names that stand twice

pub twice_behind : {A : Type 0} (front last : List (Named A)) → has_twice (keys_of last) ≡ true → has_twice (keys_of (front ++ last)) ≡ true
twice_behind [] last h = h
twice_behind (e ∷ front) last h = or_later (list_any (bytes_eq e.0) (keys_of (front ++ last))) (twice_behind front last h) where
  or_later : (a : Bool) {b : Bool} → b ≡ true → (a || b) ≡ true
  or_later true e = refl
  or_later false e = e

-- names that don't stand twice don't among the last ones
pub once_behind : {A : Type 0} (front last : List (Named A)) → has_twice (keys_of (front ++ last)) ≡ false → has_twice (keys_of last) ≡ false
once_behind front last h = by_test (has_twice (keys_of last)) refl where
  by_test : (b : Bool) → has_twice (keys_of last) ≡ b → b ≡ false
  by_test true e = let twice = twice_behind front last e in absurd cc
  by_test false e = refl

-- whether a name stands before others, by what is given there
pub stands : {A : Type 0} (name : List ℕ) (x : A) (last : List (Named A)) (had : Bool)
    → had ≡ is_some (given_at last name) → has_twice (keys_of last) ≡ false
    → has_twice (keys_of ((name, x) ∷ last)) ≡ had
stands name x last had e once = rw (← is_some-lookup (bytes_eq name) last, once) (or-false (is_some (given_at last name)) ∙ sym e)

none_is : {A : Type 0} (o : Option A) → is_some o ≡ false → o ≡ None
none_is (Some x) e = absurd cc
none_is None e = refl

first_false : (a b : Bool) → (a || b) ≡ false → a ≡ false
first_false true b e = absurd cc
first_false false b e = refl

-- a name that doesn't stand twice isn't given behind
pub not_behind : {A : Type 0} (name : List ℕ) (x : A) (last : List (Named A)) → has_twice (keys_of ((name, x) ∷ last)) ≡ false → given_at last name ≡ None
not_behind name x last once =
    none_is (given_at last name) (is_some-lookup (bytes_eq name) last ∙ first_false (list_any (bytes_eq name) (keys_of last)) (has_twice (keys_of last)) once)

-- ---- limits

pub le_of : (a b : ℕ) → nat_le a b ≡ true → a ≤ b
le_of a b e = grind arith

-- what holds of all holds of those in front, and of the last one
pub all_in_front : {A : Type 0} (p : A → Bool) (front : List A) (x : A) → list_all p (front ++ x ∷ []) ≡ true → list_all p front ≡ true
all_in_front p front x h = both-left (list_all p front) (p x && true) (sym (list_all-append p front (x ∷ [])) ∙ h)

pub all_at_last : {A : Type 0} (p : A → Bool) (front : List A) (x : A) → list_all p (front ++ x ∷ []) ≡ true → p x ≡ true
all_at_last p front x h = both-left (p x) true (both-right (list_all p front) (p x && true) (sym (list_all-append p front (x ∷ [])) ∙ h))

pub key_fits : (e : Entry) → is_entry_within_limits e ≡ true → IsKey e.0
key_fits e h = le_of (length e.0) MOST_KEY_BYTES (both-left (nat_le (length e.0) MOST_KEY_BYTES) (is_within_limits e.1) h)

pub value_fits : (e : Entry) → is_entry_within_limits e ≡ true → IsWithinLimits e.1
value_fits e h = both-right (nat_le (length e.0) MOST_KEY_BYTES) (is_within_limits e.1) h

-- ---- stores

or_true : (a : Bool) → (a || true) ≡ true
or_true true = refl
or_true false = refl

some_behind : (front last : List (Named (List Entry))) → some_key_is_twice last ≡ true → some_key_is_twice (front ++ last) ≡ true
some_behind [] last h = h
some_behind (s ∷ front) last h = ap (λ b. has_twice (keys_of s.1) || b) (some_behind front last h) ∙ or_true (has_twice (keys_of s.1))

-- a store whose key was given twice
pub twice_key : (front : List (Named (List Entry))) (name : List ℕ) (entries : List Entry) (last : List (Named (List Entry))) (done : Bool)
    → done ≡ not (has_twice (keys_of entries)) → done ≡ false → some_key_is_twice (front ++ (name, entries) ∷ last) ≡ true
twice_key front name entries last done is not_done = some_behind front ((name, entries) ∷ last) (by (has_twice (keys_of entries)) (sym is ∙ not_done)) where
  by : (b : Bool) → not b ≡ false → (b || some_key_is_twice last) ≡ true
  by true e = refl
  by false e = absurd cc

pub no_twice_key : (name : List ℕ) (entries : List Entry) (last : List (Named (List Entry))) (done : Bool)
    → done ≡ not (has_twice (keys_of entries)) → done ≡ true → some_key_is_twice last ≡ false → some_key_is_twice ((name, entries) ∷ last) ≡ false
no_twice_key name entries last done is all_done once = by (has_twice (keys_of entries)) (sym is ∙ all_done) where
  by : (b : Bool) → not b ≡ true → (b || some_key_is_twice last) ≡ false
  by true e = absurd cc
  by false e = once

-- ---- tests

pub all_same : {A : Type 0} (p q : A → Bool) (xs : List A) → ((x : A) → p x ≡ q x) → list_all p xs ≡ list_all q xs
all_same p q [] same = refl
all_same p q (x ∷ xs) same = λ i. same x i && all_same p q xs same i
