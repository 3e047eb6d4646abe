-- What stands at a place: one thing behind another, and one thing alone.
use Rattle.std.proofs.Common.{◌≡◌, ℕ, ◌+◌, ◌-◌, ◌<◌, ◌≤◌, List, ◌++◌, length, take, drop, Option, Some, refl, sym, ap, subst, ◌∙◌, append_assoc, arith, inl, inr}
use Rattle.std.proofs.lemmas.Bool.{cases_lt}
use Rattle.std.proofs.lemmas.List.{drop_at, drop-drop, length-append, length-drop, length-take, get_or-drop, get_or-take, get_or_past}
use Rattle.basis.proofs.Options.{some_once}
use Rattle.wire.proofs.Readings.{IsBytes, IsReader}
use Rattle.wire.specs.Spellings.{Field, IsSpelled, IsFieldAt, HasOneSpelling}

pub IsBytes-drop : (n : ℕ) (bytes : List ℕ) → IsBytes bytes → IsBytes (drop n bytes)
IsBytes-drop n bytes h i = rw get_or-drop (h (n + i))

pub IsBytes-take : (n : ℕ) (bytes : List ℕ) → IsBytes bytes → IsBytes (take n bytes)
IsBytes-take n bytes h i =
    elim (cases_lt i n) [
      | inl lt ↦ rw (get_or-take n bytes i 0 lt) (h i)
      | inr le ↦ rw (get_or_past (take n bytes) i 0 (omega (arith, length-take n bytes))) (omega arith)
    ]

-- one thing behind another
pub joined : (bytes s t : List ℕ) (at mid next : ℕ) → IsSpelled bytes at s mid → IsSpelled bytes mid t next → IsSpelled bytes at (s ++ t) next
joined bytes s t at mid next p q = record {
  spells = p.spells ∙ ap (λ (x : List ℕ). s ++ x) q.spells ∙ sym (append_assoc s t (drop next bytes));
  next_is = omega (arith, length-append s t, p.next_is, q.next_is);
}

pub rest_behind : (bytes s rest : List ℕ) (at : ℕ) → drop at bytes ≡ s ++ rest → drop (at + length s) bytes ≡ rest
rest_behind bytes s rest at e = sym (drop-drop (length s) at bytes) ∙ ap (drop (length s)) e ∙ drop_at s rest (length s) refl

pub first_part : (bytes s t : List ℕ) (at next : ℕ) → IsSpelled bytes at (s ++ t) next → IsSpelled bytes at s (at + length s)
first_part bytes s t at next p =
    let front : drop at bytes ≡ s ++ (t ++ drop next bytes) = p.spells ∙ append_assoc s t (drop next bytes) in
    let back : drop (at + length s) bytes ≡ t ++ drop next bytes = rest_behind bytes s (t ++ drop next bytes) at front in
    record { spells = front ∙ ap (λ (x : List ℕ). s ++ x) (sym back); next_is = refl }

pub second_part : (bytes s t : List ℕ) (at next : ℕ) → IsSpelled bytes at (s ++ t) next → IsSpelled bytes (at + length s) t next
second_part bytes s t at next p =
    let front : drop at bytes ≡ s ++ (t ++ drop next bytes) = p.spells ∙ append_assoc s t (drop next bytes) in
    let back : drop (at + length s) bytes ≡ t ++ drop next bytes = rest_behind bytes s (t ++ drop next bytes) at front in
    record { spells = back; next_is = omega (arith, length-append s t, p.next_is) }

-- what isn't empty ends inside
pub ends_inside : (bytes s : List ℕ) (at next : ℕ) → 0 < length s → IsSpelled bytes at s next → (at < next) × (next ≤ length bytes)
ends_inside bytes s at next some p =
    let len : length bytes - at ≡ length s + (length bytes - next) = sym (length-drop at bytes) ∙ ap length p.spells ∙ length-append s (drop next bytes) ∙ ap (λ (n : ℕ). length s + n) (length-drop next bytes) in
    let next-is : next ≡ at + length s = p.next_is in
    (omega arith, omega arith)

-- what a reading function finds is one thing
pair_is : {A : Type 0} (o : Option (A × ℕ)) (x y : A) (m n : ℕ) → o ≡ Some (x, m) → o ≡ Some (y, n) → (x ≡ y) × (m ≡ n)
pair_is {A} o x y m n p q =
    let first : A × ℕ = (x, m) in
    let second : A × ℕ = (y, n) in
    let one : first ≡ second = some_once o first second p q in
    (ap (λ (z : A × ℕ). z.0) one, ap (λ (z : A × ℕ). z.1) one)

pub at_front : (s r : List ℕ) → IsSpelled (s ++ r) 0 s (length s)
at_front s r = record { spells = ap (λ (x : List ℕ). s ++ x) (sym (drop_at s r (length s) refl)); next_is = omega arith }

-- so no two fields of the kind are spelled alike, and none begins another
pub has_one : {A : Type 0} (field : Field A) (read : List ℕ → ℕ → Option (A × ℕ)) → IsReader field read → HasOneSpelling field
has_one {A} field read reader x y r s p q e =
    let bytes : List ℕ = field.spelling x ++ r in
    let Here : List ℕ → Type 0 = λ b. IsSpelled b 0 (field.spelling y) (length (field.spelling y)) in
    let first : read bytes 0 ≡ Some (x, length (field.spelling x)) = reader.only bytes 0 x (length (field.spelling x)) (p, at_front (field.spelling x) r) in
    let second : read bytes 0 ≡ Some (y, length (field.spelling y)) = reader.only bytes 0 y (length (field.spelling y)) (q, subst Here (sym e) (at_front (field.spelling y) s)) in
    let same : (x ≡ y) × (length (field.spelling x) ≡ length (field.spelling y)) = pair_is (read bytes 0) x y (length (field.spelling x)) (length (field.spelling y)) first second in (
      same.0,
      sym (drop_at (field.spelling x) r (length (field.spelling x)) refl)
          ∙ ap (drop (length (field.spelling x))) e
          ∙ drop_at (field.spelling y) s (length (field.spelling x)) (sym same.1),
    )

-- What stands at a place is one thing.
pub same_field : {A : Type 0} (field : Field A) → HasOneSpelling field → (bytes : List ℕ) (at : ℕ) (x y : A) (m n : ℕ)
    → IsFieldAt field bytes at x m → IsFieldAt field bytes at y n → (x ≡ y) × (m ≡ n)
same_field {A} field one bytes at x y m n p q =
    let same : x ≡ y = (one x y (drop m bytes) (drop n bytes) p.0 q.0 (sym p.1.spells ∙ q.1.spells)).0 in
    let len : length (field.spelling x) ≡ length (field.spelling y) = ap (λ (z : A). length (field.spelling z)) same in
    (same, omega (arith, p.1.next_is, q.1.next_is))
