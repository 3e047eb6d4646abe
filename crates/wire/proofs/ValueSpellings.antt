-- No two values are spelled alike, and no value's spelling begins another.
use Rattle.std.proofs.Common.{◌≡◌, ℕ, ◌<◌, ◌≤◌, ◌^◌, true, false, leb, List, ◌∷◌, ◌++◌, length, get_or, ap, sym, ◌∙◌, refl, append_assoc, arith}
use Rattle.std.specs.Int.{w32, to_be_bytes}
use Rattle.std.proofs.lemmas.Bool.{leb-true}
use Rattle.script_tree.specs.Datum.{Datum, null, bool, number, text, list, Data, none, more, members, size, members_size, nesting, IsWithinLimits}
use Rattle.basis.proofs.Booleans.{both_true}
use Rattle.script_tree.specs.declared.limits.TheConstants.{MOST_VALUE_SIZE, MOST_VALUE_NESTING}
use Rattle.wire.specs.Spellings.{HasOneSpelling, integer_spelling, bytes_spelling, value_field, value_spelling, values_spelling, HasWideNumbers, HaveWideNumbers}
use Rattle.wire.proofs.ValueSizes.{size_some}
use Rattle.wire.proofs.OneSpelling.{one_of_32, integer_one, bytes_one}

tail_is : (a b : ℕ) (r s : List ℕ) → a ∷ r ≡ b ∷ s → r ≡ s
tail_is a b r s e = cc

pub members_few : (ds : Data) → length (members ds) ≤ members_size ds
members_few none = omega arith
members_few (more d ds) = omega (arith, members_few ds, size_some d)

-- the first byte of each kind of value
abbrev IsTagOf : Datum → ℕ → Type 0
IsTagOf null t = t ≡ 0
IsTagOf (bool b) t = (1 ≤ t) × (t ≤ 2)
IsTagOf (number n) t = t ≡ 3
IsTagOf (text bytes) t = t ≡ 4
IsTagOf (list ds) t = t ≡ 5

first_byte : (d : Datum) (r : List ℕ) → IsTagOf d (get_or (value_spelling d ++ r) 0 0)
first_byte null r = refl
first_byte (bool false) r = (omega arith, omega arith)
first_byte (bool true) r = (omega arith, omega arith)
first_byte (number n) r = refl
first_byte (text bytes) r = refl
first_byte (list ds) r = refl

mutual
  pub value_apart : (x y : Datum) (r s : List ℕ) → size x < 2 ^ 32 → size y < 2 ^ 32 → HasWideNumbers x
      → HasWideNumbers y → value_spelling x ++ r ≡ value_spelling y ++ s → (x ≡ y) × (r ≡ s)
  value_apart null null r s small small' wide wide' e = (refl, tail_is 0 0 r s e)
  value_apart (bool false) (bool false) r s small small' wide wide' e = (refl, tail_is 1 1 r s e)
  value_apart (bool true) (bool true) r s small small' wide wide' e = (refl, tail_is 2 2 r s e)
  value_apart (number m) (number n) r s small small' wide wide' e =
      let same = integer_one m n r s wide wide' (tail_is 3 3 (integer_spelling m ++ r) (integer_spelling n ++ s) e) in
      (ap number same.0, same.1)
  value_apart (text a) (text b) r s small small' wide wide' e =
      let same = bytes_one a b r s (omega arith) (omega arith) (tail_is 4 4 (bytes_spelling a ++ r) (bytes_spelling b ++ s) e) in
      (ap text same.0, same.1)
  value_apart (list ds) (list es) r s small small' wide wide' e =
      let left : List ℕ = to_be_bytes w32 (length (members ds)) in
      let right : List ℕ = to_be_bytes w32 (length (members es)) in
      let behind = sym (append_assoc left (values_spelling ds) r) ∙ tail_is 5 5 ((left ++ values_spelling ds) ++ r) ((right ++ values_spelling es) ++ s) e ∙ append_assoc right (values_spelling es) s in
      let count = one_of_32 (length (members ds)) (length (members es)) (values_spelling ds ++ r) (values_spelling es ++ s) (omega (arith, members_few ds)) (omega (arith, members_few es)) behind in
      let same = values_one ds es r s (omega arith) (omega arith) wide wide' count.0 count.1 in
      (ap list same.0, same.1)
  value_apart x y r s small small' wide wide' e =
      let same : get_or (value_spelling x ++ r) 0 0 ≡ get_or (value_spelling y ++ s) 0 0 = ap (λ (l : List ℕ). get_or l 0 0) e in
      absurd (omega (arith, same, first_byte x r, first_byte y s))

  values_one : (ds es : Data) (r s : List ℕ) → members_size ds < 2 ^ 32 → members_size es < 2 ^ 32
      → HaveWideNumbers ds → HaveWideNumbers es → length (members ds) ≡ length (members es)
      → values_spelling ds ++ r ≡ values_spelling es ++ s → (ds ≡ es) × (r ≡ s)
  values_one none none r s small small' wide wide' len e = (refl, e)
  values_one none (more y es) r s small small' wide wide' len e = absurd (omega arith)
  values_one (more x ds) none r s small small' wide wide' len e = absurd (omega arith)
  values_one (more x ds) (more y es) r s small small' wide wide' len e =
      let grouped = sym (append_assoc (value_spelling x) (values_spelling ds) r) ∙ e ∙ append_assoc (value_spelling y) (values_spelling es) s in
      let first = value_apart x y (values_spelling ds ++ r) (values_spelling es ++ s) (omega arith) (omega arith) wide.0 wide'.0 grouped in
      let rest = values_one ds es r s (omega arith) (omega arith) wide.1 wide'.1 (omega arith) first.1 in
      (ap (λ z. more z ds) first.0 ∙ ap (λ zs. more y zs) rest.0, rest.1)

value_small : (d : Datum) → IsWithinLimits d → size d ≤ MOST_VALUE_SIZE
value_small d e = leb-true (size d) MOST_VALUE_SIZE (both_true (leb (size d) MOST_VALUE_SIZE) (leb (nesting d) MOST_VALUE_NESTING) e).0

pub value_one : HasOneSpelling value_field
value_one x y r s p q e =
    let small : size x ≤ MOST_VALUE_SIZE = value_small x p.0 in
    let small' : size y ≤ MOST_VALUE_SIZE = value_small y q.0 in
    value_apart x y r s (omega arith) (omega arith) p.1 q.1 e
