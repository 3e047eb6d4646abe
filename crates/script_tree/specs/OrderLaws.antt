-- The order of values is total, and ties equal values alone.
use Rattle.std.specs.Prelude.{◌≡◌, ℕ, zero, suc, ◌≤◌, ◌+◌, List, [], Bool, true, false, refl, ℤ, pos}
use Rattle.std.proofs.Common.{ap, sym, ◌∙◌, arith}
use Rattle.std.specs.declared.cmp.Ordering.{Ordering}
use Rattle.std.specs.declared.cmp.Ordering.TheVariants.{Less, Equal, Greater}
use Rattle.std.specs.Ordering.{ordering_then, ordering_reverse, nat_cmp, int_cmp, bool_cmp, then_cmp, on}
use Rattle.std.specs.Cmp.{IsTotalOrder}
use Rattle.std.specs.Cmp.Lexicographic.{slice_cmp}
use Rattle.std.proofs.lemmas.Cmp.{lists_total, nat_list_cmp_total, nat_cmp_total, int_cmp_total, then_total, on_total}
use Rattle.std.proofs.lemmas.Map.Lookups.{exact_bytes, exact_signed}
use Rattle.script_tree.specs.Datum.{Datum, null, bool, number, text, list, Data, none, more, members, nesting, members_nesting}
use Rattle.script_tree.specs.Order.{rank, compare, compare_members}

-- the parts of a value, each with something where it has none
abbrev truth : Datum → ℕ
truth (bool true) = 1
truth d = 0

-- the number that a value is, else 0
abbrev integer : Datum → ℤ
integer (number n) = n
integer d = pos 0

-- the text that a value is, else the empty one
abbrev bytes : Datum → List ℕ
bytes (text bs) = bs
bytes d = []

-- the members of the list that a value is, else none
abbrev parts : Datum → List Datum
parts (list ds) = members ds
parts d = []

-- the order down to a depth, part by part
abbrev down_to : ℕ → Datum → Datum → Ordering
down_to zero = λ _ _. Equal
down_to (suc n) =
    then_cmp (on rank nat_cmp) (then_cmp (on truth nat_cmp) (then_cmp (on integer int_cmp)
    (then_cmp (on bytes (slice_cmp nat_cmp)) (on parts (slice_cmp (down_to n))))))

-- The order in which all values tie is total.
flat_total : IsTotalOrder {K = Datum} (λ _ _. Equal)
flat_total = record { antisymm = λ x y. refl; trans = λ x y z h g. h; congr = λ x y z h. refl }

-- The order down to a depth is total.
down_total : (n : ℕ) → IsTotalOrder (down_to n)
down_total zero = flat_total
down_total (suc n) =
    then_total (on_total rank nat_cmp_total) (then_total (on_total truth nat_cmp_total) (then_total (on_total integer int_cmp_total)
    (then_total (on_total bytes nat_list_cmp_total) (on_total parts (lists_total (down_total n))))))

-- Where a tie comes second, what came first stands.
last : (o : Ordering) → ordering_then o Equal ≡ o
last Less = refl
last Equal = refl
last Greater = refl

-- Booleans are ordered by their numbers, 0 and 1.
same_bool : (a b : Bool) → nat_cmp (truth (bool a)) (truth (bool b)) ≡ bool_cmp a b
same_bool true true = refl
same_bool true false = refl
same_bool false true = refl
same_bool false false = refl

-- deep enough, it is the order
mutual
  deep_enough : (n : ℕ) (a b : Datum) → nesting a ≤ n → down_to (suc n) a b ≡ compare a b
  deep_enough n null null h = refl
  deep_enough n (bool a) (bool b) h = last _ ∙ same_bool a b
  deep_enough n (number a) (number b) h = last _
  deep_enough n (text a) (text b) h = last _
  deep_enough zero (list xs) (list ys) h = absurd (omega arith)
  deep_enough (suc n) (list xs) (list ys) h = members_deep n xs ys (omega arith)
  deep_enough n null (bool b) h = refl
  deep_enough n a b h = refl

  -- Deep enough, it is the order of members.
  members_deep : (n : ℕ) (xs ys : Data) → members_nesting xs ≤ n → slice_cmp (down_to (suc n)) (members xs) (members ys) ≡ compare_members xs ys
  members_deep n none none h = refl
  members_deep n none (more b ys) h = refl
  members_deep n (more a xs) none h = refl
  members_deep n (more a xs) (more b ys) h =
      λ i. ordering_then (deep_enough n a b (omega arith) i) (members_deep n xs ys (omega arith) i)

-- The same, with the values first.
at : (x y : Datum) (n : ℕ) → nesting x ≤ n → down_to (suc n) x y ≡ compare x y
at x y n h = deep_enough n x y h

-- The order of values is total.
pub compare_total : IsTotalOrder compare
compare_total = record {
  antisymm = λ x y.
      let n = nesting x + nesting y in
      sym (at x y n (omega arith)) ∙ (down_total (suc n)).antisymm x y ∙ ap ordering_reverse (at y x n (omega arith));
  trans = λ x y z h g.
      let n = nesting x + nesting y in
      sym (at x z n (omega arith)) ∙ (down_total (suc n)).trans x y z (at x y n (omega arith) ∙ h) (at y z n (omega arith) ∙ g);
  congr = λ x y z h.
      let n = nesting x + nesting y in
      sym (at x z n (omega arith)) ∙ (down_total (suc n)).congr x y z (at x y n (omega arith) ∙ h) ∙ at y z n (omega arith);
}

-- What ties in one order and then in another ties in both.
then_first : (o p : Ordering) → ordering_then o p ≡ Equal → (o ≡ Equal) × (p ≡ Equal)
then_first Less p h = cc
then_first Equal p h = (refl, h)
then_first Greater p h = cc

-- Booleans that compare alike are one.
exact_bools : (a b : Bool) → bool_cmp a b ≡ Equal → a ≡ b
exact_bools true true h = refl
exact_bools false false h = refl
exact_bools true false h = cc
exact_bools false true h = cc

-- values that compare alike are one
mutual
  pub compare_exact : (a b : Datum) → compare a b ≡ Equal → a ≡ b
  compare_exact null null h = refl
  compare_exact (bool a) (bool b) h = ap bool (exact_bools a b h)
  compare_exact (number a) (number b) h = ap number (exact_signed a b h)
  compare_exact (text a) (text b) h = ap text (exact_bytes a b h)
  compare_exact (list xs) (list ys) h = ap list (members_exact xs ys h)
  compare_exact a b h = cc

  -- Members that compare alike are one.
  members_exact : (xs ys : Data) → compare_members xs ys ≡ Equal → xs ≡ ys
  members_exact none none h = refl
  members_exact none (more b ys) h = cc
  members_exact (more a xs) none h = cc
  members_exact (more a xs) (more b ys) h =
      let p = then_first _ _ h in
      λ i. more (compare_exact a b p.0 i) (members_exact xs ys p.1 i)
