-- The order of values: null, false, true, numbers, texts by bytes, lists member by member.
use Rattle.std.specs.Prelude.{ℕ, Bool}
use Rattle.std.specs.declared.cmp.Ordering.{Ordering}
use Rattle.std.specs.declared.cmp.Ordering.TheVariants.{Less, Equal, Greater}
use Rattle.std.specs.Ordering.{ordering_then, nat_cmp, int_cmp, bool_cmp, is_eq, is_ne, is_lt, is_le, is_gt, is_ge}
use Rattle.std.specs.Cmp.Lexicographic.{slice_cmp}
use Rattle.script_tree.specs.declared.comparison.Comparison.{Comparison}
use Rattle.script_tree.specs.declared.comparison.Comparison.TheVariants as by
use Rattle.script_tree.specs.Datum.{Datum, null, bool, number, text, list, Data, none, more}

-- where a value's kind stands
abbrev pub rank : Datum → ℕ
rank null = 0
rank (bool b) = 1
rank (number n) = 2
rank (text bs) = 3
rank (list ds) = 4

abbrev mutual
  -- how a value stands to another one in the order of all values
  pub compare : Datum → Datum → Ordering
  compare (bool a) (bool b) = bool_cmp a b
  compare (number a) (number b) = int_cmp a b
  compare (text a) (text b) = slice_cmp nat_cmp a b
  compare (list xs) (list ys) = compare_members xs ys
  compare a b = nat_cmp (rank a) (rank b)

  -- member by member, a proper prefix first
  pub compare_members : Data → Data → Ordering
  compare_members none none = Equal
  compare_members none (more b ys) = Less
  compare_members (more a xs) none = Greater
  compare_members (more a xs) (more b ys) = ordering_then (compare a b) (compare_members xs ys)

-- two values compared, by this order
abbrev pub compares : Comparison → Datum → Datum → Bool
compares by.Equal a b = is_eq (compare a b)
compares by.Unequal a b = is_ne (compare a b)
compares by.Less a b = is_lt (compare a b)
compares by.AtMost a b = is_le (compare a b)
compares by.Greater a b = is_gt (compare a b)
compares by.AtLeast a b = is_ge (compare a b)
