-- A member has its own value, whether or not all are equal.
use Rattle.std.proofs.Common.{◌≡◌, ◌<◌, ℕ, zero, suc, Bool, true, false, List, [], ◌∷◌, length, get_or, if◌then◌else◌, refl, sym, arith}
use Rattle.std.proofs.lemmas.Bool.{and_parts}
use Rattle.std.specs.Ordering.{is_eq}
use Rattle.std.specs.declared.cmp.Ordering.{Ordering}
use Rattle.std.specs.declared.cmp.Ordering.TheVariants.{Less, Equal, Greater}
use Rattle.script_tree.specs.Datum.{Datum, null}
use Rattle.script_tree.specs.Order.{compare}
use Rattle.script_tree.specs.OrderLaws.{compare_exact}
use Rattle.multivalue.specs.Many.{all, each, same, many, member_value, HoldsAll}

equal_from : (o : Ordering) → is_eq o ≡ true → o ≡ Equal
equal_from Less h = cc
equal_from Equal h = refl
equal_from Greater h = cc

-- where all equal the first, each is the first
each_first : (d : Datum) (ds : List Datum) (i : ℕ) → same d ds ≡ true → i < length ds → get_or ds i null ≡ d
each_first d [] i h lt = absurd (omega (arith, lt))
each_first d (e ∷ es) zero h lt = sym (compare_exact d e (equal_from (compare d e) (and_parts (is_eq (compare d e)) (same d es) h).0))
each_first d (e ∷ es) (suc i) h lt = each_first d es i (and_parts (is_eq (compare d e)) (same d es) h).1 (omega (arith, lt))

by_ways : (b : Bool) (ds : List Datum) (i : ℕ) → same (get_or ds 0 null) ds ≡ b → i < length ds
    → member_value (if b then all (get_or ds 0 null) else each ds) i ≡ get_or ds i null
by_ways true ds i h lt = sym (each_first (get_or ds 0 null) ds i h lt)
by_ways false ds i h lt = refl

pub holds_all : (ds : List Datum) → HoldsAll ds (many ds)
holds_all ds i lt = by_ways (same (get_or ds 0 null) ds) ds i refl lt
