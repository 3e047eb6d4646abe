-- Versions that are noted.
use Rattle.std.proofs.Common.{◌≡◌, ◌≢◌, ◌∙◌, ℕ, zero, suc, ◌+◌, ◌<◌, ◌≤◌, nat_le, nat_eq, Bool, true, false, ◌&&◌, ◌||◌, cond, List, [], ◌∷◌, ◌++◌, length, get_or, take, Option, Some, None, true≢false, refl, sym, ap, subst, arith}
use Rattle.std.specs.Prelude.{slice_index_or}
use Rattle.std.specs.Str.{bytes_eq}
use Rattle.std.proofs.lemmas.Bool.{leb-true, le-leb, eqb-true, false_from_ne_true, and_from}
use Rattle.std.proofs.lemmas.List.Elements.{All-head, All-tail}
use Rattle.std.proofs.lemmas.List.{take_more}
use Rattle.std.proofs.lemmas.Slice.Eq.{bytes_eq-Decides}
use Rattle.std.specs.Option.{option_eq}
use Rattle.std.specs.Ordering.{is_eq}
use Rattle.std.specs.Cmp.Lexicographic.{pointwise}
use Rattle.std.proofs.lemmas.Bool.{and_parts}
use Rattle.std.proofs.lemmas.Cmp.{tied_itself}
use Rattle.script_tree.specs.Datum.{Datum}
use Rattle.script_tree.specs.Order.{compare}
use Rattle.script_tree.specs.OrderLaws.{compare_exact, compare_total}
use Rattle.script_tree.specs.Transactions.{Row, Table, table_at}
use Rattle.object_tables.specs.Keys.{row_at}
use Rattle.versioned_cells.specs.Versions.{Versions, VersionsByKey, as_of, held_at, history_at, AreUntil, AreAllUntil, AreChanges, changed, Changes}
use Rattle.versioned_cells.proofs.HistoryFacts.{as_of-one, until_more, bytes_eq-sym, stands_on, until_later}
use Rattle.versioned_tables.specs.Standing.{RowsOverTime, row_then, AreFrom, AllChange, Keys, is_in, ChangesIn, NotesRows, same_rows}
use Rattle.versioned_tables.proofs.KeyFacts.{in_more, equal}

pub there : (hs : RowsOverTime) (t : ℕ) (es : VersionsByKey Row) → t < length hs → es ≡ slice_index_or hs t es → es ≡ slice_index_or hs t []
there [] t es h e = absurd (omega arith)
there (x ∷ hs) zero es h e = e
there (x ∷ hs) (suc t) es h e = there hs t es (omega arith) e

pub beyond : (hs : RowsOverTime) (t : ℕ) → length hs ≤ t → slice_index_or hs t [] ≡ []
beyond [] t h = refl
beyond (x ∷ hs) zero h = absurd (omega arith)
beyond (x ∷ hs) (suc t) h = beyond hs t (omega arith)

pub from_later : (p q : ℕ) (hs : RowsOverTime) → p ≤ q → AreFrom p hs → AreFrom q hs
from_later p q hs l a t k = until_later p q _ l (a t k)

and_false : (a : Bool) → (a && false) ≡ false
and_false true = refl
and_false false = refl

or_false : (b : Bool) → (b || false) ≡ b
or_false true = refl
or_false false = refl

-- ---- equal rows

pub values_equal : (xs ys : List Datum) → pointwise (λ a b. is_eq (compare a b)) xs ys ≡ true → xs ≡ ys
values_equal [] [] e = refl
values_equal [] (y ∷ ys) e = cc
values_equal (x ∷ xs) [] e = cc
values_equal (x ∷ xs) (y ∷ ys) e =
    let p = and_parts (is_eq (compare x y)) (pointwise (λ a b. is_eq (compare a b)) xs ys) e in
    λ i. compare_exact x y (equal (compare x y) p.0) i ∷ values_equal xs ys p.1 i

pub values_itself : (xs : List Datum) → pointwise (λ a b. is_eq (compare a b)) xs xs ≡ true
values_itself [] = refl
values_itself (x ∷ xs) = and_from (is_eq (compare x x)) (pointwise (λ a b. is_eq (compare a b)) xs xs)
    (ap is_eq (tied_itself compare_total x)) (values_itself xs)

-- ---- one key

-- one version more, of another value
change_more : {X : Type 0} (since : ℕ) (value before : Option X) (vs : Versions X) → AreUntil since vs → value ≢ as_of since before vs → AreChanges before vs
    → AreChanges before (vs ++ (since, value) ∷ [])
change_more since value before [] until other c = (other, tt)
change_more since value before (v ∷ vs) until other c =
    let low : v.0 ≤ since = All-head (λ v. v.0 ≤ since) v vs until in (
      c.0,
      change_more since value v.1 vs (All-tail (λ v. v.0 ≤ since) v vs until)
          (subst (λ b. value ≢ as_of since (cond b v.1 before) vs) (le-leb v.0 since low) other) c.1,
    )

-- rows that are the same, exactly
rows_are : (a b : Option Row) → option_eq same_rows a b ≡ true → a ≡ b
rows_are None None e = refl
rows_are (Some a) (Some b) e = ap Some (values_equal a b e)
rows_are None (Some b) e = absurd (true≢false (sym e))
rows_are (Some a) None e = absurd (true≢false (sym e))

rows_itself : (a : Option Row) → option_eq same_rows a a ≡ true
rows_itself None = refl
rows_itself (Some a) = values_itself a

-- what stands at a position, after a change from another on
changed_then : (since : ℕ) (row : Option Row) (vs : Versions Row) → AreUntil since vs → (p : ℕ)
    → as_of p None (changed same_rows since row vs) ≡ cond (nat_le since p) row (as_of p None vs)
changed_then since row vs until p = by (option_eq same_rows (as_of since None vs) row) refl where
  stands : as_of since None vs ≡ row → (b : Bool) → nat_le since p ≡ b → as_of p None vs ≡ cond b row (as_of p None vs)
  stands e true h = stands_on since p None vs (leb-true since p h) until ∙ e
  stands e false h = refl

  by : (b : Bool) → option_eq same_rows (as_of since None vs) row ≡ b
      → as_of p None (cond b vs (vs ++ (since, row) ∷ [])) ≡ cond (nat_le since p) row (as_of p None vs)
  by true e = stands (rows_are (as_of since None vs) row e) (nat_le since p) refl
  by false e = as_of-one p None vs since row

changed_until : (since : ℕ) (row : Option Row) (vs : Versions Row) → AreUntil since vs → AreUntil since (changed same_rows since row vs)
changed_until since row vs until = by (option_eq same_rows (as_of since None vs) row) where
  by : (b : Bool) → AreUntil since (cond b vs (vs ++ (since, row) ∷ []))
  by true = until
  by false = until_more since vs row until

changed_changes : (since : ℕ) (row : Option Row) (vs : Versions Row) → AreUntil since vs → AreChanges None vs → AreChanges None (changed same_rows since row vs)
changed_changes since row vs until c = by (option_eq same_rows (as_of since None vs) row) refl where
  by : (b : Bool) → option_eq same_rows (as_of since None vs) row ≡ b → AreChanges None (cond b vs (vs ++ (since, row) ∷ []))
  by true e = c
  by false e = change_more since row None vs until (λ same. true≢false (sym (rows_itself row) ∙ ap (λ o. option_eq same_rows o row) same ∙ e)) c

changes_at : (since : ℕ) (key : List ℕ) (row : Option Row) (old new : VersionsByKey Row) → AreAllUntil since old
    → Changes same_rows since key row old new → (p : ℕ) (k : List ℕ)
    → held_at p new k ≡ cond (nat_le since p) (cond (bytes_eq k key) row (held_at p old k)) (held_at p old k)
changes_at since key row old new until n p k = ap (as_of p None) (n k) ∙ by (bytes_eq k key) where
  apart : (b : Bool) → held_at p old k ≡ cond b (held_at p old k) (held_at p old k)
  apart true = refl
  apart false = refl

  by : (b : Bool) → as_of p None (cond b (changed same_rows since row (history_at k old)) (history_at k old))
      ≡ cond (nat_le since p) (cond b row (held_at p old k)) (held_at p old k)
  by true = changed_then since row (history_at k old) (until k) p
  by false = apart (nat_le since p)

changes_until : (since : ℕ) (key : List ℕ) (row : Option Row) (old new : VersionsByKey Row)
    → Changes same_rows since key row old new → AreAllUntil since old → AreAllUntil since new
changes_until since key row old new n until k = subst (AreUntil since) (sym (n k)) (by (bytes_eq k key)) where
  by : (b : Bool) → AreUntil since (cond b (changed same_rows since row (history_at k old)) (history_at k old))
  by true = changed_until since row (history_at k old) (until k)
  by false = until k

here_changes : (since : ℕ) (key : List ℕ) (row : Option Row) (old : VersionsByKey Row) → AreAllUntil since old
    → ((k : List ℕ) → AreChanges None (history_at k old))
    → (k : List ℕ) → AreChanges None (cond (bytes_eq k key) (changed same_rows since row (history_at k old)) (history_at k old))
here_changes since key row old until c k = by (bytes_eq k key) where
  by : (b : Bool) → AreChanges None (cond b (changed same_rows since row (history_at k old)) (history_at k old))
  by true = changed_changes since row (history_at k old) (until k) (c k)
  by false = c k

pub noted_one : (since : ℕ) (x : ℕ × List ℕ) (row : Option Row) (part : List Table) (old new : RowsOverTime)
    → AreFrom since old → row ≡ row_at x.1 (table_at x.0 part)
    → ChangesIn x.0 x.1 since row old new → NotesRows since (x ∷ []) part old new
noted_one since x row part old new from is n = record {
  rows = λ p t k h. at p t k (nat_eq x.0 t) refl;
  until = λ t. still t (nat_eq x.0 t) refl;
  count = n.count;
  changes = λ c t k. moved c t k (nat_eq x.0 t) refl;
} where
  same : (t : ℕ) → nat_eq x.0 t ≡ true → x.0 ≡ t
  same t e = eqb-true x.0 t e

  both : (p t : ℕ) (k : List ℕ) → x.0 ≡ t → (a b : Bool) → nat_le since p ≡ a → bytes_eq k x.1 ≡ b
      → (cond a (cond b row (row_then p old x.0 k)) (row_then p old x.0 k)) ≡ cond (a && (b || false)) (row_at k (table_at t part)) (row_then p old t k)
  both p t k e true true f g = is ∙ ap (λ q. row_at q (table_at x.0 part)) (sym ((bytes_eq-Decides k x.1).0 g)) ∙ ap (λ u. row_at k (table_at u part)) e
  both p t k e true false f g = ap (λ u. row_then p old u k) e
  both p t k e false b f g = ap (λ u. row_then p old u k) e

  at : (p t : ℕ) (k : List ℕ) (b : Bool) → nat_eq x.0 t ≡ b
      → row_then p new t k ≡ cond (nat_le since p && is_in (x ∷ []) t k) (row_at k (table_at t part))
      (row_then p old t k)
  at p t k true e =
      ap (λ u. row_then p new u k) (sym (same t e)) ∙ changes_at since x.1 row (slice_index_or old x.0 []) (slice_index_or new x.0 []) (from x.0) n.here p k
      ∙ both p t k (same t e) (nat_le since p) (bytes_eq k x.1) refl refl
      ∙ ap (λ b. cond (nat_le since p && (b || false)) (row_at k (table_at t part)) (row_then p old t k))
      (bytes_eq-sym k x.1 ∙ ap (λ b. b && bytes_eq x.1 k) (sym e))
  at p t k false e =
      ap (λ es. held_at p es k) (n.elsewhere t e)
      ∙ ap (λ b. cond b (row_at k (table_at t part)) (row_then p old t k))
      (sym (and_false (nat_le since p)) ∙ ap (λ b. nat_le since p && ((b && bytes_eq x.1 k) || false)) (sym e))

  still : (t : ℕ) (b : Bool) → nat_eq x.0 t ≡ b → AreAllUntil since (slice_index_or new t [])
  still t true e = subst (λ u. AreAllUntil since (slice_index_or new u [])) (same t e)
      (changes_until since x.1 row (slice_index_or old x.0 []) (slice_index_or new x.0 []) n.here (from x.0))
  still t false e = subst (AreAllUntil since) (sym (n.elsewhere t e)) (from t)

  moved : AllChange old → (t : ℕ) (k : List ℕ) (b : Bool) → nat_eq x.0 t ≡ b → AreChanges None (history_at k (slice_index_or new t []))
  moved c t k true e =
      subst (λ u. AreChanges None (history_at k (slice_index_or new u []))) (same t e)
      (subst (AreChanges None) (sym (n.here k)) (here_changes since x.1 row (slice_index_or old x.0 []) (from x.0) (c x.0) k))
  moved c t k false e = subst (λ es. AreChanges None (history_at k es)) (sym (n.elsewhere t e)) (c t k)

pub noted_none : (since : ℕ) (x : ℕ × List ℕ) (part : List Table) (hs : RowsOverTime) → AreFrom since hs → length hs ≤ x.0 → NotesRows since (x ∷ []) part hs hs
noted_none since x part hs from past = record {
  rows = λ p t k h. ap (λ b. cond b (row_at k (table_at t part)) (row_then p hs t k)) (sym (and_false (nat_le since p)) ∙ ap (λ b. nat_le since p && ((b && bytes_eq x.1 k) || false)) (sym (false_from_ne_true (nat_eq x.0 t) (λ e. let same : x.0 ≡ t = eqb-true x.0 t e in absurd (omega arith)))));
  until = from;
  count = refl;
  changes = λ c. c;
}

-- ---- one key after the other

pub noted_more : (since : ℕ) (all : Keys) (i : ℕ) (x : ℕ × List ℕ) (part : List Table) (old mid new : RowsOverTime) → i < length all → x ≡ get_or all i x
    → NotesRows since (take i all) part old mid → NotesRows since (x ∷ []) part mid new → NotesRows since (take (i + 1) all) part old new
noted_more since all i x part old mid new h is n m = record {
  rows = λ p t k l. m.rows p t k (omega (arith, n.count)) ∙ both p t k l (nat_le since p) (nat_eq x.0 t && bytes_eq x.1 k) (is_in (take i all) t k) refl refl
      ∙ ap (λ b. cond (nat_le since p && b) (row_at k (table_at t part)) (row_then p old t k))
      (sym (ap (λ ks. is_in ks t k) more ∙ in_more (take i all) x t k));
  until = m.until;
  count = m.count ∙ n.count;
  changes = λ c. m.changes (n.changes c);
} where
  more : take (i + 1) all ≡ take i all ++ x ∷ []
  more = take_more all i x h ∙ ap (λ y. take i all ++ y ∷ []) (sym is)

  both : (p t : ℕ) (k : List ℕ) → t < length old → (a c b : Bool) → nat_le since p ≡ a → is_in (take i all) t k ≡ b
      → cond (a && (c || false)) (row_at k (table_at t part)) (row_then p mid t k) ≡ cond (a && (b || c)) (row_at k (table_at t part)) (row_then p old t k)
  both p t k l true true true f g = refl
  both p t k l true true false f g = refl
  both p t k l true false true f g = n.rows p t k l
      ∙ ap (λ b. cond (b && is_in (take i all) t k) (row_at k (table_at t part)) (row_then p old t k)) f
      ∙ ap (λ b. cond b (row_at k (table_at t part)) (row_then p old t k)) g
  both p t k l true false false f g = n.rows p t k l
      ∙ ap (λ b. cond (b && is_in (take i all) t k) (row_at k (table_at t part)) (row_then p old t k)) f
      ∙ ap (λ b. cond b (row_at k (table_at t part)) (row_then p old t k)) g
  both p t k l false c b f g = n.rows p t k l ∙ ap (λ b. cond (b && is_in (take i all) t k) (row_at k (table_at t part)) (row_then p old t k)) f

pub noted_nothing : (since : ℕ) (part : List Table) (hs : RowsOverTime) → AreFrom since hs → NotesRows since [] part hs hs
noted_nothing since part hs from = record {
  rows = λ p t k h. ap (λ b. cond b (row_at k (table_at t part)) (row_then p hs t k)) (sym (and_false (nat_le since p)));
  until = from;
  count = refl;
  changes = λ c. c;
}
