-- Rows that were found for positions.
use Rattle.std.proofs.Common.{◌≡◌, ◌∙◌, ℕ, ◌+◌, ◌≤◌, nat_le, Bool, true, false, List, [], ◌∷◌, ◌++◌, length}
use Rattle.std.proofs.Common.{Option, Some, None, refl, sym, ap, subst, arith, length-append, IfSome, Bor}
use Rattle.std.specs.Option.{option_copied}
use Rattle.std.proofs.lemmas.Bool.{leb-false, leb-true}
use Rattle.std.proofs.lemmas.Slice.Eq.{bytes_eq-Decides}
use Rattle.basis.specs.Lists.{nth}
use Rattle.basis.proofs.Options.{some_is, none_is_not}
use Rattle.basis.proofs.Places.{nth_before, nth_next, nth_within}
use Rattle.script_tree.specs.Datum.{text}
use Rattle.script_tree.specs.Transactions.{Row, Table, key, table_at}
use Rattle.script_tree.specs.declared.operation.Act.{Act}
use Rattle.script_fit.specs.FitsOperation.{FitsTables}
use Rattle.object_tables.specs.Keys.{is_key, row_at}
use Rattle.versioned_tables.specs.Standing.{RowsOverTime, row_then, Stands, IsFoundAt, AreFound, Advances}
use Rattle.versioned_tables.specs.OverTime.{AdvancesBy}
use Rattle.versioned_tables.proofs.Building.{is_key_of, transaction}

keyed : (k : List ℕ) (xs : Table) (row : Row) → row_at k xs ≡ Some row → is_key k row ≡ true
keyed k [] row e = absurd (none_is_not e)
keyed k (x ∷ xs) row e = by (is_key k x) refl e (keyed k xs row) where
  by : (b : Bool) → is_key k x ≡ b → row_at k (x ∷ xs) ≡ Some row → (row_at k xs ≡ Some row → is_key k row ≡ true) → is_key k row ≡ true
  by true f g rest = subst (λ r. is_key k r ≡ true) (some_is (rw f at g)) f
  by false f g rest = rest (rw f at g)

-- a row that stands under a key has that key, and so no other
pub found_is : (widths : List ℕ) (p : ℕ) (hs : RowsOverTime) (t : ℕ) (k : List ℕ) (row : Row) → Stands widths p hs
    → row_then p hs t k ≡ Some row → IsFoundAt p hs (t, row)
found_is widths p hs t k row s e other is =
    let at : row_at k (table_at t s.tables) ≡ Some row = sym (s.rows t k) ∙ e in
    let same : k ≡ other = (bytes_eq-Decides k other).0 (sym (is_key_of k other row is) ∙ keyed k (table_at t s.tables) row at) in
    subst (λ q. row_then p hs t q ≡ Some row) same e

pub found_of : (p : ℕ) (hs : RowsOverTime) (f : ℕ × Row) (t : ℕ) (k : List ℕ) → IsFoundAt p hs f → f.0 ≡ t → key f.1 ≡ text k → Some f.1 ≡ row_then p hs t k
found_of p hs f t k found table is = subst (λ u. Some f.1 ≡ row_then p hs u k) table (sym (found k is))

pub found_here : (p : ℕ) (hs own : RowsOverTime) (found mine : List (Option (ℕ × Row))) (o : Option (Bor (ℕ × Row))) → own ≡ hs
    → mine ≡ found → AreFound hs found → IfSome o (λ f. nth mine p ≡ Some (Some f.now)) → IfSome (option_copied o) (IsFoundAt p own)
found_here p hs own found mine None a b all h = tt
found_here p hs own found mine (Some f) a b all h = subst (λ es. IsFoundAt p es f.now) (sym a) (all p f.now (subst (λ fs. nth fs p ≡ Some (Some f.now)) b h))

-- ---- one entry more

-- what stands up to a position stands there afterwards
later : (widths : List ℕ) (i : ℕ) (a : Act) (old new : RowsOverTime) (p : ℕ) (f : ℕ × Row) → FitsTables widths a
    → AdvancesBy widths i a old new → p ≤ i → IsFoundAt p old f → IsFoundAt p new f
later widths i a old new p f fits by before found k is =
    let t = transaction widths a fits in
    let d : Advances widths i t.0 old new = subst (λ b. AdvancesBy widths i b old new) t.1 by in
    d.before p f.0 k (not_yet (nat_le (i + 1) p) refl) ∙ found k is
  where
    not_yet : (b : Bool) → nat_le (i + 1) p ≡ b → nat_le (i + 1) p ≡ false
    not_yet true e = absurd (let l = leb-true (i + 1) p e in omega arith)
    not_yet false e = e

pub found_none : (hs : RowsOverTime) (found : List (Option (ℕ × Row))) → found ≡ [] → AreFound hs found
found_none hs found none p f e = absurd (none_is_not (subst (λ fs. nth fs p ≡ Some (Some f)) none e))

pub found_more : (widths : List ℕ) (i : ℕ) (a : Act) (old new : RowsOverTime) (found more : List (Option (ℕ × Row))) (o : Option (ℕ × Row))
    → FitsTables widths a → AdvancesBy widths i a old new → length found ≡ i → more ≡ found ++ o ∷ []
    → IfSome o (IsFoundAt i old) → AreFound old found → AreFound new more
found_more widths i a old new found more o fits by count is here all p f e = at (nat_le i p) refl where
  there : nth (found ++ o ∷ []) p ≡ Some (Some f)
  there = subst (λ fs. nth fs p ≡ Some (Some f)) is e

  last : (x : Option (ℕ × Row)) → IfSome x (IsFoundAt i old) → x ≡ Some f → IsFoundAt i old f
  last None h s = absurd (none_is_not s)
  last (Some g) h s = subst (IsFoundAt i old) (some_is s) h

  at : (b : Bool) → nat_le i p ≡ b → IsFoundAt p new f
  at true l =
      let up = leb-true i p l in
      let within = nth_within (found ++ o ∷ []) p (Some f) there in
      let same : p ≡ length found = omega (arith, length-append found (o ∷ [])) in
      let own : o ≡ Some f = some_is (sym (nth_next found [] o) ∙ ap (nth (found ++ o ∷ [])) (sym same) ∙ there) in
      later widths i a old new p f fits by (omega arith) (subst (λ q. IsFoundAt q old f) (sym (same ∙ count)) (last o here own))
  at false l =
      let down = leb-false i p l in
      later widths i a old new p f fits by (omega arith) (all p f (nth_before found (o ∷ []) p (Some f) (omega arith) there))
