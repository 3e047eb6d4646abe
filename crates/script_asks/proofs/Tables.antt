-- Tables and columns that are declared are found within their numbers.
use Rattle.std.proofs.Common.{◌≡◌, ◌≢◌, ℕ, suc, ◌<◌, ◌≤◌, ◌+◌, Bool, true, false, cond, List, [], ◌∷◌, length, Some, refl, subst, arith}
use Rattle.std.specs.Prelude.{map, ◌||◌}
use Rattle.std.specs.Str.{bytes_eq}
use Rattle.basis.specs.Lists.{nth}
use Rattle.basis.proofs.Options.{some_is, none_is_not}
use Rattle.script_tree.specs.Declarations.{NumberedTable, table_from, column_from, column_in}
use Rattle.script_tree.specs.Fit.{table_widths}
use Rattle.script_tree.specs.declared.syntax.name.Name.{Name}
use Rattle.script_tree.specs.declared.syntax.declaration.Declaration.{Declaration}
use Rattle.script_tree.specs.declared.syntax.declaration.Declaration.TheVariants.{Store, Table, Function, Page}
use Rattle.script_check.specs.Validity.{has, texts, is_key}
use Rattle.script_fit.specs.FitsTransaction.{FitColumns}
use Rattle.script_asks.proofs.Sound.{AreColumns}

-- the table stands so far behind the first number
abbrev IsAfter : ℕ → NumberedTable → List Declaration → Type 0
IsAfter k n ds = (j : ℕ) × (n.number ≡ k + j) × (nth (table_widths ds) j ≡ Some (length n.columns))

width_from : (k : ℕ) (t : List ℕ) (ds : List Declaration) (n : NumberedTable) → table_from k t ds ≡ Some n → IsAfter k n ds
width_from k t [] n e = absurd (none_is_not e)
width_from k t (Store at name ∷ ds) n e = width_from k t ds n e
width_from k t (Function at name parameters body ∷ ds) n e = width_from k t ds n e
width_from k t (Page at name body ∷ ds) n e = width_from k t ds n e
width_from k t (Table at name columns ∷ ds) n e = by (bytes_eq t name.text) e (λ f. width_from (k + 1) t ds n f)
  where
    by : (b : Bool) → cond b (Some (record { number = k; columns = columns })) (table_from (k + 1) t ds) ≡ Some n
        → (table_from (k + 1) t ds ≡ Some n → IsAfter (k + 1) n ds) → IsAfter k n (Table at name columns ∷ ds)
    by true f more = subst (λ m. IsAfter k m (Table at name columns ∷ ds)) (some_is f) (0, omega arith, refl)
    by false f more = let m = more f in (suc m.0, omega (arith, m.1), m.2)

pub width_at : (t : List ℕ) (ds : List Declaration) (n : NumberedTable) → table_from 0 t ds ≡ Some n → nth (table_widths ds) n.number ≡ Some (length n.columns)
width_at t ds n e =
    let m = width_from 0 t ds n e in
    let q : m.0 ≡ n.number = omega (arith, m.1) in
    subst (λ i. nth (table_widths ds) i ≡ Some (length n.columns)) q m.2

column_from_there : (n : ℕ) (x : List ℕ) (cs : List Name) → has (texts cs) x ≡ true → column_from n x cs < n + length cs
column_from_there n x [] h = absurd cc
column_from_there n x (c ∷ cs) h = by (bytes_eq x c.text) h (λ g. column_from_there (n + 1) x cs g)
  where
    by : (b : Bool) → (b || has (texts cs) x) ≡ true → (has (texts cs) x ≡ true → column_from (n + 1) x cs < (n + 1) + length cs)
        → cond b n (column_from (n + 1) x cs) < n + suc (length cs)
    by true g more = omega arith
    by false g more = let m : column_from (n + 1) x cs < (n + 1) + length cs = more g in omega arith

pub column_there : (x : List ℕ) (cs : List Name) → has (texts cs) x ≡ true → column_from 0 x cs < length cs
column_there x cs h = let l : column_from 0 x cs < 0 + length cs = column_from_there 0 x cs h in omega arith

column_from_on : (n : ℕ) (x : List ℕ) (cs : List Name) → n ≤ column_from n x cs
column_from_on n x [] = omega arith
column_from_on n x (c ∷ cs) = by (bytes_eq x c.text) (column_from_on (n + 1) x cs)
  where
    by : (b : Bool) → n + 1 ≤ column_from (n + 1) x cs → n ≤ cond b n (column_from (n + 1) x cs)
    by true h = omega arith
    by false h = omega arith

pub not_the_key : (x : List ℕ) (cs : List Name) → is_key cs x ≡ false → has (texts cs) x ≡ true → 0 < column_from 0 x cs
not_the_key x [] k h = absurd cc
not_the_key x (c ∷ cs) k h = rw k (let m : 1 ≤ column_from 1 x cs = column_from_on 1 x cs in omega arith)

pub some_columns : (t : NumberedTable) (xs : List Name) → xs ≢ [] → 0 < length (map (column_in t) xs)
some_columns t [] n = absurd (n refl)
some_columns t (x ∷ xs) n = omega arith

pub columns_there : (t : NumberedTable) (xs : List Name) → AreColumns t.columns xs → FitColumns (length t.columns) (map (column_in t) xs)
columns_there t [] h = tt
columns_there t (x ∷ xs) h = (column_there x.text t.columns h.0, columns_there t xs h.1)
