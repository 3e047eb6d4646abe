-- The tables that are declared, with their widths.
use Rattle.std.proofs.Common.{◌≡◌, ℕ, suc, ◌+◌, List, [], ◌∷◌, length, Bool, true, false, cond, Some, refl, sym, subst, arith}
use Rattle.std.specs.Str.{bytes_eq}
use Rattle.basis.specs.Lists.{nth}
use Rattle.basis.proofs.Options.{some_is, none_is_not}
use Rattle.script_check.specs.FoundByName.{table_of}
use Rattle.script_check.specs.declared.lookup.FoundTable.{FoundTable}
use Rattle.script_tree.specs.Declarations.{NumberedTable, table_from}
use Rattle.script_tree.specs.Fit.{table_widths}
use Rattle.script_tree.specs.declared.syntax.declaration.Declaration.{Declaration}
use Rattle.script_tree.specs.declared.syntax.declaration.Declaration.TheVariants.{Store, Table, Function, Page}

-- the table stands so far behind the first number
abbrev IsAfter : ℕ → NumberedTable → List Declaration → Type 0
IsAfter k n ds = (j : ℕ) × (n.number ≡ k + j) × (nth (table_widths ds) j ≡ Some (length n.columns))

width_from : (k : ℕ) (x : List ℕ) (ds : List Declaration) (n : NumberedTable) → table_from k x ds ≡ Some n → IsAfter k n ds
width_from k x [] n e = absurd (none_is_not e)
width_from k x (Store at name ∷ ds) n e = width_from k x ds n e
width_from k x (Function at name parameters body ∷ ds) n e = width_from k x ds n e
width_from k x (Page at path body ∷ ds) n e = width_from k x ds n e
width_from k x (Table at name columns ∷ ds) n e = by (bytes_eq x name.text) e (λ f. width_from (k + 1) x ds n f)
  where
    by : (b : Bool) → cond b (Some (record { number = k; columns = columns })) (table_from (k + 1) x ds) ≡ Some n
        → (table_from (k + 1) x ds ≡ Some n → IsAfter (k + 1) n ds) → IsAfter k n (Table at name columns ∷ ds)
    by true f more = subst (λ m. IsAfter k m (Table at name columns ∷ ds)) (some_is f) (0, omega arith, refl)
    by false f more = let m = more f in (suc m.0, omega (arith, m.1), m.2)

-- a table has its width at its number
pub width_at : (x : List ℕ) (ds : List Declaration) (n : NumberedTable) → table_from 0 x ds ≡ Some n → nth (table_widths ds) n.number ≡ Some (length n.columns)
width_at x ds n e =
    let m = width_from 0 x ds n e in
    let same : m.0 ≡ n.number = omega (arith, m.1) in
    subst (λ i. nth (table_widths ds) i ≡ Some (length n.columns)) same m.2

-- the same where it is found by name
pub width_there : (x : List ℕ) (ds : List Declaration) (t : FoundTable) → Some (table_of t) ≡ table_from 0 x ds
    → nth (table_widths ds) t.number ≡ Some (length t.columns.now)
width_there x ds t e = width_at x ds (table_of t) (sym e)
