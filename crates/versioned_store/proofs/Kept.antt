-- Answers that are kept.
use Rattle.std.proofs.Common.{◌≡◌, ◌∙◌, ℕ, zero, suc, ◌<◌, List, [], ◌∷◌, ◌++◌, length, get_or, take, Some, Result, Ok, Err, IfOk, refl, sym, ap, subst, arith, length-append, ⊎_elim}
use Rattle.std.specs.Prelude.{slice_index_or}
use Rattle.std.proofs.lemmas.Bool.{cases_eq}
use Rattle.basis.specs.Lists.{nth}
use Rattle.basis.proofs.Options.{some_is}
use Rattle.script_tree.specs.Datum.{Datum}
use Rattle.script_tree.specs.Objects.{rows, acted}
use Rattle.period.specs.declared.report.LogEntry.{LogEntry}
use Rattle.period.specs.LeftBy.{left_by}
use Rattle.object_tables.specs.TableSets.{TableSet}
use Rattle.versioned_tables.specs.OverTime.{OverTime, TellsTables, IsAnswerThen}
use Rattle.versioned_tables.specs.Standing.{Stands}
use Rattle.versioned_store.specs.Sources.{IsLike}
use Rattle.versioned_store.specs.Tables.{TellsSelects, IsTablesAnswer}
use Rattle.versioned_store.specs.declared.selects.SelectedTables.{SelectedTables}
use Rattle.versioned_store.proofs.Selecting.{tables_alike}
use Rattle.versioned_store.proofs.Telling.{within, place}

-- what is told of each member is told with one more
pub push_nth : {A : Type 0} (P : ℕ → A → Type 0) (old new : List A) (i : ℕ) (x : A) → length old ≡ i
    → new ≡ old ++ x ∷ [] → ((p : ℕ) (y : A) → nth old p ≡ Some y → P p y) → P i x
    → (p : ℕ) (y : A) → nth new p ≡ Some y → P p y
push_nth P old new i x l more all one p y at =
    let there : nth (old ++ x ∷ []) p ≡ Some y = ap (λ xs. nth xs p) (sym more) ∙ at in
    ⊎_elim (λ same. subst (λ n. P n y) (sym (same ∙ l)) (subst (P i) (some_is (sym (last old) ∙ ap (nth (old ++ x ∷ [])) (sym same) ∙ there)) one))
    (λ apart. let w = within (old ++ x ∷ []) p y there in let n = length-append old (x ∷ []) in
    all p y (first old p (omega (arith, w, n, apart)) ∙ there)) (cases_eq p (length old))
  where
    last : (xs : List _) → nth (xs ++ x ∷ []) (length xs) ≡ Some x
    last [] = refl
    last (y ∷ xs) = last xs

    first : (xs : List _) (n : ℕ) → n < length xs → nth xs n ≡ nth (xs ++ x ∷ []) n
    first [] n h = absurd (omega arith)
    first (y ∷ xs) zero h = refl
    first (y ∷ xs) (suc n) h = first xs n (omega arith)

pub stands_then : (entries : List LogEntry) (start : TableSet) (v : OverTime) (p : ℕ) → TellsTables entries start v → Stands v.widths p v.rows
stands_then entries start v p tells = let t = tells.holds p in record { tables = t.tables; fit = t.fit; rows = t.standing }

-- ---- answers

-- an answer that the source keeps
pub kept_is : (entries : List LogEntry) (start : TableSet) (t : SelectedTables) (p q : ℕ) (d : Datum)
    → TellsSelects entries start t → q ≡ slice_index_or t.sources.items p 0 → nth t.kept.items q ≡ Some (Some d)
    → IsTablesAnswer entries start.tables p d
kept_is entries start t p q d tells is kept e at =
    let l = within entries p e at in
    let like : IsLike entries p q = subst (IsLike entries p) (sym is) (tells.sources.each p 0 (omega (arith, l, tells.sources.count))).like in
    let f = get_or entries q e in
    let at_q : nth entries q ≡ Some f = place entries q e (let b = like.before in omega (arith, l, b)) in
    tells.kept.answers q f (Some d) at_q kept (left_by (take q entries) (rows start.tables)) f.choice (tells.tables.holds q)
    ∙ sym (tables_alike entries start.tables p q e f like at at_q)

-- an answer that is computed
pub computed_is : (entries : List LogEntry) (start : TableSet) (v : OverTime) (p : ℕ) (x : LogEntry) (d : Datum)
    → TellsTables entries start v → nth entries p ≡ Some x → IsAnswerThen x.act p v d
    → IsTablesAnswer entries start.tables p d
computed_is entries start v p x d tells at is e at_e =
    is (left_by (take p entries) (rows start.tables)) x.choice (tells.holds p)
    ∙ ap (λ (y : LogEntry). (acted y.act y.choice (left_by (take p entries) (rows start.tables))).1) (some_is (sym at ∙ at_e))

pub IfOk-then : {E : Type 0} (r : Result Datum E) (P Q : Datum → Type 0) → ((d : Datum) → P d → Q d) → IfOk r P → IfOk r Q
IfOk-then (Ok d) P Q f p = f d p
IfOk-then (Err e) P Q f p = tt
