-- An operation fits a program exactly where it is of the program and its values are within the limits.
use Rattle.std.proofs.Common.{◌≡◌, ℕ, zero, suc, Bool, true, false, ◌&&◌, List, [], ◌∷◌, length, map, Option, Some, None, ℤ, pos, negsuc, refl, sym, ap, subst, ◌∙◌, arith, true≢false, nat_eq, nat_lt, int_le}
use Rattle.std.specs.Prelude.{◌≤ℤ◌}
use Rattle.std.specs.List.{list_all}
use Rattle.std.proofs.lemmas.Int.{ints}
use Rattle.std.proofs.lemmas.Bool.{and_parts, and_from, eqb-true, eq-eqb, le-leb, leb-true, lt-ltb, ltb-true}
use Rattle.basis.specs.Lists.{nth}
use Rattle.basis.proofs.Options.{some_is, none_is_not}
use Rattle.script_tree.specs.Datum.{Datum, null, bool, number, text, list, IsWithinLimits}
use Rattle.script_tree.specs.Fit.{declares_store, table_widths, IsKey, IsRowKey, IsRow}
use Rattle.script_tree.specs.Programs.{Program}
use Rattle.script_tree.specs.Transactions.{Row, key}
use Rattle.script_tree.specs.declared.limits.TheConstants.{MOST_KEY_BYTES}
use Rattle.script_tree.specs.declared.operation.Act.{Act}
use Rattle.script_tree.specs.declared.operation.Act.TheVariants.{Read, Write, Get, Put, Remove, Transact, Now, Roll}
use Rattle.script_tree.specs.declared.operation.Object.{Object}
use Rattle.script_tree.specs.declared.operation.Object.TheVariants.{Register, Store, Tables, Clock, Dice}
use Rattle.script_tree.specs.declared.transaction.Change.{Change}
use Rattle.script_tree.specs.declared.transaction.Statement.{Statement}
use Rattle.script_tree.specs.declared.transaction.Statement.TheVariants.{Insert, Select, Update, Delete, Expect}
use Rattle.script_tree.specs.declared.transaction.Test.{Test}
use Rattle.script_tree.specs.ActLimits.{AreWithinLimits, tested, IsStatementWithinLimits, AreStatementsWithinLimits, IsActWithinLimits}
use Rattle.script_fit.specs.FitsOperation.{FitsAct}
use Rattle.script_fit.specs.FitsTransaction.{FitColumns, FitTests, FitChanges, FitsWidth, FitsStatement, FitStatements, table_of}
use Rattle.script_fit.specs.OfProgram.{is_key, is_row_key, row_is_of, tests_are_of, changes_are_of, is_of_width, if_there, statement_is_of, is_of_program, FittingIsTested}

-- a test passes exactly where this holds
abbrev pub Tells : Bool → Type 0 → Type 0
Tells b P = (P → b ≡ true) × (b ≡ true → P)

-- this holds exactly where a test passes and limits are kept
abbrev Splits : Bool → Type 0 → Type 0 → Type 0
Splits b L P = (P → (b ≡ true) × L) × (b ≡ true → L → P)

-- ---- keys

pub key_tells : (k : List ℕ) → Tells (is_key k) (IsKey k)
key_tells k = (le-leb (length k) MOST_KEY_BYTES, leb-true (length k) MOST_KEY_BYTES)

abbrev text_in : Datum → List ℕ
text_in null = []
text_in (bool b) = []
text_in (number n) = []
text_in (text bs) = bs
text_in (list ds) = []

abbrev IsText : Datum → Type 0
IsText null = ⊥
IsText (bool b) = ⊥
IsText (number n) = ⊥
IsText (text bs) = Unit {0}
IsText (list ds) = ⊥

not_a_key : (d : Datum) → (IsText d → ⊥) → Tells false (IsRowKey d)
not_a_key d n = (λ h. absurd (n (subst (λ x. IsText x) (sym h.1) tt)), λ e. absurd (true≢false (sym e)))

pub row_key_tells : (d : Datum) → Tells (is_row_key d) (IsRowKey d)
row_key_tells null = not_a_key null (λ x. x)
row_key_tells (bool b) = not_a_key (bool b) (λ x. x)
row_key_tells (number n) = not_a_key (number n) (λ x. x)
row_key_tells (list ds) = not_a_key (list ds) (λ x. x)
row_key_tells (text k) = (λ h. (key_tells k).0 (subst (λ x. IsKey x) (sym (ap text_in h.1)) h.2), λ e. (k, refl, (key_tells k).1 e))

-- ---- statements

pub all_within : (ds : List Datum) → ((i : ℕ) (d : Datum) → nth ds i ≡ Some d → IsWithinLimits d) → AreWithinLimits ds
all_within [] h = tt
all_within (d ∷ ds) h = (h 0 d refl, all_within ds (λ i x e. h (suc i) x e))

pub each_within : (ds : List Datum) → AreWithinLimits ds → (i : ℕ) (d : Datum) → nth ds i ≡ Some d → IsWithinLimits d
each_within [] h i d e = absurd (none_is_not e)
each_within (x ∷ ds) h zero d e = subst (λ y. IsWithinLimits y) (some_is e) h.0
each_within (x ∷ ds) h (suc i) d e = each_within ds h.1 i d e

row_splits : (width : ℕ) (row : Row) → Splits (row_is_of width row) (AreWithinLimits row) (IsRow width row)
row_splits width row = (
  λ h. (and_from _ _ (eq-eqb (length row) width h.columns) ((row_key_tells (key row)).0 h.key), all_within row h.values),
  λ e l. let p = and_parts (nat_eq (length row) width) (is_row_key (key row)) e in
      record { columns = eqb-true (length row) width p.0; key = (row_key_tells (key row)).1 p.1; values = each_within row l },
)

pub columns_tell : (width : ℕ) (cs : List ℕ) → Tells (list_all (λ c. nat_lt c width) cs) (FitColumns width cs)
columns_tell width [] = (λ h. refl, λ e. tt)
columns_tell width (c ∷ cs) = (
  λ h. and_from _ _ (lt-ltb c width h.0) ((columns_tell width cs).0 h.1),
  λ e. let p = and_parts (nat_lt c width) (list_all (λ c. nat_lt c width) cs) e in (ltb-true c width p.0, (columns_tell width cs).1 p.1),
)

tests_split : (width : ℕ) (ts : List Test) → Splits (tests_are_of width ts) (AreWithinLimits (tested ts)) (FitTests width ts)
tests_split width [] = (λ h. (refl, tt), λ e l. tt)
tests_split width (t ∷ ts) = (
  λ h. let r = (tests_split width ts).0 h.2 in (and_from _ _ (lt-ltb t.column width h.0) r.0, (h.1, r.1)),
  λ e l. let p = and_parts (nat_lt t.column width) (tests_are_of width ts) e in
      (ltb-true t.column width p.0, l.0, (tests_split width ts).1 p.1 l.1),
)

changes_split : (width : ℕ) (cs : List Change) → Splits (changes_are_of width cs) (AreWithinLimits (map (λ c. c.value) cs)) (FitChanges width cs)
changes_split width [] = (λ h. (refl, tt), λ e l. tt)
changes_split width (c ∷ cs) = (
  λ h. let r = (changes_split width cs).0 h.3 in
      (and_from _ _ (and_from _ _ (lt-ltb 0 c.column h.0) (lt-ltb c.column width h.1)) r.0, (h.2, r.1)),
  λ e l.
      let p = and_parts (nat_lt 0 c.column && nat_lt c.column width) (changes_are_of width cs) e in
      let q = and_parts (nat_lt 0 c.column) (nat_lt c.column width) p.0 in
      (ltb-true 0 c.column q.0, ltb-true c.column width q.1, l.0, (changes_split width cs).1 p.1 l.1),
)

width_splits : (s : Statement) (width : ℕ) → Splits (is_of_width s width) (IsStatementWithinLimits s) (FitsWidth width s)
width_splits (Insert t row) width = row_splits width row
width_splits (Select t columns tests) width = (
  λ h. let r = (tests_split width tests).0 h.2 in
      (and_from _ _ (lt-ltb 0 (length columns) h.0) (and_from _ _ ((columns_tell width columns).0 h.1) r.0), r.1),
  λ e l.
      let p = and_parts (nat_lt 0 (length columns)) _ e in
      let q = and_parts (list_all (λ c. nat_lt c width) columns) (tests_are_of width tests) p.1 in
      (ltb-true 0 (length columns) p.0, (columns_tell width columns).1 q.0, (tests_split width tests).1 q.1 l),
)
width_splits (Update t changes tests) width = (
  λ h.
      let c = (changes_split width changes).0 h.1 in
      let r = (tests_split width tests).0 h.2 in
      (and_from _ _ (lt-ltb 0 (length changes) h.0) (and_from _ _ c.0 r.0), (c.1, r.1)),
  λ e l.
      let p = and_parts (nat_lt 0 (length changes)) _ e in
      let q = and_parts (changes_are_of width changes) (tests_are_of width tests) p.1 in
      (ltb-true 0 (length changes) p.0, (changes_split width changes).1 q.0 l.0, (tests_split width tests).1 q.1 l.1),
)
width_splits (Delete t tests) width = tests_split width tests
width_splits (Expect n t tests) width = tests_split width tests

statement_splits : (widths : List ℕ) (s : Statement) → Splits (statement_is_of widths s) (IsStatementWithinLimits s) (FitsStatement widths s)
statement_splits widths s = by (nth widths (table_of s)) refl
  where
    by : (o : Option ℕ) → nth widths (table_of s) ≡ o → Splits (if_there (is_of_width s) o) (IsStatementWithinLimits s) (FitsStatement widths s)
    by None e = (λ h. absurd (none_is_not (sym e ∙ h.1)), λ t l. absurd (true≢false (sym t)))
    by (Some w) e = (
      λ h. let r = (width_splits s h.0).0 h.2 in (subst (λ x. is_of_width s x ≡ true) (some_is (sym h.1 ∙ e)) r.0, r.1),
      λ t l. (w, e, (width_splits s w).1 t l),
    )

statements_split : (widths : List ℕ) (ss : List Statement)
    → Splits (list_all (statement_is_of widths) ss) (AreStatementsWithinLimits ss) (FitStatements widths ss)
statements_split widths [] = (λ h. (refl, tt), λ e l. tt)
statements_split widths (s ∷ ss) = (
  λ h.
      let r = (statement_splits widths s).0 h.0 in
      let t = (statements_split widths ss).0 h.1 in
      (and_from _ _ r.0 t.0, (r.1, t.1)),
  λ e l. let p = and_parts (statement_is_of widths s) (list_all (statement_is_of widths) ss) e in
      ((statement_splits widths s).1 p.0 l.0, (statements_split widths ss).1 p.1 l.1),
)

-- ---- operations

pub bound_tells : (z : ℤ) → Tells (int_le (pos 1) z) (pos 1 ≤ℤ z)
bound_tells (pos n) = (λ h. le-leb 1 n (omega (arith, ints, h)), λ e. let l = leb-true 1 n e in omega (arith, ints, l))
bound_tells (negsuc n) = (λ h. absurd (omega (arith, ints, h)), λ e. absurd (true≢false (sym e)))

act_splits : (P : Program) (o : Object) (a : Act)
    → Splits (is_of_program P o a) (IsActWithinLimits a)
    (FitsAct (declares_store P.declarations) (table_widths P.declarations) o a)
act_splits P (Register x) Read = (λ h. ((key_tells x).0 h, tt), λ e l. (key_tells x).1 e)
act_splits P (Register x) (Write d) = (λ h. ((key_tells x).0 h.0, h.1), λ e l. ((key_tells x).1 e, l))
act_splits P (Store s) (Get k) = (
  λ h. (and_from _ _ h.0 ((key_tells k).0 h.1), tt),
  λ e l. let p = and_parts (declares_store P.declarations s) (is_key k) e in (p.0, (key_tells k).1 p.1),
)
act_splits P (Store s) (Put k d) = (
  λ h. (and_from _ _ h.0 ((key_tells k).0 h.1.0), h.1.1),
  λ e l. let p = and_parts (declares_store P.declarations s) (is_key k) e in (p.0, ((key_tells k).1 p.1, l)),
)
act_splits P (Store s) (Remove k) = (
  λ h. (and_from _ _ h.0 ((key_tells k).0 h.1), tt),
  λ e l. let p = and_parts (declares_store P.declarations s) (is_key k) e in (p.0, (key_tells k).1 p.1),
)
act_splits P Tables (Transact ss) = (
  λ h. let r = (statements_split (table_widths P.declarations) ss).0 h.1 in (and_from _ _ (lt-ltb 0 (length ss) h.0) r.0, r.1),
  λ e l. let p = and_parts (nat_lt 0 (length ss)) (list_all (statement_is_of (table_widths P.declarations)) ss) e in
      (ltb-true 0 (length ss) p.0, (statements_split (table_widths P.declarations) ss).1 p.1 l),
)
act_splits P Clock Now = (λ h. (refl, tt), λ e l. tt)
act_splits P Dice (Roll bound) = (λ h. ((bound_tells bound).0 h, tt), λ e l. (bound_tells bound).1 e)
act_splits P (Register x) a = (λ h. absurd h, λ e l. absurd (true≢false (sym e)))
act_splits P (Store s) a = (λ h. absurd h.1, λ e l. absurd (true≢false (sym e)))
act_splits P Tables a = (λ h. absurd h, λ e l. absurd (true≢false (sym e)))
act_splits P Clock a = (λ h. absurd h, λ e l. absurd (true≢false (sym e)))
act_splits P Dice a = (λ h. absurd h, λ e l. absurd (true≢false (sym e)))

pub fitting_is_tested : FittingIsTested
fitting_is_tested = record {
  is_of = λ P op h. ((act_splits P op.object op.act).0 h).0;
  within = λ P op h. ((act_splits P op.object op.act).0 h).1;
  fits = λ P op e l. (act_splits P op.object op.act).1 e l;
}
