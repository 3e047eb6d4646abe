-- What is told of an entry of a log.
use Rattle.std.proofs.Common.{◌≡◌, ◌≢◌, ◌∙◌, ℕ, zero, suc, ◌<◌, Bool, true, false, ◌&&◌, nat_eq, List, [], ◌∷◌, length, Option, Some, None, Result, IfOk, IfSome, true≢false, refl, sym, ap, subst, arith}
use Rattle.std.specs.Prelude.{slice_index_or}
use Rattle.std.specs.Option.{is_some}
use Rattle.std.proofs.lemmas.Bool.{and_parts, and_from, eqb-true, eq-eqb}
use Rattle.basis.specs.Lists.{nth}
use Rattle.basis.proofs.Options.{some_is, none_is_not}
use Rattle.script_tree.specs.Datum.{Datum}
use Rattle.script_tree.specs.Objects.{Cell, acted}
use Rattle.script_tree.specs.declared.operation.Object.{Object}
use Rattle.script_tree.specs.declared.operation.Object.TheVariants.{Register, Store, Tables, Clock, Dice}
use Rattle.period.specs.declared.report.LogEntry.{LogEntry}
use Rattle.versioned_tables.specs.OverTime.{IsAnswerThen}
use Rattle.versioned_store.specs.Entries.{IsKept}
use Rattle.versioned_store.specs.Logged.{Logged, cell_before, answer_there, named_cell, IsAnswer, IsCellBefore, FitsLog}
use Rattle.versioned_store.specs.Sources.{selects_alone, IsSource}
use Rattle.versioned_store.specs.Tables.{TellsSelects, IsTablesAnswer}
use Rattle.versioned_store.specs.Tellings.{Tells, tables_of}
use Rattle.versioned_store.specs.declared.selects.SelectedTables.{SelectedTables}
use Rattle.versioned_store.specs.declared.versions.Versions.{Versions}
use Rattle.versioned_store.specs.declared.versions.Versions.TheVariants.{Register as OfRegister, Store as OfStore, Tables as OfTables, Clock as OfClock, Dice as OfDice}
use Rattle.versioned_store.proofs.Firsts.{itself}
use Rattle.versioned_store.proofs.Kept.{computed_is, IfOk-then}
use Rattle.versioned_store.proofs.Selecting.{on_tables}
use Rattle.versioned_store.proofs.Telling.{within, no_selects}

at_place : {A : Type 0} (xs : List A) (p : ℕ) → p < length xs → (x : A) × (nth xs p ≡ Some x)
at_place [] p h = absurd (omega arith)
at_place (x ∷ xs) zero h = (x, refl)
at_place (x ∷ xs) (suc p) h = at_place xs p (omega arith)

-- ---- answers and cells

pub answer_by : (o : Logged) (p : ℕ) (x : LogEntry) (cell : Cell) (d : Datum) → nth o.log.entries p ≡ Some x
    → cell_before o p ≡ cell → d ≡ (acted x.act x.choice cell).1 → IsAnswer o p d
answer_by o p x cell d at is answer e at_e =
    answer ∙ ap (λ c. (acted x.act x.choice c).1) (sym is) ∙ ap (answer_there o p) (some_is (sym at ∙ at_e))

pub answered_by : {E : Type 0} (o : Logged) (p : ℕ) (x : LogEntry) (cell : Cell) (r : Result Datum E)
    → nth o.log.entries p ≡ Some x → cell_before o p ≡ cell → IfOk r (λ d. d ≡ (acted x.act x.choice cell).1)
    → IfOk r (IsAnswer o p)
answered_by o p x cell r at is answer = IfOk-then r (λ d. d ≡ (acted x.act x.choice cell).1) (IsAnswer o p) (λ d same. answer_by o p x cell d at is same) answer

pub answered_on_tables : {E : Type 0} (o : Logged) (p : ℕ) (r : Result Datum E) → o.log.object ≡ Tables
    → IfOk r (IsTablesAnswer o.log.entries o.start.tables.tables p) → IfOk r (IsAnswer o p)
answered_on_tables o p r is answer =
    IfOk-then r (IsTablesAnswer o.log.entries o.start.tables.tables p) (IsAnswer o p) (λ d same e at. same e at ∙ sym (on_tables o p e is)) answer

pub cell_by : (o : Logged) (p : ℕ) (x : LogEntry) (cell : Cell) (held : Option Datum) → nth o.log.entries p ≡ Some x
    → cell_before o p ≡ cell → held ≡ named_cell x.act cell → IsCellBefore o p held
cell_by o p x cell held at is same e at_e =
    same ∙ ap (named_cell x.act) (sym is) ∙ ap (λ (y : LogEntry). named_cell y.act (cell_before o p)) (some_is (sym at ∙ at_e))

-- ---- sources

-- No entry of the log is a transaction of selects alone.
abbrev pub HasNone : Logged → Type 0
HasNone o = (p : ℕ) (e : LogEntry) → nth o.log.entries p ≡ Some e → selects_alone e.act ≡ false

abbrev is_tables : Object → Bool
is_tables (Register x) = false
is_tables (Store s) = false
is_tables Tables = true
is_tables Clock = false
is_tables Dice = false

not_tables : (object : Object) → is_tables object ≡ false → object ≢ Tables
not_tables object f e = true≢false (sym (ap is_tables e) ∙ f)

-- versions of no tables tell of another object
other_object : (o : Logged) (v : Versions) → tables_of v ≡ None → Tells o v → o.log.object ≢ Tables
other_object o (OfRegister vs) n t = not_tables o.log.object (ap is_tables t.1)
other_object o (OfStore es) n t = not_tables o.log.object (ap is_tables t.1)
other_object o (OfTables x) n t = absurd (none_is_not (sym n))
other_object o OfClock n t = not_tables o.log.object (ap is_tables t)
other_object o OfDice n t = not_tables o.log.object (ap is_tables t)

pub has_none : (o : Logged) (v : Versions) → tables_of v ≡ None → Tells o v → FitsLog o.start o.log → HasNone o
has_none o v n tells fits p e at = no_selects o.log.object (other_object o v n tells) o.start e.act (fits p e at)

pub is_of_tables : (o : Logged) (v : Versions) (t : SelectedTables) → tables_of v ≡ Some t → Tells o v
    → (o.log.object ≡ Tables) × TellsSelects o.log.entries o.start.tables t
is_of_tables o (OfRegister vs) t n tells = absurd (none_is_not n)
is_of_tables o (OfStore es) t n tells = absurd (none_is_not n)
is_of_tables o (OfTables x) t n tells = (tells.0, subst (TellsSelects o.log.entries o.start.tables) (some_is n) tells.1)
is_of_tables o OfClock t n tells = absurd (none_is_not n)
is_of_tables o OfDice t n tells = absurd (none_is_not n)

pub own_source : (o : Logged) (p : ℕ) → HasNone o → IsSource o.log.entries p p
own_source o p none = record {
  like = itself o.log.entries p;
  least = λ e at s i like. absurd (true≢false (sym s ∙ none p e at));
  own = λ e at s. refl;
}

pub nothing_kept : (o : Logged) (p : ℕ) → HasNone o → p < length o.log.entries → IsKept o p None
nothing_kept o p none h = record {
  there = λ own. let at = at_place o.log.entries p h in absurd (true≢false (sym (own.selects at.0 at.1) ∙ none p at.0 at.1));
  only = λ e. absurd (true≢false (sym e));
  answer = tt;
}

-- an entry has one source
one_source : (entries : List LogEntry) (p q : ℕ) (e : LogEntry) → nth entries p ≡ Some e → selects_alone e.act ≡ true
    → IsSource entries p p → IsSource entries p q → q ≡ p
one_source entries p q e at s own source =
    let up = own.least e at s q source.like in
    let down = source.least e at s p (itself entries p) in
    omega (arith, up, down)

kept_at : (o : Logged) (t : SelectedTables) (p : ℕ) (kept : Option Datum) (e : LogEntry)
    → nth o.log.entries p ≡ Some e → o.log.object ≡ Tables → TellsSelects o.log.entries o.start.tables t
    → nth t.kept.items p ≡ Some kept → IsKept o p kept
kept_at o t p kept e at is told there = record {
  there = λ own. told_own ∙ and_from (selects_alone e.act) (nat_eq q p) (own.selects e at)
      (eq-eqb q p (one_source o.log.entries p q e at (own.selects e at) own.source source));
  only = λ some. let both = and_parts (selects_alone e.act) (nat_eq q p) (sym told_own ∙ some) in record {
    selects = λ x at_x. ap (λ (y : LogEntry). selects_alone y.act) (some_is (sym at_x ∙ at)) ∙ both.0;
    source = subst (IsSource o.log.entries p) (eqb-true q p both.1) source;
  };
  answer = answer kept (told.kept.answers p e kept at there);
} where
  q : ℕ
  q = slice_index_or t.sources.items p 0

  source : IsSource o.log.entries p q
  source = let l = within o.log.entries p e at in told.sources.each p 0 (omega (arith, l, told.sources.count))

  told_own : is_some kept ≡ (selects_alone e.act && nat_eq q p)
  told_own = told.kept.own p e kept at there

  answer : (r : Option Datum) → IfSome r (IsAnswerThen e.act p t.tables) → IfSome r (IsAnswer o p)
  answer None a = tt
  answer (Some d) a = λ x at_x. computed_is o.log.entries o.start.tables t.tables p e d told.tables at a x at_x ∙ sym (on_tables o p x is)

pub source_kept : (o : Logged) (t : SelectedTables) (p : ℕ) (kept : Option Datum) → o.log.object ≡ Tables
    → TellsSelects o.log.entries o.start.tables t → p < length o.log.entries
    → nth t.kept.items p ≡ Some kept → IsKept o p kept
source_kept o t p kept is told h there = let at = at_place o.log.entries p h in kept_at o t p kept at.0 at.1 is told there
