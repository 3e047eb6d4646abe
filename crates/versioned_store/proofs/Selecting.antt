-- Sources of selects.
use Rattle.std.proofs.Common.{◌≡◌, ◌∙◌, ℕ, zero, suc, ◌≤◌, true, List, [], ◌∷◌, ◌++◌, take, Option, Some, None, refl, sym, ap, arith, ⊎_elim}
use Rattle.std.proofs.lemmas.Bool.{cases_eq}
use Rattle.basis.specs.Lists.{nth}
use Rattle.basis.proofs.Options.{some_is, none_is_not}
use Rattle.script_tree.specs.Objects.{rows, acted}
use Rattle.script_tree.specs.Transactions.{Table, after_transaction}
use Rattle.script_tree.specs.declared.operation.Act.{Act}
use Rattle.script_tree.specs.declared.operation.Act.TheVariants.{Read, Write, Get, Put, Remove, Transact, Now, Roll}
use Rattle.script_tree.specs.declared.operation.Choice.{Choice}
use Rattle.script_tree.specs.declared.operation.Choice.TheVariants.{Nothing, Number}
use Rattle.script_tree.specs.declared.operation.Object.TheVariants.{Tables}
use Rattle.period.specs.declared.report.LogEntry.{LogEntry}
use Rattle.object_set.specs.ObjectSets.{objects_of}
use Rattle.period.specs.LeftBy.{left_by}
use Rattle.versioned_cells.proofs.LogFacts.{left-one}
use Rattle.versioned_tables.proofs.Reading.{reads_keep}
use Rattle.versioned_store.specs.Alike.{AlikeAnswers}
use Rattle.versioned_store.specs.Logged.{Logged, answer_there}
use Rattle.versioned_tables.specs.Reads.{keeps_tables}
use Rattle.versioned_store.specs.Sources.{IsCalm, IsLike}

-- ---- reads keep the tables

acted_kept : (a : Act) (c : Choice) (ts : List Table) → keeps_tables a ≡ true → (acted a c (rows ts)).0 ≡ rows ts
unfolding acted
acted_kept Read c ts e = refl
acted_kept (Write d) c ts e = refl
acted_kept (Get k) c ts e = refl
acted_kept (Put k d) c ts e = refl
acted_kept (Remove k) c ts e = refl
acted_kept (Transact ss) c ts e = ap rows (reads_keep ss e ts)
acted_kept Now Nothing ts e = refl
acted_kept Now (Number n) ts e = refl
acted_kept (Roll b) Nothing ts e = refl
acted_kept (Roll b) (Number n) ts e = refl

acted_rows : (a : Act) (c : Choice) (ts : List Table) → (us : List Table) × ((acted a c (rows ts)).0 ≡ rows us)
unfolding acted
acted_rows Read c ts = (ts, refl)
acted_rows (Write d) c ts = (ts, refl)
acted_rows (Get k) c ts = (ts, refl)
acted_rows (Put k d) c ts = (ts, refl)
acted_rows (Remove k) c ts = (ts, refl)
acted_rows (Transact ss) c ts = ((after_transaction ss ts).0, refl)
acted_rows Now Nothing ts = (ts, refl)
acted_rows Now (Number n) ts = (ts, refl)
acted_rows (Roll b) Nothing ts = (ts, refl)
acted_rows (Roll b) (Number n) ts = (ts, refl)

left_rows : (es : List LogEntry) (ts : List Table) → (us : List Table) × (left_by es (rows ts) ≡ rows us)
left_rows [] ts = (ts, refl)
left_rows (e ∷ es) ts =
    let a = acted_rows e.act e.choice ts in
    let b = left_rows es a.0 in
    (b.0, ap (left_by es) a.1 ∙ b.1)

-- the choice doesn't matter to tables
choice_free : (a : Act) (c d : Choice) (ts : List Table) → (acted a c (rows ts)).1 ≡ (acted a d (rows ts)).1
unfolding acted
choice_free Read c d ts = refl
choice_free (Write x) c d ts = refl
choice_free (Get k) c d ts = refl
choice_free (Put k x) c d ts = refl
choice_free (Remove k) c d ts = refl
choice_free (Transact ss) c d ts = refl
choice_free Now Nothing Nothing ts = refl
choice_free Now Nothing (Number n) ts = refl
choice_free Now (Number m) Nothing ts = refl
choice_free Now (Number m) (Number n) ts = refl
choice_free (Roll b) Nothing Nothing ts = refl
choice_free (Roll b) Nothing (Number n) ts = refl
choice_free (Roll b) (Number m) Nothing ts = refl
choice_free (Roll b) (Number m) (Number n) ts = refl

take_none : (xs : List LogEntry) (i : ℕ) → nth xs i ≡ None → take (suc i) xs ≡ take i xs
take_none [] zero e = refl
take_none [] (suc i) e = refl
take_none (x ∷ xs) zero e = absurd (none_is_not (sym e))
take_none (x ∷ xs) (suc i) e = ap (λ ys. x ∷ ys) (take_none xs i e)

take_some : (xs : List LogEntry) (i : ℕ) (x : LogEntry) → nth xs i ≡ Some x → take (suc i) xs ≡ take i xs ++ x ∷ []
take_some [] i x e = absurd (none_is_not e)
take_some (y ∷ xs) zero x e = ap (λ z. z ∷ []) (some_is e)
take_some (y ∷ xs) (suc i) x e = ap (λ ys. y ∷ ys) (take_some xs i x e)

calm_left : (entries : List LogEntry) (q p : ℕ) (ts : List Table) → q ≤ p → IsCalm entries q p
    → left_by (take p entries) (rows ts) ≡ left_by (take q entries) (rows ts)
calm_left entries q zero ts l c = let none : 0 ≡ q = omega arith in ap (λ n. left_by (take n entries) (rows ts)) none
calm_left entries q (suc p) ts l c = ⊎_elim (λ same. ap (λ n. left_by (take n entries) (rows ts)) (sym same)) (λ apart. by (nth entries p) refl (calm_left entries q p ts (omega (arith, apart)) (λ i e m n at. c i e m (omega arith) at)) (omega (arith, apart))) (cases_eq q (suc p))
  where
    by : (o : Option LogEntry) → nth entries p ≡ o
        → left_by (take p entries) (rows ts) ≡ left_by (take q entries) (rows ts) → q ≤ p
        → left_by (take (suc p) entries) (rows ts) ≡ left_by (take q entries) (rows ts)
    by None e ih low = ap (λ es. left_by es (rows ts)) (take_none entries p e) ∙ ih
    by (Some x) e ih low =
        let r = left_rows (take p entries) ts in
        ap (λ es. left_by es (rows ts)) (take_some entries p x e) ∙ left-one (take p entries) x (rows ts) ∙ ap (λ cell. (acted x.act x.choice cell).0) r.1
        ∙ acted_kept x.act x.choice r.0 (c p x low (omega arith) e) ∙ sym r.1 ∙ ih

-- what is like has the same answer
pub tables_alike : (entries : List LogEntry) (ts : List Table) (p q : ℕ) (f e : LogEntry) → IsLike entries p q → nth entries p ≡ Some f → nth entries q ≡ Some e
    → (acted f.act f.choice (left_by (take p entries) (rows ts))).1 ≡ (acted e.act e.choice (left_by (take q entries) (rows ts))).1
tables_alike entries ts p q f e like at_p at_q =
    let r = left_rows (take q entries) ts in
    ap (λ x. (acted f.act f.choice x).1) (calm_left entries q p ts like.before like.calm ∙ r.1)
    ∙ ap (λ a. (acted a f.choice (rows r.0)).1) (sym (like.same e f at_q at_p))
    ∙ choice_free e.act f.choice e.choice r.0 ∙ ap (λ x. (acted e.act e.choice x).1) (sym r.1)

pub on_tables : (o : Logged) (p : ℕ) (e : LogEntry) → o.log.object ≡ Tables
    → answer_there o p e ≡ (acted e.act e.choice (left_by (take p o.log.entries) (rows o.start.tables.tables))).1
on_tables o p e is = ap (λ object. (acted e.act e.choice (left_by (take p o.log.entries) (objects_of o.start object))).1) is

pub alike_answers : AlikeAnswers
alike_answers o p q f e is like at_p at_q =
    on_tables o p f is ∙ tables_alike o.log.entries o.start.tables.tables p q f e like at_p at_q ∙ sym (on_tables o q e is)
