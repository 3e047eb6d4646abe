-- What may be spelled has values within the limits.
use Rattle.std.proofs.Common.{◌≡◌, ℕ, zero, suc, List, [], ◌∷◌, map, Some, subst}
use Rattle.basis.specs.Lists.{nth}
use Rattle.basis.proofs.Options.{some_is, none_is_not}
use Rattle.script_tree.specs.ActLimits.{AreWithinLimits as values_are, tested, IsStatementWithinLimits, AreStatementsWithinLimits, IsActWithinLimits}
use Rattle.script_tree.specs.Datum.{Datum}
use Rattle.script_tree.specs.declared.operation.Act.{Act}
use Rattle.script_tree.specs.declared.operation.Act.TheVariants.{Read, Write, Get, Put, Remove, Transact, Now, Roll}
use Rattle.script_tree.specs.declared.transaction.Change.{Change}
use Rattle.script_tree.specs.declared.transaction.Statement.{Statement}
use Rattle.script_tree.specs.declared.transaction.Statement.TheVariants.{Insert, Select, Update, Delete, Expect}
use Rattle.script_tree.specs.declared.transaction.Test.{Test}
use Rattle.wire.specs.Spellings.{Field, value_field}
use Rattle.report_format.specs.Limits.{AreWithinLimits}
use Rattle.report_format.specs.Operations.{test_field, change_field, statement_field, act_field}
use Rattle.report_format.specs.Parts.{AllAllowed}
use Rattle.report_format.specs.Reports.{entry_field, log_field}
use Rattle.report_format.proofs.ReadAgain.{may_be_spelled}

row_within : (ds : List Datum) → AllAllowed value_field ds → values_are ds
row_within [] h = tt
row_within (d ∷ ds) h = (h.0.0, row_within ds h.1)

tests_within : (ts : List Test) → AllAllowed test_field ts → values_are (tested ts)
tests_within [] h = tt
tests_within (t ∷ ts) h = (h.0.1.1.0, tests_within ts h.1)

changes_within : (cs : List Change) → AllAllowed change_field cs → values_are (map (λ c. c.value) cs)
changes_within [] h = tt
changes_within (c ∷ cs) h = (h.0.1.0, changes_within cs h.1)

statement_within : (s : Statement) → statement_field.allows s → IsStatementWithinLimits s
statement_within (Insert t row) h = row_within row h.1.1
statement_within (Select t columns tests) h = tests_within tests h.1.1.1
statement_within (Update t changes tests) h = (changes_within changes h.1.0.1, tests_within tests h.1.1.1)
statement_within (Delete t tests) h = tests_within tests h.1.1
statement_within (Expect n t tests) h = tests_within tests h.1.1.1

statements_within : (ss : List Statement) → AllAllowed statement_field ss → AreStatementsWithinLimits ss
statements_within [] h = tt
statements_within (s ∷ ss) h = (statement_within s h.0, statements_within ss h.1)

act_within : (a : Act) → act_field.allows a → IsActWithinLimits a
act_within Read h = tt
act_within (Write d) h = h.0
act_within (Get k) h = tt
act_within (Put k d) h = h.1.0
act_within (Remove k) h = tt
act_within (Transact ss) h = statements_within ss h.1
act_within Now h = tt
act_within (Roll bound) h = tt

-- each of a list that is allowed is
each_allowed : {A : Type 0} (field : Field A) (xs : List A) → AllAllowed field xs → (i : ℕ) (x : A) → nth xs i ≡ Some x → field.allows x
each_allowed field [] h i x e = absurd (none_is_not e)
each_allowed field (y ∷ xs) h zero x e = subst field.allows (some_is e) h.0
each_allowed field (y ∷ xs) h (suc i) x e = each_allowed field xs h.1 i x e

pub are_within_limits : AreWithinLimits
are_within_limits report bytes spelled i j log entry at_log at_entry =
    let l = each_allowed log_field report.logs (may_be_spelled report bytes spelled).logs i log at_log in
    let e = each_allowed entry_field log.entries l.1.1 j entry at_entry in
    act_within entry.act e.1.1.0
