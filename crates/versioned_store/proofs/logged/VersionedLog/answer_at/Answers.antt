use Rattle.std.proofs.Common.{◌∙◌, List, IfOk, sym, ap, subst}
use Rattle.script_tree.specs.Objects.{one, many, reading, none}
use Rattle.period.specs.declared.report.LogEntry.{LogEntry}
use Rattle.versioned_cells.specs.Versions.{as_of, held_at}
use Rattle.versioned_store.specs.Logged.{Logged, FitsLog}
use Rattle.versioned_store.specs.Tables.{TellsSelects, IsTablesAnswer, IsToldSelects}
use Rattle.versioned_store.specs.Tellings.{Tells}
use Rattle.versioned_store.proofs.Telling.{cell_register, cell_store, cell_clock, cell_dice, all_told, told_tables, of_tables}
use Rattle.versioned_store.proofs.Told.{answer_by, answered_by, answered_on_tables}
use Rattle.versioned_store.proofs.logged.VersionedLog.answer_at.Goals as goal

pub answer_at-requires-clause-told : goal.answer_at-requires-clause-told
answer_at-requires-clause-told c =
    let o = c.args.self.now in
    let told = subst (λ (o : Logged). Tells o c.self.inside.versions) c.self.view_is c.self.invariant.tells in
    let fits = subst (λ (o : Logged). FitsLog o.start o.log) c.self.view_is c.self.invariant.fits in
    let same = c.as_slice.ensures ∙ ap (λ (o : Logged). o.log.entries) c.self.view_is in
    subst (λ (es : List LogEntry). IsToldSelects es c.in-Tables.tables) (sym same)
    (all_told o c.self.inside.versions c.in-Tables.tables c.in-Tables.is fits told)

pub returns-in-Register : goal.returns-in-Register
returns-in-Register c =
    let o = c.args.self.now in
    let told = subst (λ (o : Logged). Tells o c.self.inside.versions) c.self.view_is c.self.invariant.tells in
    let x = c.entry-entry.result.now in
    answered_by o c.args.position x (one (as_of c.args.position _ c.in-Register.history)) c.register_answer.result c.entry-entry.ensures
    (cell_register o c.args.position c.self.inside.versions c.in-Register.history c.in-Register.is told) (c.register_answer.ensures x.choice)

pub returns-in-Store : goal.returns-in-Store
returns-in-Store c =
    let o = c.args.self.now in
    let told = subst (λ (o : Logged). Tells o c.self.inside.versions) c.self.view_is c.self.invariant.tells in
    let x = c.entry-entry.result.now in
    answered_by o c.args.position x (many (held_at c.args.position c.in-Store.histories)) c.store_answer.result c.entry-entry.ensures
    (cell_store o c.args.position c.self.inside.versions c.in-Store.histories c.in-Store.is told) (c.store_answer.ensures x.choice)

pub returns-in-Tables : goal.returns-in-Tables
returns-in-Tables c =
    let o = c.args.self.now in
    let told = subst (λ (o : Logged). Tells o c.self.inside.versions) c.self.view_is c.self.invariant.tells in
    let same = c.as_slice.ensures ∙ ap (λ (o : Logged). o.log.entries) c.self.view_is in
    let of = of_tables o c.self.inside.versions c.in-Tables.tables c.in-Tables.is told in
    let selects = told_tables o c.self.inside.versions c.in-Tables.tables c.in-Tables.is told in
    let answer = subst (λ (es : List LogEntry). IfOk c.answer_at.result (IsTablesAnswer es o.start.tables.tables c.args.position)) same
    (c.answer_at.ensures o.start.tables (subst (λ (es : List LogEntry). TellsSelects es o.start.tables c.in-Tables.tables) (sym same) selects)) in
    answered_on_tables o c.args.position c.answer_at.result of answer

pub returns-in-Clock : goal.returns-in-Clock
returns-in-Clock c =
    let o = c.args.self.now in
    let told = subst (λ (o : Logged). Tells o c.self.inside.versions) c.self.view_is c.self.invariant.tells in
    let r = cell_clock o c.args.position c.self.inside.versions c.in-Clock.is told in
    answer_by o c.args.position c.entry-entry.result.now (reading r.0) c.time_read.result c.entry-entry.ensures r.1 (c.time_read.ensures r.0)

pub returns-in-Dice : goal.returns-in-Dice
returns-in-Dice c =
    let o = c.args.self.now in
    let told = subst (λ (o : Logged). Tells o c.self.inside.versions) c.self.view_is c.self.invariant.tells in
    answer_by o c.args.position c.entry-entry.result.now none c.number_rolled.result c.entry-entry.ensures
    (cell_dice o c.args.position c.self.inside.versions c.in-Dice.is told) c.number_rolled.ensures
