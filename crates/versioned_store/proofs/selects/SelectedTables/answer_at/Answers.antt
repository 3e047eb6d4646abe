use Rattle.std.proofs.Common.{◌≡◌, ◌∙◌, Some, IfOk, sym, ap, subst}
use Rattle.std.specs.Option.{option_copied}
use Rattle.period.specs.declared.report.LogEntry.{LogEntry}
use Rattle.versioned_tables.specs.OverTime.{IsAnswerThen}
use Rattle.versioned_store.specs.Tables.{IsTablesAnswer}
use Rattle.versioned_store.proofs.Kept.{kept_is, computed_is, IfOk-then}
use Rattle.versioned_store.proofs.Telling.{nth_get}
use Rattle.versioned_store.proofs.selects.SelectedTables.answer_at.Goals as goal

pub returns-in-Some : goal.returns-in-Some
returns-in-Some c = λ start tells.
    let p = c.args.position in
    let entries = c.args.entries.now in
    let answer = c.in-Some.answer.now in
    let kept = c.kept_answer.ensures ∙ ap (λ o. Some (option_copied o)) c.in-Some.is in
    let is = kept_is entries start c.args.self.now p c.source.result answer tells (c.source.ensures 0) kept in
    IfOk-then c.copied.result (λ d. d ≡ answer) (IsTablesAnswer entries start.tables p)
    (λ d same. subst (IsTablesAnswer entries start.tables p) (sym same) is) c.copied.ensures

pub returns-in-None : goal.returns-in-None
returns-in-None c = λ start tells.
    let p = c.args.position in
    let entries = c.args.entries.now in
    let x = c.index-entries-position.result in
    let at = nth_get entries p x x c.requires.there c.index-entries-position.is in
    IfOk-then c.answer_at.result (IsAnswerThen x.act p c.args.self.now.tables) (IsTablesAnswer entries start.tables p)
    (λ d is. computed_is entries start c.args.self.now.tables p x d tells.tables at is)
    (subst (λ (y : LogEntry). IfOk c.answer_at.result (IsAnswerThen y.act p c.args.self.now.tables))
    (sym c.index-entries-position.is) c.answer_at.ensures)
