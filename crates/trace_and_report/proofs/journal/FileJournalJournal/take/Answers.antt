use Rattle.std.proofs.Common.{[], ◌∷◌, sym, subst}
use Rattle.std.proofs.lemmas.List.{map-append}
use Rattle.history.specs.Names.{name, names}
use Rattle.trace_and_report.specs.Draft.{IsOfNames}
use Rattle.trace_and_report.proofs.Drafts.{on_ok}
use Rattle.trace_and_report.proofs.journal.FileJournalJournal.take.Goals as goal

pub returns : goal.returns
returns c = λ history kept.
    on_ok c.take.result (λ taken. subst (λ ns. IsOfNames ns c.take.new.self) (sym (map-append name history (c.args.happening ∷ []))) taken)
    (c.take.ensures (names history) kept)
