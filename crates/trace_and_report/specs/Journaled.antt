-- What a journal of files keeps of a history.
use Rattle.std.specs.Prelude.{List}
use Rattle.history.specs.Names.{names}
use Rattle.history.specs.declared.happening.Happening.{Happening}
use Rattle.trace_and_report.specs.Draft.{IsOfNames}
use Rattle.trace_and_report.specs.declared.journal.FileJournal.{FileJournal}

-- Its draft is of the history's names.
abbrev pub Keeps : List Happening → FileJournal → Type 0
Keeps history journal = IsOfNames (names history) journal.draft
