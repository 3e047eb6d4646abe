-- What the pages of a program ask for.
use Rattle.std.specs.Prelude.{◌≡◌, List}
use Rattle.script_tree.specs.Datum.{Datum}
use Rattle.script_tree.specs.Programs.{Program}
use Rattle.script_tree.specs.Requests.{Request, IsRequestWithinLimits}
use Rattle.script_tree.specs.declared.operation.Op.{Op}
use Rattle.script_check.specs.Validity.{IsValid}
use Rattle.script_fit.specs.FitsOperation.{FitsOperation}
use Rattle.script_meaning.specs.Conduct.{conduct, Wants}

-- The operation that a page of a valid program wants fits the program, whatever the answers were.
abbrev pub AsksForWhatFits : Type 0
AsksForWhatFits = (program : Program) (request : Request) (answers : List Datum) (op : Op)
    → IsValid program → IsRequestWithinLimits request
    → (conduct program request answers).ending ≡ Wants op → FitsOperation program op
