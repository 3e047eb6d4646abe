-- How many operations a run wants.
use Rattle.std.specs.Prelude.{◌≡◌, ◌<◌, ℕ, List, length}
use Rattle.script_tree.specs.Datum.{Datum}
use Rattle.script_tree.specs.Programs.{Program}
use Rattle.script_tree.specs.Requests.{Request}
use Rattle.script_tree.specs.declared.operation.Op.{Op}
use Rattle.script_meaning.specs.Conduct.{conduct, Wants}

-- Where a run wants an operation, fewer than so many were answered.
abbrev pub AsksForAtMost : ℕ → Type 0
AsksForAtMost most =
    (program : Program) (request : Request) (answers : List Datum) (op : Op)
    → (conduct program request answers).ending ≡ Wants op → length answers < most
