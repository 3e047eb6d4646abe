-- That a run that keeps its costs is the same run.
use Rattle.std.specs.Prelude.{◌≡◌, List, Option}
use Rattle.script_tree.specs.Datum.{Datum}
use Rattle.script_tree.specs.Declarations.{NumberedPage}
use Rattle.script_tree.specs.Programs.{Program}
use Rattle.script_tree.specs.Requests.{Request}
use Rattle.script_meaning.specs.Conduct.{start, ended}
use Rattle.script_meaning.specs.Run.{Cost}
use Rattle.script_meaning.specs.Costs.{keeping, page_run}

-- It leaves the same trail, and has the same ending.
pub record KeepingChangesNothing : Type 0 where
  pub same : (program : Program) (request : Request) (answers : List Datum) (page : NumberedPage) (kept : Option (List Cost))
      → ended page.number (page_run program request (keeping kept (start answers)) page) ≡ ended page.number (page_run program request (start answers) page)
