-- When a run is defined: it has no more answers than operations.
use Rattle.std.specs.Prelude.{◌≡◌, ◌≢◌, List, [], ◌∷◌, ◌++◌}
use Rattle.script_tree.specs.Datum.{Datum}
use Rattle.script_tree.specs.Programs.{Program}
use Rattle.script_tree.specs.Requests.{Request}
use Rattle.script_tree.specs.declared.operation.Op.{Op}
use Rattle.script_meaning.specs.declared.run.Mark.{Mark}
use Rattle.script_meaning.specs.declared.run.Mark.TheVariants.{Issued}
use Rattle.script_meaning.specs.Conduct.{conduct, Wants, Undefined}

-- A run without answers is defined, and one with an answer more to the operation that it wants.
pub record IsAnsweredInTurn : Type 0 where
  pub first : (program : Program) (request : Request) → (conduct program request []).ending ≢ Undefined
  pub next :
      (program : Program) (request : Request) (answers : List Datum) (d : Datum) (op : Op)
      → (conduct program request answers).ending ≡ Wants op → (conduct program request (answers ++ d ∷ [])).ending ≢ Undefined
  -- its trail goes on behind that operation
  pub extends :
      (program : Program) (request : Request) (answers : List Datum) (d : Datum) (op : Op)
      → (conduct program request answers).ending ≡ Wants op
      → (ms : List Mark) × ((conduct program request (answers ++ d ∷ [])).trail ≡ (conduct program request answers).trail ++ Issued op ∷ ms)
