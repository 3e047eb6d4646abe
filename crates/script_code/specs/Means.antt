-- That code means its program.
use Rattle.std.specs.Prelude.{◌≡◌, ℕ, ◌+◌, List, [], Option, Some, None, option_map}
use Rattle.script_tree.specs.Datum.{Datum}
use Rattle.script_tree.specs.Declarations.{page_in}
use Rattle.script_tree.specs.Programs.{Program}
use Rattle.script_tree.specs.Requests.{Request}
use Rattle.script_meaning.specs.Conduct.{Conduct, conduct, ended, start, no_page}
use Rattle.script_meaning.specs.Costs.{keeping, costs_in, costs_of}
use Rattle.script_meaning.specs.Run.{Cost}
use Rattle.script_code.specs.Code.{Instructions, Entry}
use Rattle.script_code.specs.CodeRun.{exec}

-- what the code does with a request, within so many instructions
abbrev pub code_conduct : (functions : List ℕ) → Instructions → Option Entry → Request → List Datum → ℕ → Conduct
code_conduct functions code None request answers k = no_page answers
code_conduct functions code (Some entry) request answers k = ended entry.number (exec request functions code k [] entry.place [] [] (start answers))

-- what the steps of the code were spent on, within so many instructions
abbrev pub code_costs : (functions : List ℕ) → Instructions → Option Entry → Request → List Datum → ℕ → List Cost
code_costs functions code None request answers k = []
code_costs functions code (Some entry) request answers k = costs_in (exec request functions code k [] entry.place [] [] (keeping (Some []) (start answers)))

-- For any request and answers the code does what the program does, from some number of instructions on.
pub record Means (program : Program) (functions : List ℕ) (code : Instructions) (pages : List ℕ → Option Entry) : Type 0 where
  pub conducts : (request : Request) (answers : List Datum)
      → (enough : ℕ) × ((k : ℕ) → code_conduct functions code (pages request.path) request answers (enough + k) ≡ conduct program request answers)
  -- and spends its steps on the same
  pub charges : (request : Request) (answers : List Datum)
      → (enough : ℕ) × ((k : ℕ) → code_costs functions code (pages request.path) request answers (enough + k) ≡ costs_of program request answers)
  -- and numbers its pages so
  pub numbers : (path : List ℕ) → option_map (λ entry. entry.number) (pages path) ≡ option_map (λ page. page.number) (page_in program path)
