-- What each step of a run was spent on.
use Rattle.std.specs.Prelude.{ℕ, ◌+◌, List, [], Option, Some, None}
use Rattle.script_tree.specs.Datum.{Datum}
use Rattle.script_tree.specs.Declarations.{NumberedPage, page_in}
use Rattle.script_tree.specs.Programs.{Program}
use Rattle.script_tree.specs.Requests.{Request}
use Rattle.script_tree.specs.SyntaxLists.{statements_of}
use Rattle.script_tree.specs.declared.limits.TheConstants.{MOST_STEPS}
use Rattle.script_meaning.specs.Conduct.{start}
use Rattle.script_meaning.specs.Evaluate.{Flow, run}
use Rattle.script_meaning.specs.Run.{Cost, Progress, Ran, goes, stops}

-- the same, which keeps these costs
abbrev pub keeping : Option (List Cost) → Progress → Progress
keeping kept p = record p { costs = kept }

-- the run of a page
abbrev pub page_run : Program → Request → Progress → NumberedPage → Ran Flow
page_run program request p page = run (record { program = program; request = request }) (MOST_STEPS + 1) 0 (statements_of page.body) [] p

-- the costs that are kept, if any
abbrev pub kept_in : Option (List Cost) → List Cost
kept_in None = []
kept_in (Some cs) = cs

-- the costs that a run has kept so far, whether it goes on or stops
abbrev pub costs_in : Ran Flow → List Cost
costs_in (goes flow p) = kept_in p.costs
costs_in (stops e p) = kept_in p.costs

-- the costs of a request on the page that was found, where one was
abbrev pub costs_on : Program → Request → List Datum → Option NumberedPage → List Cost
costs_on program request answers None = []
costs_on program request answers (Some page) = costs_in (page_run program request (keeping (Some []) (start answers)) page)

-- what the steps of a request were spent on, where these are the answers to its operations; the last first
abbrev pub costs_of : Program → Request → List Datum → List Cost
costs_of program request answers = costs_on program request answers (page_in program request.path)
