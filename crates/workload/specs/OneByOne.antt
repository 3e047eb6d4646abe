-- What tokens give where the jobs of a file are read one by one. Private clauses alone speak of it.
use Rattle.std.specs.Prelude.{◌≡◌, ◌-◌, List, length, Some}
use Rattle.json.specs.Token.{Token}
use Rattle.json.specs.Json.{Json, Items, Parse, value, items}
use Rattle.serde_json.specs.Data as tree
use Rattle.serde_json.specs.Read.{of_json, of_items, max_depth}
use Rattle.script_tree.specs.Requests.{Request}
use Rattle.json_texts.specs.Shapes.{all_of}
use Rattle.workload.specs.Jobs.{job_of}

-- The value is a job, which gives this request.
abbrev pub GivesJob : Json → Request → Type 0
GivesJob j request = (d : tree.Data) × (of_json j ≡ Some d) × (job_of d ≡ Some request)

-- The items are jobs, which give these requests.
abbrev pub GiveJobs : Items → List Request → Type 0
GiveJobs js requests = (ds : tree.Items) × (of_items js ≡ Some ds) × (all_of job_of ds ≡ Some requests)

-- an item of the array that a whole text is: it lies a level below
abbrev pub item_of_text : Parse Json
item_of_text = value (max_depth - 1)

-- The tokens begin with a job, which gives this request, and go on with these.
abbrev pub BeginWithJob : List Token → Request → List Token → Type 0
BeginWithJob tokens request left = (j : Json) × (item_of_text tokens ≡ Some (j, left)) × GivesJob j request

-- The tokens begin with jobs, which give these requests, and the end of their array, and go on with these.
abbrev pub BeginWithJobs : List Token → List Request → List Token → Type 0
BeginWithJobs tokens requests left = (js : Items) × (items item_of_text (length tokens) tokens ≡ Some (js, left)) × GiveJobs js requests
