-- The requests that a JSON tree gives where it has the shape of a file of them.
use Rattle.std.specs.Prelude.{ℕ, nat_le, Bool, ◌&&◌, List, [], ◌∷◌, length, codes, Option, Some, None, option_and_then, if◌then◌else◌}
use Rattle.std.specs.List.{list_all}
use Rattle.serde_json.specs.Data as json
use Rattle.serde_json.specs.Find.{as_object, get_member}
use Rattle.basis.specs.Options.{◌>>=◌}
use Rattle.script_tree.specs.Requests.{Request, request_with, is_request_within_limits}
use Rattle.script_tree.specs.declared.limits.TheConstants.{MOST_REQUESTS}
use Rattle.script_tree.specs.declared.request.Parameter.{Parameter}
use Rattle.json_texts.specs.Shapes.{array_of, have_names, pair_of, read_or}
use Rattle.json_texts.specs.Texts.{text_of}

-- `[name, value]`
abbrev pub parameter_of : json.Data → Option Parameter
parameter_of d = do
  pair ← pair_of d
  name ← text_of pair.0
  value ← text_of pair.1
  Some (record { name = name; value = value })

-- an array of parameters
abbrev pub parameters_of : json.Data → Option (List Parameter)
parameters_of = array_of parameter_of

-- ---- the members of a job

-- the names that a job's members may have
abbrev pub member_names : List (List ℕ)
member_names = codes "path" ∷ codes "method" ∷ codes "params" ∷ codes "body" ∷ []

-- the request of these parts, where each is there
abbrev pub job_with : Option (List ℕ) → Option (List ℕ) → Option (List Parameter) → Option (List ℕ) → Option Request
job_with method path parameters body = do
  m ← method
  p ← path
  ps ← parameters
  b ← body
  Some (request_with m p ps b)

-- what an object's members give; nothing where there is another member, or no path
abbrev pub job_in : json.Members → Option Request
job_in ms =
    if have_names member_names ms then job_with
    (read_or (codes "GET") text_of (get_member (codes "method") ms))
    (option_and_then text_of (get_member (codes "path") ms))
    (read_or [] parameters_of (get_member (codes "params") ms))
    (read_or [] text_of (get_member (codes "body") ms))
    else None

-- a job, which is an object
abbrev pub job_of : json.Data → Option Request
job_of d = as_object d >>= job_in

-- an array of jobs
abbrev pub jobs_of : json.Data → Option (List Request)
jobs_of = array_of job_of

-- ---- limits

-- whether there are no more jobs than may be, and each is within the limits
abbrev pub are_within_limits : List Request → Bool
are_within_limits jobs = nat_le (length jobs) MOST_REQUESTS && list_all is_request_within_limits jobs
