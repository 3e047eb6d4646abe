-- A request of the code, as definitions see it.
use Rattle.script_tree.specs.Requests.{Request, IsRequestWithinLimits}
use Rattle.script_tree.specs.declared.request.Request.TheInside.{Inside}

-- the request that a request of the code stands for
abbrev pub request_of : Inside → Request
request_of q = record { method = q.method; path = q.path; parameters = q.parameters; body = q.body }

-- A request of the code is within the limits of a request.
abbrev pub IsWithinLimits : Inside → Type 0
IsWithinLimits q = IsRequestWithinLimits (request_of q)
