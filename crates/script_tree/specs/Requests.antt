-- Requests, and their limits.
use Rattle.std.specs.Prelude.{◌≡◌, ℕ, nat_le, Bool, true, ◌&&◌, List, length, Option}
use Rattle.std.specs.List.{list_all}
use Rattle.std.specs.Option.{SomeIff}
use Rattle.script_tree.specs.declared.limits.TheConstants.{MOST_REQUEST_TEXT_BYTES, MOST_PARAMETERS}
use Rattle.script_tree.specs.declared.request.Parameter.{Parameter}

-- a request, as a client sends it
pub record Request : Type 0 where
  pub method : List ℕ
  pub path : List ℕ
  pub parameters : List Parameter
  pub body : List ℕ

-- the request of these parts
abbrev pub request_with : (method path : List ℕ) → List Parameter → (body : List ℕ) → Request
request_with method path parameters body = record { method = method; path = path; parameters = parameters; body = body }

-- ---- limits

-- whether a request may have this text
abbrev pub text_fits : List ℕ → Bool
text_fits bytes = nat_le (length bytes) MOST_REQUEST_TEXT_BYTES

-- whether a request may have this parameter
abbrev pub parameter_fits : Parameter → Bool
parameter_fits p = text_fits p.name && text_fits p.value

-- whether a request may have these parameters
abbrev pub parameters_fit : List Parameter → Bool
parameters_fit ps = nat_le (length ps) MOST_PARAMETERS && list_all parameter_fits ps

-- whether all parts of a request are such as it may have
abbrev pub is_request_within_limits : Request → Bool
is_request_within_limits q = text_fits q.method && (text_fits q.path && (text_fits q.body && parameters_fit q.parameters))

-- Each part of a request is within its limit.
abbrev pub IsRequestWithinLimits : Request → Type 0
IsRequestWithinLimits q = is_request_within_limits q ≡ true

-- There is a request of these parts exactly where they are within the limits.
abbrev pub IsRequestOf : Request → Option Request → Type 0
IsRequestOf parts request = SomeIff request (IsRequestWithinLimits parts) parts
