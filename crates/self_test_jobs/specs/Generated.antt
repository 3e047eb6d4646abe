-- The jobs of a self test.
use Rattle.std.specs.Prelude.{ℕ, zero, suc, ◌+◌, ◌*◌, ◌/◌, ◌%◌, ◌^◌, ◌==◌, List, [], ◌∷◌, codes, if◌then◌else◌}
use Rattle.std.specs.Fmt.{decimal}
use Rattle.script_tree.specs.Requests.{Request, request_with}
use Rattle.script_tree.specs.declared.request.Parameter.{Parameter}
use Rattle.self_test_jobs.specs.declared.TheConstants.{MULTIPLIER, INCREMENT}

-- ---- draws

-- what x is after one more draw
abbrev pub next : ℕ → ℕ
next x = (x * MULTIPLIER + INCREMENT) % 2 ^ 64

-- the upper half of a number of 64 bits
abbrev pub upper_half : ℕ → ℕ
upper_half x = x / 2 ^ 32

-- ---- the job of a drawn number

-- its path, one of four
abbrev pub path_drawn : ℕ → List ℕ
path_drawn d =
    if d % 4 == 0 then codes "/hit"
    else (if d % 4 == 1 then codes "/put"
    else (if d % 4 == 2 then codes "/get" else codes "/row"))

-- its parameters: none, or `k` with one of eight values
abbrev pub parameters_drawn : ℕ → List Parameter
parameters_drawn d = if d % 4 == 0 then [] else record { name = codes "k"; value = decimal (d / 4 % 8) } ∷ []

-- the request of a drawn number
abbrev pub request_drawn : ℕ → Request
request_drawn d = request_with (codes "GET") (path_drawn d) (parameters_drawn d) []

-- ---- the jobs

-- the requests of so many draws, from x on
abbrev pub drawn_from : ℕ → ℕ → List Request
drawn_from zero x = []
drawn_from (suc left) x = request_drawn (upper_half (next x)) ∷ drawn_from left (next x)

-- the requests of a self test of so many jobs
abbrev pub generated : ℕ → List Request
generated n = drawn_from n n
