-- What the steps of a group cost.
use Rattle.std.specs.Prelude.{ℕ, zero, suc, ◌+◌, Bool, true, false, ◌&&◌, if◌then◌else◌, List, [], ◌∷◌, length}
use Rattle.std.specs.List.{list_all}
use Rattle.std.specs.Str.{bytes_eq}
use Rattle.basis.specs.Lists.{each}
use Rattle.script_tree.specs.Alike.{same_datum}
use Rattle.script_tree.specs.Requests.{Request}
use Rattle.script_tree.specs.declared.request.Parameter.{Parameter}
use Rattle.script_meaning.specs.Run.{Cost, taking, taking_request, issuing}

-- ---- equal costs

-- whether two parameters are alike
abbrev pub same_parameter : Parameter → Parameter → Bool
same_parameter p q = bytes_eq p.name q.name && bytes_eq p.value q.value

-- whether two requests are alike
abbrev pub same_request : Request → Request → Bool
same_request a b = (bytes_eq a.method b.method && bytes_eq a.path b.path) && (bytes_eq a.body b.body && each same_parameter a.parameters b.parameters)

-- an operation that is issued is like no other step
abbrev pub same_cost : Cost → Cost → Bool
same_cost (taking ds) (taking es) = each same_datum ds es
same_cost (taking_request q ds) (taking_request r es) = same_request q r && each same_datum ds es
same_cost (taking ds) (taking_request r es) = false
same_cost (taking ds) issuing = false
same_cost (taking_request q ds) (taking es) = false
same_cost (taking_request q ds) issuing = false
same_cost issuing c = false

-- ---- a group

-- a step costs 1 where all members take the same, else 1 for each
abbrev pub step_cost : List Cost → ℕ
step_cost [] = 0
step_cost (c ∷ cs) = if list_all (same_cost c) (c ∷ cs) then 1 else length (c ∷ cs)

-- the first of each, as far as there is one
abbrev pub heads : List (List Cost) → List Cost
heads [] = []
heads ([] ∷ css) = heads css
heads ((c ∷ cs) ∷ css) = c ∷ heads css

-- the others of each
abbrev pub tails : List (List Cost) → List (List Cost)
tails [] = []
tails ([] ∷ css) = [] ∷ tails css
tails ((c ∷ cs) ∷ css) = cs ∷ tails css

-- the first so many steps of members
abbrev pub cost_of : ℕ → List (List Cost) → ℕ
cost_of zero css = 0
cost_of (suc n) css = step_cost (heads css) + cost_of n (tails css)

-- how many steps the first member spent
abbrev pub first_length : List (List Cost) → ℕ
first_length [] = 0
first_length (cs ∷ css) = length cs

-- Of members that spent equally many steps: the sum of what their steps cost.
abbrev pub group_cost : List (List Cost) → ℕ
group_cost css = cost_of (first_length css) css
