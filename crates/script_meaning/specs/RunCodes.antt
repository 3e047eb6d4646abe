-- How a proof stores what a run is of, and where it stands.
use Rattle.std.specs.Prelude.{◌≡◌, ℕ, List, Option, Some, None, refl}
use Rattle.std.specs.Coded.{Coded, code_by, coded×, coded_ℕ, coded_list, coded_option}
use Rattle.script_tree.specs.Datum.{Datum}
use Rattle.script_tree.specs.DatumCode.{coded_datum}
use Rattle.script_tree.specs.Programs.{Program}
use Rattle.script_tree.specs.ProgramCode.{coded_program}
use Rattle.script_tree.specs.Requests.{Request}
use Rattle.script_tree.specs.contracts.request.Request as request
use Rattle.script_meaning.specs.Evaluate.{Setting}
use Rattle.script_meaning.specs.Run.{Cost, taking, taking_request, issuing, Mark, Progress}
use Rattle.script_meaning.specs.contracts.run.Mark as mark

-- how a setting is stored
abbrev pub coded_setting : Coded Setting
coded_setting =
    code_by (Program × Request) (coded× coded_program request.the_row.coded) (λ w. (w.program, w.request))
    (λ p. record { program = p.0; request = p.1 }) (λ _. refl)

-- the request and the values that a step was spent on; nothing of an operation that is issued
abbrev cost_parts : Cost → Option (Option Request × List Datum)
cost_parts (taking ds) = Some (None, ds)
cost_parts (taking_request q ds) = Some (Some q, ds)
cost_parts issuing = None

-- the cost of what takes these values, and the request where there is one
abbrev cost_with : Option Request → List Datum → Cost
cost_with None ds = taking ds
cost_with (Some q) ds = taking_request q ds

-- the cost of these parts
abbrev cost_back : Option (Option Request × List Datum) → Cost
cost_back None = issuing
cost_back (Some p) = cost_with p.0 p.1

-- A cost is that of its parts.
pub cost_again : (c : Cost) → cost_back (cost_parts c) ≡ c
cost_again (taking ds) = refl
cost_again (taking_request q ds) = refl
cost_again issuing = refl

-- how a cost is stored
abbrev pub coded_cost : Coded Cost
coded_cost =
    code_by (Option (Option Request × List Datum)) (coded_option (coded× (coded_option request.the_row.coded) (coded_list coded_datum))) cost_parts cost_back cost_again

-- how the progress of a run is stored
abbrev pub coded_progress : Coded Progress
coded_progress =
    code_by (ℕ × (ℕ × (Option (List Cost) × (List Mark × (List Datum × (ℕ × List ℕ))))))
    (coded× coded_ℕ (coded× coded_ℕ (coded× (coded_option (coded_list coded_cost)) (coded× (coded_list mark.the_row.coded) (coded× (coded_list coded_datum) (coded× coded_ℕ (coded_list coded_ℕ)))))))
    (λ p. (p.steps, (p.operations, (p.costs, (p.trail, (p.answers, (p.status, p.body)))))))
    (λ q. record { steps = q.0; operations = q.1.0; costs = q.1.1.0; trail = q.1.1.1.0; answers = q.1.1.1.1.0; status = q.1.1.1.1.1.0; body = q.1.1.1.1.1.1 })
    (λ _. refl)
