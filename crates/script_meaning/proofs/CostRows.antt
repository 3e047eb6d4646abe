-- What steps are spent on, computed of small pages, the last step first.
use Rattle.std.proofs.Common.{◌≡◌, ◌+◌, List, [], ◌∷◌, Option, Some, codes, pos, refl}
use Rattle.std.specs.Fmt.{digits}
use Rattle.script_tree.specs.Datum as v
use Rattle.script_tree.specs.Datum.{Datum, data_of}
use Rattle.script_tree.specs.Programs.{program_of}
use Rattle.script_tree.specs.Requests.{Request}
use Rattle.script_tree.specs.Syntax.{Statement, echo, do_, for_, list, no_expression, expression, no_statement}
use Rattle.script_tree.specs.SyntaxLists.{statements_of}
use Rattle.script_tree.specs.declared.limits.TheConstants.{MOST_STEPS}
use Rattle.script_meaning.specs.Conduct.{start}
use Rattle.script_meaning.specs.Evaluate.{Flow, run}
use Rattle.script_meaning.specs.Run.{Cost, taking, taking_request, issuing, Ran, goes, stops}
use Rattle.script_meaning.proofs.Programs as p

abbrev costs_in : Ran Flow → Option (List Cost)
costs_in (goes flow q) = q.costs
costs_in (stops stop q) = q.costs

abbrev asked : Request
asked = p.get (codes "/p")

-- what the steps of a page are spent on, with these answers
abbrev costs_of : List Statement → List Datum → Option (List Cost)
costs_of body answers =
    costs_in (run (record { program = program_of []; request = asked }) (MOST_STEPS + 1) 0 (statements_of body) [] (record (start answers) { costs = Some [] }))

-- echo 1 + 2;
of_values : costs_of (echo 0 (p.sum (p.num 1) (p.num 2)) ∷ []) []
    ≡ Some (taking (v.number (pos 3) ∷ []) ∷ taking (v.number (pos 1) ∷ v.number (pos 2) ∷ []) ∷ taking [] ∷ taking [] ∷ [])
unfolding digits
of_values = refl

-- do read("a"); echo param("b");
of_calls : costs_of (do_ 0 (p.call1 (codes "read") (p.str (codes "a"))) ∷ echo 0 (p.call1 (codes "param") (p.str (codes "b"))) ∷ []) (v.null ∷ [])
    ≡ Some (taking (v.null ∷ []) ∷ taking_request asked (v.text (codes "b") ∷ []) ∷ taking [] ∷ taking (v.null ∷ []) ∷ issuing ∷ taking [] ∷ [])
of_calls = refl

seven : Datum
seven = v.number (pos 7)

-- for x in [7] { }
of_a_list : costs_of (for_ 0 (p.name (codes "x")) (list 0 (expression (p.num 7) no_expression)) no_statement ∷ []) []
    ≡ Some (taking (v.list (data_of (seven ∷ [])) ∷ []) ∷ taking (v.list (data_of (seven ∷ [])) ∷ []) ∷ taking (seven ∷ []) ∷ taking [] ∷ [])
unfolding seven
of_a_list = refl
