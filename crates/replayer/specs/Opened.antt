-- A request that is open.
use Rattle.std.specs.Prelude.{List, [], ◌∷◌, ◌++◌, refl}
use Rattle.std.specs.Coded.{Coded, code_by, coded×}
use Rattle.script_tree.specs.Datum.{Datum}
use Rattle.script_tree.specs.DatumCode.{coded_data}
use Rattle.script_tree.specs.Requests.{Request}
use Rattle.script_tree.specs.contracts.request.Request as request_type

-- the request, and the answers to its operations so far
pub record Opened : Type 0 where
  pub request : Request
  pub answers : List Datum

-- the open request with these answers so far
abbrev pub opened_with : Request → List Datum → Opened
opened_with q ds = record { request = q; answers = ds }

-- the open request with one answer more
abbrev pub with_answer : Opened → Datum → Opened
with_answer o d = opened_with o.request (o.answers ++ d ∷ [])

-- how a proof stores it
abbrev pub coded_opened : Coded Opened
coded_opened = code_by (Request × List Datum) (coded× request_type.the_row.coded coded_data)
    (λ o. (o.request, o.answers)) (λ p. opened_with p.0 p.1) (λ _. refl)
