-- How a proof stores where a call goes on.
use Rattle.std.specs.Prelude.{ℕ, List, refl}
use Rattle.std.specs.Coded.{Coded, code_by, coded×, coded_ℕ, coded_list}
use Rattle.script_tree.specs.Datum.{Datum}
use Rattle.script_tree.specs.DatumCode.{coded_datum}
use Rattle.script_code.specs.CodeRun.{Frame}

-- where a call goes on, as a number
abbrev pub coded_frame : Coded Frame
coded_frame =
    code_by (ℕ × (List Datum × List Datum)) (coded× coded_ℕ (coded× (coded_list coded_datum) (coded_list coded_datum)))
    (λ f. (f.place, (f.stack, f.slots))) (λ p. record { place = p.0; stack = p.1.0; slots = p.1.1 }) (λ _. refl)
