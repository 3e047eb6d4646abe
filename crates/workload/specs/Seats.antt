-- The seats that a JSON tree numbers where it has the shape of a file of turns.
use Rattle.std.specs.Prelude.{ℤ, pos, negsuc, nat_lt, Bool, false, List, Option}
use Rattle.std.specs.List.{list_all}
use Rattle.serde_json.specs.Data as json
use Rattle.json_texts.specs.Shapes.{array_of, whole_number_of}
use Rattle.workload.specs.declared.limits.TheConstants.{SEATS}

-- an array of whole numbers
abbrev pub numbers_of : json.Data → Option (List ℤ)
numbers_of = array_of whole_number_of

-- whether a seat has this number
abbrev pub is_seat : ℤ → Bool
is_seat (pos n) = nat_lt n SEATS
is_seat (negsuc n) = false

-- whether each number is one of a seat
abbrev pub are_seats : List ℤ → Bool
are_seats numbers = list_all is_seat numbers
