-- What each member of a group has, and whether all have the same.
use Rattle.std.specs.Prelude.{ℕ, zero, suc, Bool, true, ◌&&◌, List, [], ◌∷◌, get_or, Result}
use Rattle.std.specs.List.{list_all}
use Rattle.script_tree.specs.Alike.{same_datum}
use Rattle.script_tree.specs.Datum.{Datum}
use Rattle.script_tree.specs.Requests.{Request, request_with}
use Rattle.script_tree.specs.declared.fault.ScriptFault.{ScriptFault}
use Rattle.script_meaning.specs.GroupCost.{same_request}
use Rattle.script_values.specs.declared.builtins.Called.{Called}
use Rattle.script_nodes.specs.Evaluated.{evaluated}
use Rattle.script_nodes.specs.declared.primitive.Primitive.{Primitive}
use Rattle.multivalue.specs.Many.{Many, member_value}

-- a member's values
abbrev pub members_at : ℕ → List Many → List Datum
members_at i [] = []
members_at i (m ∷ ms) = member_value m i ∷ members_at i ms

-- stands where there is no request
abbrev pub nobody : Request
nobody = request_with [] [] [] []

-- a member's request
abbrev pub request_at : List Request → ℕ → Request
request_at qs i = get_or qs i nobody

-- what a member's node comes to
abbrev pub answer_at : List Request → Primitive → List Many → ℕ → Result Called ScriptFault
answer_at qs p ms i = evaluated (request_at qs i) p (members_at i ms)

-- ---- the same for all

-- each number below n is so
abbrev pub all_below : ℕ → (ℕ → Bool) → Bool
all_below zero p = true
all_below (suc n) p = all_below n p && p n

-- n members have one value here
abbrev pub is_shared : ℕ → Many → Bool
is_shared n m = all_below n (λ i. same_datum (member_value m 0) (member_value m i))

-- all have the first one's request
abbrev pub alike_in : List Request → Bool
alike_in qs = list_all (same_request (request_at qs 0)) qs
