-- The values of a group's members.
use Rattle.std.specs.Prelude.{◌≡◌, ◌≤◌, ◌<◌, ◌==◌, ℕ, Bool, true, false, ◌&&◌, if◌then◌else◌, List, [], ◌∷◌, length, get_or, refl}
use Rattle.std.specs.Ordering.{is_eq}
use Rattle.std.specs.Coded.{Coded, code_by, coded×, coded_bool}
use Rattle.script_tree.specs.Datum.{Datum, null}
use Rattle.script_tree.specs.DatumCode.{coded_data}
use Rattle.script_tree.specs.Order.{compare}

-- one value of all of them, or one for each in order
pub data Many : Type 0 where
  all : Datum → Many
  each : List Datum → Many

-- whether each is this one
abbrev pub same : Datum → List Datum → Bool
same d [] = true
same d (e ∷ es) = is_eq (compare d e) && same d es

-- the values of members, one where they are all equal
abbrev pub many : List Datum → Many
many ds = if same (get_or ds 0 null) ds then all (get_or ds 0 null) else each ds

-- values for each are never all equal
abbrev pub IsCanonical : Many → Type 0
IsCanonical (all d) = Unit {0}
IsCanonical (each ds) = same (get_or ds 0 null) ds ≡ false

-- a member's value
abbrev pub member_value : Many → ℕ → Datum
member_value (all d) i = d
member_value (each ds) i = get_or ds i null

-- there is one for each, and they are not all equal
abbrev pub IsSplit : Many → Type 0
IsSplit (all d) = ⊥
IsSplit (each ds) = same (get_or ds 0 null) ds ≡ false

-- it has a value for this member
abbrev pub HasMember : Many → ℕ → Type 0
HasMember (all d) i = Unit {0}
HasMember (each ds) i = i < length ds

-- there is one for each, and none for this member
abbrev pub LacksMember : Many → ℕ → Type 0
LacksMember (all d) i = ⊥
LacksMember (each ds) i = length ds ≤ i

-- it has values for n members, and for no more
abbrev pub is_for : Many → ℕ → Bool
is_for (all d) n = true
is_for (each ds) n = length ds == n

-- each member has its value of these
abbrev pub HoldsAll : List Datum → Many → Type 0
HoldsAll ds m = (i : ℕ) → i < length ds → member_value m i ≡ get_or ds i null

-- ---- how a proof stores it

-- the values as they are stored: whether there is one of all, and the values
abbrev to_pair : Many → Bool × List Datum
to_pair (all d) = (true, d ∷ [])
to_pair (each ds) = (false, ds)

-- the values that are stored in these parts
abbrev from_parts : Bool → List Datum → Many
from_parts true ds = all (get_or ds 0 null)
from_parts false ds = each ds

-- the values that are stored so
abbrev from_pair : Bool × List Datum → Many
from_pair p = from_parts p.0 p.1

-- Values that are stored come back.
pub there_and_back : (m : Many) → from_pair (to_pair m) ≡ m
there_and_back (all d) = refl
there_and_back (each ds) = refl

-- how the values of members are stored
abbrev pub coded_many : Coded Many
coded_many = code_by (Bool × List Datum) (coded× coded_bool coded_data) to_pair from_pair there_and_back
