-- What JSON trees of a shape give.
use Rattle.std.specs.Prelude.{◌≡◌, ℕ, ℤ, Bool, true, false, ◌&&◌, ◌||◌, List, [], ◌∷◌, Option, Some, None}
use Rattle.std.specs.List.{list_any}
use Rattle.std.specs.Map.{keys_of}
use Rattle.std.specs.Str.{bytes_eq}
use Rattle.serde_json.specs.Data as json
use Rattle.serde_json.specs.Find.{as_array, as_object, as_number, as_i64}
use Rattle.basis.specs.Options.{◌>>=◌}

-- a whole number that 64 bits hold
abbrev pub whole_number_of : json.Data → Option ℤ
whole_number_of d = as_number d >>= as_i64

-- ---- arrays

-- what each item gives; nothing where one gives nothing
abbrev pub all_of : {A : Type 0} → (json.Data → Option A) → json.Items → Option (List A)
all_of read json.no_items = Some []
all_of read (json.item d items) = do
  first ← read d
  rest ← all_of read items
  Some (first ∷ rest)

-- what the items of an array give
abbrev pub array_of : {A : Type 0} → (json.Data → Option A) → json.Data → Option (List A)
array_of read d = as_array d >>= all_of read

-- both items, where there are two
abbrev pub pair_in : json.Items → Option (json.Data × json.Data)
pair_in json.no_items = None
pair_in (json.item first json.no_items) = None
pair_in (json.item first (json.item second json.no_items)) = Some (first, second)
pair_in (json.item first (json.item second (json.item third items))) = None

-- the items of an array of two
abbrev pub pair_of : json.Data → Option (json.Data × json.Data)
pair_of d = as_array d >>= pair_in

-- ---- objects

-- what has a name
abbrev pub Named : Type 0 → Type 0
Named A = List ℕ × A

-- what each member gives, with its name; nothing where one gives nothing
abbrev pub each_of : {A : Type 0} → (json.Data → Option A) → json.Members → Option (List (Named A))
each_of read json.no_members = Some []
each_of read (json.member name d ms) = do
  first ← read d
  rest ← each_of read ms
  Some ((name, first) ∷ rest)

-- what the members of an object give, with their names
abbrev pub object_of : {A : Type 0} → (json.Data → Option A) → json.Data → Option (List (Named A))
object_of read d = as_object d >>= each_of read

-- what a member gives, or this where there is none
abbrev pub read_or : {A : Type 0} → A → (json.Data → Option A) → Option json.Data → Option A
read_or otherwise read None = Some otherwise
read_or otherwise read (Some d) = read d

-- ---- names

-- whether each member has one of these names
abbrev pub have_names : List (List ℕ) → json.Members → Bool
have_names names json.no_members = true
have_names names (json.member name d ms) = list_any (bytes_eq name) names && have_names names ms

-- whether a name stands twice
abbrev pub has_twice : List (List ℕ) → Bool
has_twice [] = false
has_twice (name ∷ names) = list_any (bytes_eq name) names || has_twice names

-- No name stands twice.
abbrev pub StandOnce : {A : Type 0} → List (Named A) → Type 0
StandOnce given = has_twice (keys_of given) ≡ false
