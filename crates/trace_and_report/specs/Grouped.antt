-- Keys in order, each with its members in order.
use Rattle.std.specs.Prelude.{◌≢◌, Bool, List, [], ◌∷◌, ◌++◌, map, filter_map, Option, Vec, if◌then◌else◌}
use Rattle.std.specs.declared.alloc.Global.{Global}
use Rattle.basis.specs.Lists.{firsts}
use Rattle.indexmap.specs.IndexMap.{IndexMap}

-- what the code keeps
unfoldable pub groups_in : {K V S : Type 0} → IndexMap K (Vec V Global) S → List (K × List V)
groups_in groups = map (λ g. (g.0, g.1.items)) groups.entries

-- the same of one value a key
unfoldable pub entries_in : {K V S : Type 0} → IndexMap K V S → List (K × V)
entries_in values = values.entries

-- the keys of a list by their first places, each with its members there
abbrev pub grouped : {A K V : Type 0} → (K → K → Bool) → (A → Option K) → (K → A → Option V) → List A → List (K × List V)
grouped alike key_in member_in xs = map (λ k. (k, filter_map (member_in k) xs)) (firsts alike (filter_map key_in xs))

-- the same with a member more: behind those of its key, or else with a key of its own behind the others
abbrev pub and_member : {K V : Type 0} → (K → K → Bool) → K → V → List (K × List V) → List (K × List V)
and_member alike k v [] = (k, v ∷ []) ∷ []
and_member alike k v (g ∷ gs) = if alike k g.0 then (g.0, g.1 ++ v ∷ []) ∷ gs else g ∷ and_member alike k v gs

-- Each key has at least one member.
abbrev pub HaveMembers : {K V : Type 0} → List (K × List V) → Type 0
HaveMembers [] = Unit {0}
HaveMembers (g ∷ gs) = (g.1 ≢ []) × HaveMembers gs
