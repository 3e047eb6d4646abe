-- Where in a list of edges those to a place stand.
use Rattle.std.specs.Prelude.{◌≡◌, ℕ, ◌<◌, ◌≤◌, Bool, not, ◌&&◌, List, length, map, Some, nat_eq}
use Rattle.std.specs.BTreeSet.{BTreeSet, contains}
use Rattle.std.specs.List.{list_any}
use Rattle.std.specs.Ordering.{nat_cmp}
use Rattle.basis.specs.Lists.{nth}
use Rattle.audit_meaning.specs.Placed.{IsIn}

-- so many edges lead to places before this one, and those behind them to it and to later ones
pub record StartsAt (edges : List (ℕ × ℕ)) (place start : ℕ) : Type 0 where
  pub within : start ≤ length edges
  pub before : (k : ℕ) (e : ℕ × ℕ) → nth edges k ≡ Some e → k < start → e.1 < place
  pub behind : (k : ℕ) (e : ℕ × ℕ) → nth edges k ≡ Some e → start ≤ k → place ≤ e.1

-- at each place of the list stands where the edges to it start
abbrev pub AreStarts : List (ℕ × ℕ) → List ℕ → Type 0
AreStarts edges starts = (place start : ℕ) → nth starts place ≡ Some start → StartsAt edges place start

-- these are the edges to a place
pub record AreEdgesTo (edges : List (ℕ × ℕ)) (place : ℕ) (found : List (ℕ × ℕ)) : Type 0 where
  pub each : (e : ℕ × ℕ) → IsIn found e → IsIn edges e × (e.1 ≡ place)
  pub all : (e : ℕ × ℕ) → IsIn edges e → e.1 ≡ place → IsIn found e

-- edges from each of these places to one
abbrev pub edges_from : List ℕ → ℕ → List (ℕ × ℕ)
edges_from sources place = map (λ a. (a, place)) sources

-- whether one of the edges comes from this place
abbrev pub is_source : List (ℕ × ℕ) → ℕ → Bool
is_source edges a = list_any (λ e. nat_eq a e.0) edges

-- The set loses these and nothing else.
abbrev pub LosesSources : List (ℕ × ℕ) → BTreeSet ℕ → BTreeSet ℕ → Type 0
LosesSources edges old new = (a : ℕ) → contains nat_cmp new a ≡ (contains nat_cmp old a && not (is_source edges a))
