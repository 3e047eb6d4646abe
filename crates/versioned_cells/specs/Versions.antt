-- What stood somewhere over time.
use Rattle.std.specs.Prelude.{◌≡◌, ◌≢◌, ◌≤◌, ℕ, nat_le, List, [], ◌∷◌, ◌++◌, if◌then◌else◌, reverse, Bool, Option, None, unwrap_or}
use Rattle.std.specs.BTreeMap.{is_at}
use Rattle.std.specs.Cmp.Lexicographic.{slice_cmp}
use Rattle.std.specs.List.{All}
use Rattle.std.specs.List.Sorted.{IsNonDecreasingBy}
use Rattle.std.specs.Map.{lookup}
use Rattle.std.specs.Option.{option_eq}
use Rattle.std.specs.Ordering.{nat_cmp}
use Rattle.std.specs.Str.{bytes_eq}

-- Versions with the positions from which they stand. None is where nothing stands.
abbrev pub Versions : Type 0 → Type 0
Versions X = List (ℕ × Option X)

-- What stands at a position, where this stood before: what the last version says that is from then or before.
abbrev pub as_of : {X : Type 0} → ℕ → Option X → Versions X → Option X
as_of p before [] = before
as_of p before (v ∷ vs) = as_of p (if nat_le v.0 p then v.1 else before) vs

-- each is from its position or a later one than the one before it
abbrev pub IsRising : {X : Type 0} → Versions X → Type 0
IsRising vs = IsNonDecreasingBy (λ v. v.0) vs

-- none is from later
abbrev pub AreUntil : {X : Type 0} → ℕ → Versions X → Type 0
AreUntil p vs = All (λ v. v.0 ≤ p) vs

-- Each is another than what stood before it.
abbrev pub AreChanges : {X : Type 0} → Option X → Versions X → Type 0
AreChanges before [] = Unit {0}
AreChanges before (v ∷ vs) = (v.1 ≢ before) × AreChanges v.1 vs

-- ---- under keys

-- keys with their versions
abbrev pub VersionsByKey : Type 0 → Type 0
VersionsByKey X = List (List ℕ × Versions X)

-- the versions of a key; none where the key isn't there
abbrev pub history_at : {X : Type 0} → List ℕ → VersionsByKey X → Versions X
history_at k es = unwrap_or (lookup (is_at (slice_cmp nat_cmp k)) es) []

-- what stands at a position under each key
abbrev pub held_at : {X : Type 0} → ℕ → VersionsByKey X → List ℕ → Option X
held_at p es k = as_of p None (history_at k es)

-- no version of any key is from later
abbrev pub AreAllUntil : {X : Type 0} → ℕ → VersionsByKey X → Type 0
AreAllUntil p es = (k : List ℕ) → AreUntil p (history_at k es)

-- This key has a version more, and every other one the versions it had.
abbrev pub Notes : {X : Type 0} → ℕ → List ℕ → Option X → VersionsByKey X → VersionsByKey X → Type 0
Notes since key value old new =
    (k : List ℕ) → history_at k new ≡ (if bytes_eq k key then history_at k old ++ (since, value) ∷ [] else history_at k old)

-- ---- a value that may stand already, by a test of equal values

-- the versions of a cell, and one more where another value stands
abbrev pub changed : {X : Type 0} → (X → X → Bool) → ℕ → Option X → Versions X → Versions X
changed eq since value vs = if option_eq eq (as_of since None vs) value then vs else vs ++ (since, value) ∷ []

-- This key has changed so, and every other one has the versions it had.
abbrev pub Changes : {X : Type 0} → (X → X → Bool) → ℕ → List ℕ → Option X → VersionsByKey X → VersionsByKey X → Type 0
Changes eq since key value old new =
    (k : List ℕ) → history_at k new ≡ (if bytes_eq k key then changed eq since value (history_at k old) else history_at k old)

-- ---- pairs of keys and versions

-- under each key stands what the last of these pairs says
abbrev pub AreLast : {X : Type 0} → VersionsByKey X → VersionsByKey X → Type 0
AreLast pairs es = (k : List ℕ) → history_at k es ≡ history_at k (reverse pairs)
