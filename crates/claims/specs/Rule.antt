-- What holds between any two steps, of the words and of what all seats know.
use Rattle.std.specs.Prelude.{◌≡◌, ℕ, ◌+◌, ◌<◌, ◌≤◌, [], ◌∷◌, All, IsPermutation, true, if◌then◌else◌, min, sum_by}
use Rattle.std.specs.List.{flat_map}
use Rattle.atomic_table.specs.Table.{State}
use Rattle.claims.specs.declared.view.View.{View}
use Rattle.claims.specs.Lists.{numbers_below, IsLeastOf}
use Rattle.claims.specs.Views.{all_parts}

-- the parts of a seat that may still draw
abbrev pub drawing_parts : View → ℕ
drawing_parts v = if v.none_left then 0 else v.parts

-- What the seat was told is so, and one that another took in has nothing.
pub record IsTrueOf (limit next least : ℕ) (v : View) : Type 0 where
  pub none_left : v.none_left ≡ true → limit ≤ next
  pub bound : 0 < v.parts → least ≤ v.bound
  pub drew_none : v.parts ≡ 0 → v.drawn ≡ []
  pub lowered_none : v.parts ≡ 0 → v.lowered ≡ []

-- The words are the next number and the least, and the numbers below both the next one and the limit were drawn, each once.
pub record IsKept (limit : ℕ) (s : State (Unit {0}) View) : Type 0 where
  pub next : ℕ
  pub least : ℕ
  pub words : s.words ≡ next ∷ least ∷ []
  pub once : IsPermutation (flat_map (λ v. v.drawn) s.views) (numbers_below (min next limit))
  pub lowest : IsLeastOf (limit ∷ flat_map (λ v. v.lowered) s.views) least
  pub whole : sum_by (λ v. v.parts) s.views ≡ all_parts
  -- so the next number never begins again at 0
  pub room : next + sum_by drawing_parts s.views ≤ limit + all_parts
  pub seats : All (IsTrueOf limit next least) s.views
