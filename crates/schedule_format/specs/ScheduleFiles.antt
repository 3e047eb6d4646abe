-- A schedule that lies as its file has it.
use Rattle.std.specs.Prelude.{◌≡◌, ℕ, List, map, Some}
use Rattle.std.specs.Coded.{Coded-set, coded_list}
use Rattle.std.proofs.Math.Path.{Σ_path}
use Rattle.std.proofs.Math.Logic.{∥∥₁_elim, ∥∥₁_prop}
use Rattle.basis.specs.Lists.{nth}
use Rattle.period.specs.declared.schedule.Moment.{Moment}
use Rattle.period.specs.contracts.schedule.Moment as item
use Rattle.schedule_format.specs.Moments.{IsMoment, moment_spelling}

-- The payloads of the records spell these moments, and each may stand in a schedule.
pub record AreSpelled (payloads : List (List ℕ)) (moments : List Moment) : Type 0 where
  pub spelled : payloads ≡ map moment_spelling moments
  pub allowed : (i : ℕ) (m : Moment) → nth moments i ≡ Some m → IsMoment m

-- They spell these moments and no others.
pub record AreAllSpelled (payloads : List (List ℕ)) (moments : List Moment) : Type 0 where
  pub these : AreSpelled payloads moments
  pub only : (others : List Moment) → AreSpelled payloads others → others ≡ moments

-- the moments that payloads spell
abbrev pub Spelled : List (List ℕ) → Type 0
Spelled payloads = (moments : List Moment) × ∥ AreAllSpelled payloads moments ∥₁

-- Two such lists of the same payloads are one.
same_moments : (ps : List (List ℕ)) (xs ys : List Moment) → ∥ AreAllSpelled ps xs ∥₁ → ∥ AreAllSpelled ps ys ∥₁ → xs ≡ ys
same_moments ps xs ys p q =
    let set = Coded-set (coded_list item.the_row.coded) xs ys in
    ∥∥₁_elim p set (λ a. ∥∥₁_elim q set (λ b. b.only xs a.these))

-- There is at most one list of moments that payloads spell.
pub spelled_once : (ps : List (List ℕ)) → IsProp (Spelled ps)
spelled_once ps x y =
    let same : x.0 ≡ y.0 = same_moments ps x.0 y.0 x.1 y.1 in
    Σ_path same (λ i. ∥∥₁_prop (coe 0 i (j. ∥ AreAllSpelled ps (same j) ∥₁) x.1) (coe 1 i (j. ∥ AreAllSpelled ps (same j) ∥₁) y.1) i)
