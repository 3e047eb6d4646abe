-- The moments that the payloads of a file spell.
use Rattle.std.proofs.Common.{◌≡◌, ◌∙◌, ℕ, zero, suc, List, [], ◌∷◌, ◌++◌, map, length, Some, ap, sym, refl, subst}
use Rattle.std.proofs.Math.Logic.{∥∥₁_elim}
use Rattle.std.proofs.Math.Nat.{ℕ_set}
use Rattle.std.proofs.lemmas.List.{length-map}
use Rattle.std.specs.Coded.{Coded-set, coded_option}
use Rattle.basis.specs.Lists.{nth}
use Rattle.basis.proofs.Options.{some_is, none_is_not}
use Rattle.period.specs.declared.schedule.Moment.{Moment}
use Rattle.period.specs.contracts.schedule.Moment as item
use Rattle.wire.specs.Files.{MayFollow, Spells}
use Rattle.wire.specs.Recorded.{SpellsPayloads}
use Rattle.wire.specs.Spellings.{IsFieldAt, NoneIsAt}
use Rattle.wire.proofs.FileSteps.{start_there}
use Rattle.wire.proofs.Spelled.{same_field}
use Rattle.schedule_format.specs.Moments.{IsMoment, moment_field, moment_spelling, schedule_format}
use Rattle.schedule_format.specs.ScheduleFiles.{Spelled, spelled_once}
use Rattle.schedule_format.proofs.MomentFields.{moment_one}

-- ---- one list of moments

same_moment : (x y : Moment) → IsMoment x → IsMoment y → moment_spelling x ≡ moment_spelling y → x ≡ y
same_moment x y p q e = (moment_one x y [] [] p q (ap (λ (s : List ℕ). s ++ []) e)).0

first_is : (a b : List ℕ) (more others : List (List ℕ)) → a ∷ more ≡ b ∷ others → a ≡ b
first_is a b more others e = cc

rest_are : (a b : List ℕ) (more others : List (List ℕ)) → a ∷ more ≡ b ∷ others → more ≡ others
rest_are a b more others e = cc

abbrev AllMoments : List Moment → Type 0
AllMoments xs = (i : ℕ) (m : Moment) → nth xs i ≡ Some m → IsMoment m

same_all : (xs ys : List Moment) → AllMoments xs → AllMoments ys → map moment_spelling xs ≡ map moment_spelling ys → xs ≡ ys
same_all [] [] p q e = refl
same_all [] (y ∷ ys) p q e = absurd cc
same_all (x ∷ xs) [] p q e = absurd cc
same_all (x ∷ xs) (y ∷ ys) p q e =
    let first : x ≡ y = same_moment x y (p 0 x refl) (q 0 y refl) (first_is (moment_spelling x) (moment_spelling y) (map moment_spelling xs) (map moment_spelling ys) e) in
    let rest : xs ≡ ys = same_all xs ys (λ i. p (suc i)) (λ i. q (suc i)) (rest_are (moment_spelling x) (moment_spelling y) (map moment_spelling xs) (map moment_spelling ys) e) in
    ap (λ z. z ∷ xs) first ∙ ap (λ zs. y ∷ zs) rest

all_allowed : (before xs : List Moment) → MayFollow schedule_format before xs → AllMoments xs
all_allowed before [] p i m here = absurd (none_is_not here)
all_allowed before (x ∷ xs) p zero m here = subst IsMoment (some_is here) p.0.0
all_allowed before (x ∷ xs) p (suc i) m here = all_allowed (before ++ x ∷ []) xs p.1 i m here

pub are_spelled : (bytes : List ℕ) (ps : List (List ℕ)) → SpellsPayloads schedule_format bytes ps → Spelled ps
are_spelled bytes ps s =
    let allowed = all_allowed [] s.items s.spelled.allowed in (
      s.items,
      ∣ record {
        these = record { spelled = s.payloads_are; allowed = allowed };
        only = λ others o. same_all others s.items o.allowed allowed (sym o.spelled ∙ s.payloads_are);
      } ∣₁,
    )

-- the file spells them
pub read_moments : (bytes : List ℕ) (ps : List (List ℕ)) → SpellsPayloads schedule_format bytes ps → (s : Spelled ps) → Spells schedule_format bytes s.0
unfolding are_spelled
read_moments bytes ps payloads s =
    subst (Spells schedule_format bytes) (ap (λ (t : Spelled ps). t.0) (spelled_once ps (are_spelled bytes ps payloads) s)) payloads.spelled

-- ---- the moment of a payload

pub as_many : (ps : List (List ℕ)) (s : Spelled ps) → length ps ≡ length s.0
as_many ps s = ∥∥₁_elim s.1 (ℕ_set (length ps) (length s.0)) (λ a. ap length a.these.spelled ∙ length-map s.0 moment_spelling)

found : (xs : List Moment) (i : ℕ) (p : List ℕ) → nth (map moment_spelling xs) i ≡ Some p → (m : Moment) × (nth xs i ≡ Some m) × (moment_spelling m ≡ p)
found [] i p here = absurd (none_is_not here)
found (x ∷ xs) zero p here = (x, refl, some_is here)
found (x ∷ xs) (suc i) p here = found xs i p here

-- what follows from the moment that stands at the start of a payload, where it has one proof at most
of_moment : (ps : List (List ℕ)) (s : Spelled ps) (i : ℕ) (p : List ℕ) (Q : Type 0) → nth ps i ≡ Some p → IsProp Q
    → ((m : Moment) → nth s.0 i ≡ Some m → IsFieldAt moment_field p 0 m (length p) → Q) → Q
of_moment ps s i p Q here prop go =
    ∥∥₁_elim s.1 prop (λ a.
    let m = found s.0 i p (ap (λ qs. nth qs i) (sym a.these.spelled) ∙ here) in
    go m.0 m.1 (start_there moment_field p m.0 (a.these.allowed i m.0 m.1) (sym m.2)))

pub some_moment : (ps : List (List ℕ)) (s : Spelled ps) (i : ℕ) (p : List ℕ) → nth ps i ≡ Some p → NoneIsAt moment_field p 0 → ⊥
some_moment ps s i p here none = of_moment ps s i p ⊥ here (λ x y. absurd x) (λ m at there. none m (length p) there)

pub moment_there : (ps : List (List ℕ)) (s : Spelled ps) (now : List Moment) (i : ℕ) (p : List ℕ) (x : Moment) (next : ℕ) → s.0 ≡ now → nth ps i ≡ Some p
    → IsFieldAt moment_field p 0 x next → nth now i ≡ Some x
moment_there ps s now i p x next view here first =
    of_moment ps s i p (nth now i ≡ Some x) here (Coded-set (coded_option item.the_row.coded) (nth now i) (Some x)) (λ m place there.
    let same : m ≡ x = sym (same_field moment_field moment_one p 0 x m next (length p) first there).0 in
    ap (λ xs. nth xs i) (sym view) ∙ place ∙ ap (λ y. Some y) same)
