-- A trace that lies as its file has it.
use Rattle.std.specs.Prelude.{◌≡◌, ℕ, List, map, Some}
use Rattle.std.specs.Coded.{Coded-set, coded_list}
use Rattle.std.proofs.Math.Path.{Σ_path}
use Rattle.std.proofs.Math.Logic.{∥∥₁_elim, ∥∥₁_prop}
use Rattle.basis.specs.Lists.{nth}
use Rattle.period.specs.declared.trace.TraceEvent.{TraceEvent}
use Rattle.period.specs.contracts.trace.TraceEvent as item
use Rattle.trace_format.specs.Events.{IsEvent, event_spelling}

-- The payloads of the records spell these events, and each may stand in a trace.
pub record AreSpelled (payloads : List (List ℕ)) (events : List TraceEvent) : Type 0 where
  pub spelled : payloads ≡ map event_spelling events
  pub allowed : (i : ℕ) (e : TraceEvent) → nth events i ≡ Some e → IsEvent 0 e

-- They spell these events and no others.
pub record AreAllSpelled (payloads : List (List ℕ)) (events : List TraceEvent) : Type 0 where
  pub these : AreSpelled payloads events
  pub only : (others : List TraceEvent) → AreSpelled payloads others → others ≡ events

-- the events that payloads spell
abbrev pub Spelled : List (List ℕ) → Type 0
Spelled payloads = (events : List TraceEvent) × ∥ AreAllSpelled payloads events ∥₁

-- Two such lists of the same payloads are one.
same_events : (ps : List (List ℕ)) (xs ys : List TraceEvent) → ∥ AreAllSpelled ps xs ∥₁ → ∥ AreAllSpelled ps ys ∥₁ → xs ≡ ys
same_events ps xs ys p q =
    let set = Coded-set (coded_list item.the_row.coded) xs ys in
    ∥∥₁_elim p set (λ a. ∥∥₁_elim q set (λ b. b.only xs a.these))

-- There is at most one list of events that payloads spell.
pub spelled_once : (ps : List (List ℕ)) → IsProp (Spelled ps)
spelled_once ps x y =
    let same : x.0 ≡ y.0 = same_events ps x.0 y.0 x.1 y.1 in
    Σ_path same (λ i. ∥∥₁_prop (coe 0 i (j. ∥ AreAllSpelled ps (same j) ∥₁) x.1) (coe 1 i (j. ∥ AreAllSpelled ps (same j) ∥₁) y.1) i)
