-- The events that the payloads of a file spell.
use Rattle.std.proofs.Common.{◌≡◌, ◌≢◌, ◌∙◌, ℕ, zero, suc, List, [], ◌∷◌, ◌++◌, map, length, Some, ap, sym, refl, subst, arith}
use Rattle.std.proofs.Math.Logic.{∥∥₁_elim}
use Rattle.std.proofs.Math.Nat.{ℕ_set}
use Rattle.std.proofs.lemmas.List.{length-map}
use Rattle.std.specs.Coded.{Coded-set, coded_option}
use Rattle.std.specs.Int.{w32}
use Rattle.basis.specs.Lists.{nth}
use Rattle.basis.proofs.Options.{some_is, none_is_not}
use Rattle.period.specs.declared.trace.TraceEvent.{TraceEvent}
use Rattle.period.specs.declared.trace.TraceEvent.TheVariants.{Asked, Answered}
use Rattle.period.specs.contracts.trace.TraceEvent as item
use Rattle.wire.specs.Files.{MayFollow, Spells}
use Rattle.wire.specs.Recorded.{SpellsPayloads}
use Rattle.wire.specs.Spellings.{IsFieldAt, NoneIsAt, byte_field, number_field}
use Rattle.wire.proofs.FileSteps.{start_there}
use Rattle.wire.proofs.Spelled.{same_field}
use Rattle.trace_format.specs.Events.{IsEvent, event_field, event_spelling, request_count, trace_format}
use Rattle.trace_format.specs.Heads.{head_of, HasHead}
use Rattle.trace_format.specs.TraceFiles.{Spelled, spelled_once}
use Rattle.trace_format.specs.contracts.trace_file.EventHead as heads
use Rattle.trace_format.specs.declared.trace_file.EventHead.{EventHead}
use Rattle.trace_format.specs.declared.trace_file.EventHead.TheVariants.{Asks, Answers}
use Rattle.trace_format.proofs.EventFields.{event_one, head_is, tag_of, id_of}

-- ---- one list of events

same_event : (x y : TraceEvent) → IsEvent 0 x → IsEvent 0 y → event_spelling x ≡ event_spelling y → x ≡ y
same_event x y p q e = (event_one 0 x y [] [] p q (ap (λ (s : List ℕ). s ++ []) e)).0

first_is : (a b : List ℕ) (more others : List (List ℕ)) → a ∷ more ≡ b ∷ others → a ≡ b
first_is a b more others e = cc

rest_are : (a b : List ℕ) (more others : List (List ℕ)) → a ∷ more ≡ b ∷ others → more ≡ others
rest_are a b more others e = cc

abbrev All0 : List TraceEvent → Type 0
All0 xs = (i : ℕ) (e : TraceEvent) → nth xs i ≡ Some e → IsEvent 0 e

same_all : (xs ys : List TraceEvent) → All0 xs → All0 ys → map event_spelling xs ≡ map event_spelling ys → xs ≡ ys
same_all [] [] p q e = refl
same_all [] (y ∷ ys) p q e = absurd cc
same_all (x ∷ xs) [] p q e = absurd cc
same_all (x ∷ xs) (y ∷ ys) p q e =
    let first : x ≡ y = same_event x y (p 0 x refl) (q 0 y refl) (first_is (event_spelling x) (event_spelling y) (map event_spelling xs) (map event_spelling ys) e) in
    let rest : xs ≡ ys = same_all xs ys (λ i. p (suc i)) (λ i. q (suc i)) (rest_are (event_spelling x) (event_spelling y) (map event_spelling xs) (map event_spelling ys) e) in
    ap (λ z. z ∷ xs) first ∙ ap (λ zs. y ∷ zs) rest

-- an event that may stand behind so many requests may stand at the start
at_start : (n : ℕ) (e : TraceEvent) → IsEvent n e → IsEvent 0 e
at_start n (Asked rid q) p = (p.0, (p.1.0, omega arith))
at_start n (Answered rid x) p = p

all_allowed : (before xs : List TraceEvent) → MayFollow trace_format before xs → All0 xs
all_allowed before [] p i e here = absurd (none_is_not here)
all_allowed before (x ∷ xs) p zero e here = subst (IsEvent 0) (some_is here) (at_start (request_count before) x p.0.0)
all_allowed before (x ∷ xs) p (suc i) e here = all_allowed (before ++ x ∷ []) xs p.1 i e here

pub are_spelled : (bytes : List ℕ) (ps : List (List ℕ)) → SpellsPayloads trace_format bytes ps → Spelled ps
are_spelled bytes ps s =
    let allowed = all_allowed [] s.items s.spelled.allowed in (
      s.items,
      ∣ record {
        these = record { spelled = s.payloads_are; allowed = allowed };
        only = λ others o. same_all others s.items o.allowed allowed (sym o.spelled ∙ s.payloads_are);
      } ∣₁,
    )

-- the file spells them
pub read_events : (bytes : List ℕ) (ps : List (List ℕ)) → SpellsPayloads trace_format bytes ps → (s : Spelled ps) → Spells trace_format bytes s.0
unfolding are_spelled
read_events bytes ps payloads s = subst (Spells trace_format bytes)
    (ap (λ (t : Spelled ps). t.0) (spelled_once ps (are_spelled bytes ps payloads) s)) payloads.spelled

-- ---- the event of a payload

pub as_many : (ps : List (List ℕ)) (s : Spelled ps) → length ps ≡ length s.0
as_many ps s = ∥∥₁_elim s.1 (ℕ_set (length ps) (length s.0)) (λ a. ap length a.these.spelled ∙ length-map s.0 event_spelling)

found : (xs : List TraceEvent) (i : ℕ) (p : List ℕ) → nth (map event_spelling xs) i ≡ Some p → (e : TraceEvent) × (nth xs i ≡ Some e) × (event_spelling e ≡ p)
found [] i p here = absurd (none_is_not here)
found (x ∷ xs) zero p here = (x, refl, some_is here)
found (x ∷ xs) (suc i) p here = found xs i p here

-- what follows from the event that stands at the start of a payload, where it has one proof at most
pub of_event : (ps : List (List ℕ)) (s : Spelled ps) (i : ℕ) (p : List ℕ) (Q : Type 0) → nth ps i ≡ Some p → IsProp Q
    → ((e : TraceEvent) → nth s.0 i ≡ Some e → IsFieldAt (event_field 0) p 0 e (length p) → Q) → Q
of_event ps s i p Q here prop go =
    ∥∥₁_elim s.1 prop (λ a.
    let e = found s.0 i p (ap (λ qs. nth qs i) (sym a.these.spelled) ∙ here) in
    go e.0 e.1 (start_there (event_field 0) p e.0 (a.these.allowed i e.0 e.1) (sym e.2)))

pub some_event : (ps : List (List ℕ)) (s : Spelled ps) (i : ℕ) (p : List ℕ) → nth ps i ≡ Some p → NoneIsAt (event_field 0) p 0 → ⊥
some_event ps s i p here none = of_event ps s i p ⊥ here (λ x y. absurd x) (λ e at there. none e (length p) there)

-- ---- its head

asks : (e : TraceEvent) (tag rid : ℕ) → tag ≡ tag_of e → rid ≡ id_of e → tag ≡ 1 → Asks rid ≡ head_of e
unfolding tag_of id_of
asks (Asked r q) tag rid t i one = ap (λ n. Asks n) i
asks (Answered r x) tag rid t i one = absurd (omega (arith, t, one))

answers : (e : TraceEvent) (tag rid : ℕ) → tag ≡ tag_of e → rid ≡ id_of e → tag ≢ 1 → Answers rid ≡ head_of e
unfolding tag_of id_of
answers (Asked r q) tag rid t i other = absurd (other t)
answers (Answered r x) tag rid t i other = ap (λ n. Answers n) i

-- what has a tag and an id at the start of its payload is the head of the event there
pub has_head : (ps : List (List ℕ)) (s : Spelled ps) (now : List TraceEvent) (i : ℕ) (p : List ℕ) (head : EventHead)
    (tag mid rid next : ℕ) → s.0 ≡ now → nth ps i ≡ Some p
    → IsFieldAt byte_field p 0 tag mid → IsFieldAt (number_field w32) p mid rid next
    → ((e : TraceEvent) → tag ≡ tag_of e → rid ≡ id_of e → head ≡ head_of e) → HasHead now i head
has_head ps s now i p head tag mid rid next view here first second is e at =
    of_event ps s i p (head ≡ head_of e) here (Coded-set heads.the_row.coded head (head_of e)) (λ f place there.
    let same : f ≡ e = some_is (sym place ∙ ap (λ xs. nth xs i) view ∙ at) in
    let parts = head_is 0 p 0 tag mid rid next f (length p) first second there in
    is e (parts.0 ∙ ap tag_of same) (parts.1 ∙ ap id_of same))

pub asks_here : (e : TraceEvent) (tag rid : ℕ) → tag ≡ 1 → tag ≡ tag_of e → rid ≡ id_of e → Asks rid ≡ head_of e
asks_here e tag rid one t i = asks e tag rid t i one

pub answers_here : (e : TraceEvent) (tag rid : ℕ) → tag ≢ 1 → tag ≡ tag_of e → rid ≡ id_of e → Answers rid ≡ head_of e
answers_here e tag rid other t i = answers e tag rid t i other

-- ---- the whole of it

pub event_there : (ps : List (List ℕ)) (s : Spelled ps) (now : List TraceEvent) (i : ℕ) (p : List ℕ) (x : TraceEvent) (next : ℕ) → s.0 ≡ now → nth ps i ≡ Some p
    → IsFieldAt (event_field 0) p 0 x next → nth now i ≡ Some x
event_there ps s now i p x next view here first =
    of_event ps s i p (nth now i ≡ Some x) here (Coded-set (coded_option item.the_row.coded) (nth now i) (Some x)) (λ f place there.
    let same : f ≡ x = sym (same_field (event_field 0) (event_one 0) p 0 x f next (length p) first there).0 in
    ap (λ xs. nth xs i) (sym view) ∙ place ∙ ap (λ y. Some y) same)
