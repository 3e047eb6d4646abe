-- A legal history, read by request, is a run.
use Rattle.std.proofs.Common.{◌≡◌, ℕ, zero, suc, ◌<◌, true, List, [], ◌∷◌, ◌++◌, length, Some, None, Option, ◌⊎◌, inl, inr, refl, sym, ap, subst, ◌∙◌, arith}
use Rattle.std.proofs.lemmas.Bool.{cases_eq}
use Rattle.script_tree.specs.Programs.{Program}
use Rattle.script_tree.specs.Datum.{Datum}
use Rattle.script_tree.specs.declared.operation.Op.{Op}
use Rattle.script_tree.specs.declared.path.Path.{Path}
use Rattle.script_tree.specs.declared.operation.Choice.{Choice}
use Rattle.script_tree.specs.Requests.{Request, IsRequestWithinLimits}
use Rattle.period.specs.declared.trace.TraceEvent.{TraceEvent}
use Rattle.period.specs.declared.trace.TraceEvent.TheVariants.{Asked, Answered}
use Rattle.basis.proofs.Options.{some_is, none_is_not}
use Rattle.history.specs.TraceOf.{trace_in}
use Rattle.script_tree.specs.declared.request.Response.{Response}
use Rattle.script_tree.specs.Objects.{Objects, acted, plausible, holding}
use Rattle.history.specs.declared.happening.Happening.{Happening}
use Rattle.history.specs.declared.happening.Happening.TheVariants.{Arrive, Act as Acts, Depart}
use Rattle.history.specs.Names.{came, did, went, names}
use Rattle.history.specs.Visits.{Visit, visit_of, rid_at, number_at}
use Rattle.history.specs.Rooms.{Room, empty_room, and_answer, onward, room_after, AreSteps, IsLegal, IsClosed}
use Rattle.history.specs.Seats.{seated}
use Rattle.history.proofs.Seated.{here_seated, there_seated}
use Rattle.audit_completeness.proofs.Runs.{HasShortRequests, Hall, hall, Takes, IsRun, next_hall, visited, longer, visited-here, visited-there}
use Rattle.audit_completeness.proofs.Runs as by

abbrev of_visit : Visit → by.Visit
of_visit v = (v.request, v.answers)

record Like (room : Room) (z : Hall) : Type 0 where
  objects : z.objects ≡ room.objects
  arrived : z.arrived ≡ room.arrived
  seats : (s : ℕ) (v : Visit) → room.open_at s ≡ Some v → z.visits v.rid ≡ Some (of_visit v)
  apart : (s t : ℕ) (v w : Visit) → room.open_at s ≡ Some v → room.open_at t ≡ Some w → v.rid ≡ w.rid → s ≡ t
  low : (s : ℕ) (v : Visit) → room.open_at s ≡ Some v → v.rid < room.arrived
  seated_all : (r : ℕ) (x : by.Visit) → z.visits r ≡ Some x → (s : ℕ) × (v : Visit) × (room.open_at s ≡ Some v) × (v.rid ≡ r)

-- what a seat holds after one seat changed
after_seat : (s x : ℕ) (w : Option Visit) (f : ℕ → Option Visit) (v : Visit) → seated s w f x ≡ Some v
    → ((s ≡ x) × (w ≡ Some v)) ⊎ ((s ≡ x → ⊥) × (f x ≡ Some v))
after_seat s x w f v e = elim (cases_eq s x) [
  | inl p ↦ inl (p, sym (subst (λ y. seated s w f y ≡ w) p (here_seated s w f)) ∙ e)
  | inr n ↦ inr (n, sym (there_seated s x w f n) ∙ e)
]

after_visit : (r x : ℕ) (w : Option by.Visit) (f : ℕ → Option by.Visit) (v : by.Visit) → visited r w f x ≡ Some v
    → ((r ≡ x) × (w ≡ Some v)) ⊎ ((r ≡ x → ⊥) × (f x ≡ Some v))
after_visit r x w f v e = elim (cases_eq r x) [
  | inl p ↦ inl (p, sym (subst (λ y. visited r w f y ≡ w) p (visited-here r w f)) ∙ e)
  | inr n ↦ inr (n, sym (visited-there r x w f n) ∙ e)
]

visited_at : (r x : ℕ) (w : Option by.Visit) (f : ℕ → Option by.Visit) → r ≡ x → visited r w f x ≡ w
visited_at r x w f p = subst (λ y. visited r w f y ≡ w) p (visited-here r w f)

-- ---- an arrival

abbrev arrived_room : Room → ℕ → Request → Room
arrived_room room s q = record room { arrived = suc room.arrived; open_at = seated s (Some (visit_of room.arrived q [])) room.open_at }

like_arrives : (room : Room) (z : Hall) (s : ℕ) (q : Request) → Like room z → room.open_at s ≡ None
    → Like (arrived_room room s q) (next_hall z (came room.arrived q))
like_arrives room z s q like free = record {
  objects = like.objects;
  arrived = ap suc like.arrived;
  seats = λ x v e. elim (after_seat s x new room.open_at v e) [
    | inl h ↦ visited_at room.arrived v.rid (Some (q, [])) z.visits (ap (λ u. u.rid) (some_is h.1)) ∙ ap (λ u. Some (of_visit u)) (some_is h.1)
    | inr h ↦ visited-there room.arrived v.rid (Some (q, [])) z.visits (λ p. let l = like.low x v h.1 in omega (arith, p, l)) ∙ like.seats x v h.1
  ];
  apart = λ x y v w a b e. elim (after_seat s x new room.open_at v a) [
    | inl h ↦ elim (after_seat s y new room.open_at w b) [
      | inl k ↦ sym h.0 ∙ k.0
      | inr k ↦ let l = like.low y w k.1 in let i : room.arrived ≡ v.rid = ap (λ u. u.rid) (some_is h.1) in absurd (omega (arith, e, l))
    ]
    | inr h ↦ elim (after_seat s y new room.open_at w b) [
      | inl k ↦ let l = like.low x v h.1 in let i : room.arrived ≡ w.rid = ap (λ u. u.rid) (some_is k.1) in absurd (omega (arith, e, l))
      | inr k ↦ like.apart x y v w h.1 k.1 e
    ]
  ];
  low = λ x v e. elim (after_seat s x new room.open_at v e) [
    | inl h ↦ let i : room.arrived ≡ v.rid = ap (λ u. u.rid) (some_is h.1) in omega arith
    | inr h ↦ let l = like.low x v h.1 in omega (arith, l)
  ];
  seated_all = λ r x e. elim (after_visit room.arrived r (Some (q, [])) z.visits x e) [
    | inl h ↦ (s, visit_of room.arrived q [], here_seated s new room.open_at, h.0)
    | inr h ↦
        let old = like.seated_all r x h.1 in
        (old.0, old.1, there_seated s old.0 new room.open_at (λ p. none_is_not (sym free ∙ ap room.open_at p ∙ old.2)) ∙ old.2, old.3)
  ];
}
  where
    new : Option Visit
    new = Some (visit_of room.arrived q [])

-- ---- an operation

like_performs : (room : Room) (z : Hall) (s k : ℕ) (op : Op) (c : Choice) (u : Visit) → Like room z
    → room.open_at s ≡ Some u → Like (onward room (Acts s u.rid k op c)) (next_hall z (did u.rid k op c))
like_performs room z s k op c u like here = record {
  objects = ap (λ (f : Objects). holding op.object (acted op.act c (f op.object)).0 f) like.objects;
  arrived = like.arrived;
  seats = λ x v e. elim (after_seat s x (and_answer (room.open_at s) answer) room.open_at v e) [
    | inl h ↦ visited_at u.rid v.rid (longer (z.visits u.rid) reply) z.visits (ap (λ w. w.rid) (is v h.1)) ∙ longer_is ∙ ap (λ w. Some (of_visit w)) (is v h.1)
    | inr h ↦ visited-there u.rid v.rid (longer (z.visits u.rid) reply) z.visits (λ p. h.0 (like.apart s x u v here h.1 p)) ∙ like.seats x v h.1
  ];
  apart = λ x y v w a b e. elim (after_seat s x (and_answer (room.open_at s) answer) room.open_at v a) [
    | inl h ↦ elim (after_seat s y (and_answer (room.open_at s) answer) room.open_at w b) [
      | inl m ↦ sym h.0 ∙ m.0
      | inr m ↦ sym h.0 ∙ like.apart s y u w here m.1 (ap (λ t. t.rid) (is v h.1) ∙ e)
    ]
    | inr h ↦ elim (after_seat s y (and_answer (room.open_at s) answer) room.open_at w b) [
      | inl m ↦ like.apart x s v u h.1 here (e ∙ sym (ap (λ t. t.rid) (is w m.1))) ∙ m.0
      | inr m ↦ like.apart x y v w h.1 m.1 e
    ]
  ];
  low = λ x v e. elim (after_seat s x (and_answer (room.open_at s) answer) room.open_at v e) [
    | inl h ↦ subst (λ i. i < room.arrived) (ap (λ t. t.rid) (is v h.1)) (like.low s u here)
    | inr h ↦ like.low x v h.1
  ];
  seated_all = λ r x e. elim (after_visit u.rid r (longer (z.visits u.rid) reply) z.visits x e) [
    | inl h ↦ (
      s,
      record u { answers = u.answers ++ answer ∷ [] },
      here_seated s (and_answer (room.open_at s) answer) room.open_at ∙ ap (λ w. and_answer w answer) here,
      h.0,
    )
    | inr h ↦
        let old = like.seated_all r x h.1 in (
          old.0,
          old.1,
          there_seated s old.0 (and_answer (room.open_at s) answer) room.open_at
              (λ p. h.0 (ap (λ w. rid_at w) (sym here ∙ ap room.open_at p ∙ old.2) ∙ old.3)) ∙ old.2,
          old.3,
        )
  ];
}
  where
    answer : Datum
    answer = (acted op.act c (room.objects op.object)).1

    reply : Datum
    reply = (acted op.act c (z.objects op.object)).1

    is : (v : Visit) → and_answer (room.open_at s) answer ≡ Some v → ◌≡◌ {A = Visit} (record u { answers = u.answers ++ answer ∷ [] }) v
    is v e = some_is (sym (ap (λ w. and_answer w answer) here) ∙ e)

    longer_is : longer (z.visits u.rid) reply ≡ Some (u.request, u.answers ++ answer ∷ [])
    longer_is = ap (λ w. longer w reply) (like.seats s u here)
        ∙ ap (λ (f : Objects). Some (u.request, u.answers ++ (acted op.act c (f op.object)).1 ∷ [])) like.objects

-- ---- a departure

like_departs : (room : Room) (z : Hall) (s : ℕ) (x : Response) (p : Path) (u : Visit) → Like room z
    → room.open_at s ≡ Some u → Like (onward room (Depart s u.rid x p)) (next_hall z (went u.rid x p))
like_departs room z s x p u like here = record {
  objects = like.objects;
  arrived = like.arrived;
  seats = λ y v e. elim (after_seat s y None room.open_at v e) [
    | inl h ↦ absurd (none_is_not h.1)
    | inr h ↦ visited-there u.rid v.rid None z.visits (λ q. h.0 (like.apart s y u v here h.1 q)) ∙ like.seats y v h.1
  ];
  apart = λ a b v w e f g. elim (after_seat s a None room.open_at v e) [
    | inl h ↦ absurd (none_is_not h.1)
    | inr h ↦ elim (after_seat s b None room.open_at w f) [ inl m ↦ absurd (none_is_not m.1) | inr m ↦ like.apart a b v w h.1 m.1 g ]
  ];
  low = λ y v e. elim (after_seat s y None room.open_at v e) [ inl h ↦ absurd (none_is_not h.1) | inr h ↦ like.low y v h.1 ];
  seated_all = λ r y e. elim (after_visit u.rid r None z.visits y e) [
    | inl h ↦ absurd (none_is_not h.1)
    | inr h ↦
        let old = like.seated_all r y h.1 in
        (old.0, old.1, there_seated s old.0 None room.open_at (λ q. h.0 (ap (λ w. rid_at w) (sym here ∙ ap room.open_at q ∙ old.2) ∙ old.3)) ∙ old.2, old.3)
  ];
}

run_from : (P : Program) (H : List Happening) (room : Room) (z : Hall) → Like room z → AreSteps P room H
    → ((s : ℕ) → (room_after room H).open_at s ≡ None) → IsRun P z (names H)
run_from P [] room z like legal closed = λ r. by_visit r (z.visits r) refl
  where
    by_visit : (r : ℕ) (v : Option by.Visit) → z.visits r ≡ v → v ≡ None
    by_visit r None e = refl
    by_visit r (Some v) e = let s = like.seated_all r v e in absurd (none_is_not (sym (closed s.0) ∙ s.2))
run_from P (Arrive s r q ∷ H) room z like ((may, named), legal) closed =
    subst (λ d. Takes P z d × IsRun P (next_hall z d) (names H)) (ap (λ i. came i q.value) (sym named)) (
      sym like.arrived,
      run_from P H (onward room (Arrive s r q)) (next_hall z (came room.arrived q.value))
          (like_arrives room z s q.value like may.0) legal closed,
    )
run_from P (Acts s r n op c ∷ H) room z like (((step, choice), (id, number)), legal) closed =
    let u = step.0 in
    let id_is : u.rid ≡ r = ap rid_at (sym step.1) ∙ sym id in
    let number_is : suc (length u.answers) ≡ n = ap number_at (sym step.1) ∙ sym number in
    subst (λ d. Takes P z d × IsRun P (next_hall z d) (names H)) (λ i. did (id_is i) (number_is i) op c) (
      (of_visit u, like.seats s u step.1, refl, step.2, subst (λ (f : Objects). plausible op.act c (f op.object) ≡ true) (sym like.objects) choice),
      run_from P H (onward room (Acts s r n op c)) (next_hall z (did u.rid (suc (length u.answers)) op c))
          (like_performs room z s (suc (length u.answers)) op c u like step.1) legal closed,
    )
run_from P (Depart s r x p ∷ H) room z like ((step, id), legal) closed =
    let u = step.0 in
    subst (λ d. Takes P z d × IsRun P (next_hall z d) (names H)) (ap (λ i. went i x p) (ap rid_at (sym step.1) ∙ sym id)) (
      (of_visit u, like.seats s u step.1, step.2),
      run_from P H (onward room (Depart s r x p)) (next_hall z (went u.rid x p)) (like_departs room z s x p u like step.1) legal closed,
    )

pub run_of : (P : Program) (O : Objects) (H : List Happening) → IsLegal P O H → IsClosed O H → IsRun P (hall O) (names H)
run_of P O H legal closed = run_from P H (empty_room O) (hall O) (record {
  objects = refl;
  arrived = refl;
  seats = λ s v e. absurd (none_is_not e);
  apart = λ s t v w e f g. absurd (none_is_not e);
  low = λ s v e. absurd (none_is_not e);
  seated_all = λ r x e. absurd (none_is_not e);
}) legal closed

-- ---- requests

came_is : {r a : ℕ} {q p : Request} → Asked r q ≡ Asked a p → q ≡ p
came_is {r} {a} {q} {p} e = ap request_in e
  where
    request_in : TraceEvent → Request
    request_in (Asked r q) = q
    request_in (Answered r x) = p

not_came : {r a : ℕ} {x : Response} {q : Request} → Answered r x ≡ Asked a q → ⊥
not_came e = subst IsAnswer e tt
  where
    IsAnswer : TraceEvent → Type 0
    IsAnswer (Asked r q) = ⊥
    IsAnswer (Answered r x) = Unit {0}

-- who arrives is within the limits
pub short_requests : (P : Program) (H : List Happening) (room : Room) → AreSteps P room H → HasShortRequests (trace_in (names H))
short_requests P [] room legal i r q e = absurd (none_is_not e)
short_requests P (Arrive s a p ∷ H) room (((free, short), named), legal) zero r q e = subst (λ x. IsRequestWithinLimits x) (came_is (some_is e)) short
short_requests P (Arrive s a p ∷ H) room (may, legal) (suc i) r q e = short_requests P H (onward room (Arrive s a p)) legal i r q e
short_requests P (Acts s a n op c ∷ H) room (may, legal) i r q e = short_requests P H (onward room (Acts s a n op c)) legal i r q e
short_requests P (Depart s a x p ∷ H) room (may, legal) zero r q e = absurd (not_came (some_is e))
short_requests P (Depart s a x p ∷ H) room (may, legal) (suc i) r q e = short_requests P H (onward room (Depart s a x p)) legal i r q e
