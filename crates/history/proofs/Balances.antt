-- The trace of a legal closed history is balanced.
use Rattle.std.proofs.Common.{◌≡◌, ◌∙◌, ℕ, suc, List, [], ◌∷◌, Option, Some, None, refl, ap, sym, subst}
use Rattle.std.specs.Prelude.{option_map}
use Rattle.script_tree.specs.Datum.{Datum}
use Rattle.script_tree.specs.Objects.{acted}
use Rattle.script_tree.specs.Programs.{Program}
use Rattle.period.specs.declared.trace.TraceEvent.TheVariants.{Asked}
use Rattle.history.specs.Balanced.{TracesAreBalanced}
use Rattle.history.specs.Names.{names}
use Rattle.history.specs.Rooms.{Room, AreSteps, and_answer, empty_room, onward, room_after}
use Rattle.history.specs.TraceOf.{trace_in, trace_of}
use Rattle.history.specs.Visits.{Visit, visit_of, rid_at}
use Rattle.history.specs.declared.happening.Happening.{Happening}
use Rattle.history.specs.declared.happening.Happening.TheVariants.{Arrive, Act, Depart}
use Rattle.history.proofs.Rests.{Follows, none_follows, came_follows, went_follows, balances}
use Rattle.history.proofs.Seated.{same_seated, mapped_seated}

abbrev rid_of : Visit → ℕ
rid_of v = v.rid

-- the ids of the requests that are open, by seat
abbrev ids_in : Room → ℕ → Option ℕ
ids_in room seat = option_map rid_of (room.open_at seat)

same_rid : (here : Option Visit) (d : Datum) → option_map rid_of here ≡ option_map rid_of (and_answer here d)
same_rid None d = refl
same_rid (Some v) d = refl

follows : (program : Program) (room : Room) (history : List Happening) → AreSteps program room history
    → ((seat : ℕ) → (room_after room history).open_at seat ≡ None) → Follows room.arrived (ids_in room) (trace_in (names history))
follows program room [] steps closed = none_follows room.arrived (ids_in room) (λ seat. ap (option_map rid_of) (closed seat))
follows program room (Arrive seat rid request ∷ rest) (((free, short), named), steps) closed =
    let after = onward room (Arrive seat rid request) in
    subst (λ r. Follows room.arrived (ids_in room) (Asked r request.value ∷ trace_in (names rest))) (sym named)
    (came_follows room.arrived (ids_in room) seat (ap (option_map rid_of) free) request.value (trace_in (names rest))
    (subst (λ ids. Follows (suc room.arrived) ids (trace_in (names rest)))
    (sym (mapped_seated rid_of seat (Some (visit_of room.arrived request.value [])) room.open_at))
    (follows program after rest steps closed)))
follows program room (Act seat rid number op choice ∷ rest) (wants, steps) closed =
    let after = onward room (Act seat rid number op choice) in
    let answer : Datum = (acted op.act choice (room.objects op.object)).1 in
    let same : ids_in room ≡ ids_in after
    = same_seated (ids_in room) seat (option_map rid_of (and_answer (room.open_at seat) answer)) (same_rid (room.open_at seat) answer)
    ∙ mapped_seated rid_of seat (and_answer (room.open_at seat) answer) room.open_at in
    subst (λ ids. Follows room.arrived ids (trace_in (names rest))) (sym same) (follows program after rest steps closed)
follows program room (Depart seat rid response path ∷ rest) (((v, here, ends), named), steps) closed =
    let after = onward room (Depart seat rid response path) in
    went_follows room.arrived (ids_in room) seat rid
    (ap (option_map rid_of) here ∙ ap (λ w. Some (rid_at w)) (sym here) ∙ ap (λ r. Some r) (sym named)) response
    (trace_in (names rest))
    (subst (λ ids. Follows room.arrived ids (trace_in (names rest))) (sym (mapped_seated rid_of seat None room.open_at))
    (follows program after rest steps closed))

pub balanced : TracesAreBalanced
unfolding trace_of
balanced program start history legal closed =
    balances (ids_in (empty_room start)) (trace_in (names history)) (λ seat. refl) (follows program (empty_room start) history legal closed)
