-- Where the schedule explains the trace, no difference is found.
use Rattle.std.proofs.Common.{◌≡◌, ℕ, ◌<◌, true, false, cond, List, [], ◌∷◌, ◌++◌, length, Some, None, is_none, refl, sym, ap, subst, ◌∙◌, arith, append-nil, append_assoc}
use Rattle.std.specs.Str.{bytes_eq}
use Rattle.std.proofs.lemmas.Bool.{eq-eqb}
use Rattle.std.proofs.lemmas.Slice.Eq.{bytes_eq-Decides}
use Rattle.basis.specs.Lists.{nth}
use Rattle.script_tree.specs.Objects.{Objects}
use Rattle.script_tree.specs.Requests.{Request}
use Rattle.period.specs.Traces.{request_of, response_of, IsBalanced, Precedes}
use Rattle.script_tree.specs.declared.request.Response.{Response}
use Rattle.period.specs.declared.schedule.Moment.{Moment}
use Rattle.period.specs.declared.schedule.Moment.TheVariants.{Arrive, Act, Depart}
use Rattle.script_tree.specs.Programs.{Program}
use Rattle.period.specs.declared.trace.TraceEvent.{TraceEvent}
use Rattle.script_meaning.specs.Conduct.{Ends}
use Rattle.script_meaning.specs.Explains.{rid_of, Explains}
use Rattle.script_meaning.specs.Replay.{Scene, opening, IsAllowed, IsAsTraced, after, Plays}
use Rattle.replayer.specs.Differences.{has_arrived, is_too_early, is_same_response, arrival_fault, act_fault, departure_fault, moment_fault, fault_of, difference_from, difference_of}
use Rattle.replayer.specs.declared.reason.ReplayReason.TheVariants.{AtMoment}
use Rattle.replayer.specs.declared.reason.Reason.TheVariants.{UnknownRequest, SecondArrival, TooEarly, BadChoice, OtherResponse}
use Rattle.basis.proofs.Places.{nth_left, nth_next, nth_within, nth_before}
use Rattle.replayer.proofs.DifferenceTests.{not_arrived, has_departed-at, asked_at, request_of-at, not_too_early, none_left}

same_itself : (x : Response) → is_same_response x (Some x) ≡ true
same_itself x = ap (λ b. cond b (bytes_eq x.body x.body) false) (eq-eqb x.status x.status refl) ∙ (bytes_eq-Decides x.body x.body).1 refl

module _ (program : Program) (start : Objects) (trace : List TraceEvent) (schedule : List Moment)
    (balanced : IsBalanced trace) (explained : Explains program start trace schedule) where
  -- an arrival comes first, and after the departures of the requests that precede it
  arrives_well : (past : List Moment) (r : ℕ) (ms : List Moment) → past ++ Arrive r ∷ ms ≡ schedule → arrival_fault trace past r ≡ None
  arrives_well past r ms is =
      ap (λ b. cond b (Some SecondArrival) (cond (is_too_early trace past r) (Some TooEarly) None)) first
      ∙ ap (λ b. cond b (Some TooEarly) None) in_time
    where
      here : nth schedule (length past) ≡ Some (Arrive r)
      here = subst (λ l. nth l (length past) ≡ Some (Arrive r)) is (nth_next past ms (Arrive r))

      asked : (q : Request) × (request_of trace r ≡ Some q)
      asked = explained.of_trace (length past) (Arrive r) here

      first : has_arrived past r ≡ false
      first = not_arrived past r (λ i at_i.
          let whole = explained.whole r asked.0 asked.1 in
          let in_schedule : nth schedule i ≡ Some (Arrive r) = subst (λ l. nth l i ≡ Some (Arrive r)) is (nth_left past (Arrive r ∷ ms) i (Arrive r) at_i) in
          let a : i ≡ whole.arrival = whole.arrives_once i in_schedule in
          let b : length past ≡ whole.arrival = whole.arrives_once (length past) here in
          let l : i < length past = nth_within past i (Arrive r) at_i in
          absurd (omega arith))

      in_time : is_too_early trace past r ≡ false
      in_time =
          let place = asked_at trace r asked.0 asked.1 in
          not_too_early trace past r place.0 asked.0 place.1 (λ i a x at_i l.
          let its = balanced.was_asked a i x at_i in
          let known = request_of-at trace a its.0 its.1 its.2 in
          let whole = explained.whole a known.0 known.1 in
          let before : Precedes trace a r = record { left = i; response = x; right = place.0; request = asked.0; answers = at_i; asks = place.1; in_order = l } in
          let low : whole.departure < length past = explained.in_time a r whole.departure (length past) before whole.departs here in
          has_departed-at past a whole.departure (nth_before past (Arrive r ∷ ms) whole.departure (Depart a) low
          (subst (λ l. nth l whole.departure ≡ Some (Depart a)) (sym is) whole.departs)))

  no_fault : (past : List Moment) (scene : Scene) (m : Moment) (ms : List Moment) → past ++ m ∷ ms ≡ schedule
      → IsAllowed program trace scene m → IsAsTraced program trace scene m
      → moment_fault program trace past scene m ≡ None
  no_fault past scene (Arrive r) ms is allowed traced = arrives_well past r ms is
  no_fault past scene (Act r choice) ms is allowed traced =
      ap (act_fault scene choice) allowed.1 ∙ ap (λ b. cond b None (Some BadChoice)) allowed.2
  no_fault past scene (Depart r) ms is allowed traced =
      ap (departure_fault (response_of trace r)) allowed.2
      ∙ ap (λ o. departure_fault o (Some (Ends allowed.0 allowed.1))) (traced allowed.0 allowed.1 allowed.2)
      ∙ ap (λ b. cond b None (Some OtherResponse)) (same_itself allowed.0)

  no_fault_at_all : (past : List Moment) (scene : Scene) (m : Moment) (ms : List Moment) → past ++ m ∷ ms ≡ schedule
      → IsAllowed program trace scene m → IsAsTraced program trace scene m
      → fault_of program trace past scene m ≡ None
  unfolding fault_of
  no_fault_at_all past scene m ms is allowed traced =
      ap (λ o. cond (is_none o) (Some UnknownRequest) (moment_fault program trace past scene m)) asked.1 ∙ no_fault past scene m ms is allowed traced
    where
      asked : (q : Request) × (request_of trace (rid_of m) ≡ Some q)
      asked = explained.of_trace (length past) m (subst (λ l. nth l (length past) ≡ Some m) is (nth_next past ms m))

  no_difference : (past : List Moment) (scene : Scene) (ms : List Moment) → past ++ ms ≡ schedule
      → Plays program trace scene ms → difference_from program trace past scene ms ≡ None
  unfolding difference_from
  no_difference past scene [] is plays = none_left trace past (λ r i q at_i.
      let known = request_of-at trace r i q at_i in
      let whole = explained.whole r known.0 known.1 in
      has_departed-at past r whole.departure (subst (λ l. nth l whole.departure ≡ Some (Depart r)) (sym is ∙ append-nil past) whole.departs))
  no_difference past scene (m ∷ ms) is plays =
      ap (λ o. elim o [
        | Some reason ↦ Some (AtMoment reason (length past) (rid_of m))
        | None ↦ difference_from program trace (past ++ m ∷ []) (after program trace scene m) ms
      ]) (no_fault_at_all past scene m ms is plays.0 plays.1)
      ∙ no_difference (past ++ m ∷ []) (after program trace scene m) ms (append_assoc past (m ∷ []) ms ∙ is) plays.2

pub complete : (program : Program) (start : Objects) (trace : List TraceEvent) (schedule : List Moment)
    → IsBalanced trace → Explains program start trace schedule → difference_of program start trace schedule ≡ None
complete program start trace schedule balanced explained =
    no_difference program start trace schedule balanced explained [] (opening start) schedule refl explained.plays
