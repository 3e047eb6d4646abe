use Rattle.std.proofs.Common.{◌≡◌, ◌∙◌, ◌<◌, ap, sym, refl, subst, ℕ, Bool, true, false, not, cond, List, [], Some, None, length, unwrap_or, arith}
use Rattle.std.proofs.Math.ListN.{set}
use Rattle.std.proofs.lemmas.Bool.{lt-ltb}
use Rattle.script_tree.specs.Requests.{Request}
use Rattle.period.specs.declared.schedule.Moment.{Moment}
use Rattle.period.specs.declared.trace.TraceEvent.{TraceEvent}
use Rattle.replayer.specs.Differences.{has_arrived, is_too_early, arrival_fault}
use Rattle.replayer.specs.Opened.{Opened, opened_with}
use Rattle.trace_index.specs.Places.{request_place}
use Rattle.replayer.specs.Standings.{is_away, departed_in, Puts}
use Rattle.replayer.specs.Stages.{standing_of, kept_of}
use Rattle.replayer.specs.declared.reason.Reason.TheVariants.{SecondArrival, TooEarly}
use Rattle.replayer.specs.declared.standing.Standing.{Standing}
use Rattle.replayer.specs.declared.standing.Standing.TheVariants.{Away, Open}
use Rattle.replayer.proofs.StageFacts.{stands_in, early_where, not_below, shows_arrival, puts_at, opened_more, begun_opened}
use Rattle.replayer.proofs.stage.Stage.arrive.Goals as goal

fault_is : (trace : List TraceEvent) (past : List Moment) (r : ℕ) (b : Bool) → has_arrived past r ≡ false
    → is_too_early trace past r ≡ b → arrival_fault trace past r ≡ cond b (Some TooEarly) None
fault_is trace past r b a e = ap (λ x. cond x (Some SecondArrival)
    (cond (is_too_early trace past r) (Some TooEarly) None)) a ∙ ap (λ x. cond x (Some TooEarly) None) e

pub returns-then-self-place-clause-step : goal.returns-then-self-place-clause-step
returns-then-self-place-clause-step c = λ r here past scene h.
    let stage = c.args.self.now in
    let ss = stage.standings.items in
    let inside : c.args.place < length ss = omega (arith, c.requires.within, stage.sized, stage.standings.ok.0) in
    let away : standing_of stage r ≡ Away = stands_in stage.trace ss r c.args.place c.index.result.now here inside c.index.ensures ∙ c.in-Away.is in
    let new : has_arrived past r ≡ false = h.arrived r ∙ ap (λ s. not (is_away s)) away in
    let early = early_where past r (departed_in stage.trace ss) h.departed stage.trace stage.waiting c.args.place h.waits (sym (ap (λ o. unwrap_or o (length stage.trace)) here)) in
    record {
      named = fault_is stage.trace past r true new (sym early ∙ lt-ltb stage.waiting c.args.place c.if-self-place.true);
      shown = λ e. absurd (cc);
    }

-- what is put at the place of a request is that of the trace
arrives : (trace : List TraceEvent) (ss : List Standing) (r place : ℕ) (q : Request) (o : Opened)
    → request_place trace r ≡ Some place → place < length ss → o ≡ opened_with q []
    → Puts trace ss (set ss place (Open o)) r (Open (opened_with q []))
arrives trace ss r place q o here inside is =
    subst (λ x. Puts trace ss (set ss place (Open o)) r (Open x)) is (puts_at trace ss r place (Open o) here inside)

pub invariant_of-self-clause-opened : goal.invariant_of-self-clause-opened
invariant_of-self-clause-opened c =
    let stage = c.args.self.now in
    let ss = stage.standings.items in
    let r = c.requires.rid in
    let q = c.in_ok-request.request in
    let inside : c.args.place < length ss = omega (arith, c.requires.within, stage.sized, stage.standings.ok.0) in
    opened_more stage.index.now stage.trace ss (set ss c.args.place (Open c.in_ok-new.field-0)) r (Open (opened_with q [])) stage.opened
    (arrives stage.trace ss r c.args.place q c.in_ok-new.field-0 c.requires.stands inside c.in_ok-new.ensures)
    (begun_opened stage.index.now stage.trace r q (c.in_ok-request.ensures r c.requires.stands))

pub returns-clause-step : goal.returns-clause-step
returns-clause-step c = λ r here past scene h.
    let stage = c.args.self.now in
    let ss = stage.standings.items in
    let inside : c.args.place < length ss = omega (arith, c.requires.within, stage.sized, stage.standings.ok.0) in
    let away : standing_of stage r ≡ Away = stands_in stage.trace ss r c.args.place c.index.result.now here inside c.index.ensures ∙ c.in-Away.is in
    let new : has_arrived past r ≡ false = h.arrived r ∙ ap (λ s. not (is_away s)) away in
    let early = early_where past r (departed_in stage.trace ss) h.departed stage.trace stage.waiting c.args.place h.waits (sym (ap (λ o. unwrap_or o (length stage.trace)) here)) in
    let q = c.in_ok-request.request in
    let puts = arrives stage.trace ss r c.args.place q c.in_ok-new.field-0 here inside c.in_ok-new.ensures in
    record {
      named = fault_is stage.trace past r false new (sym early ∙ not_below stage.waiting c.args.place c.if-self-place.false);
      shown = λ e. shows_arrival stage.index.now stage.trace past scene (kept_of stage) r q _ h away puts refl refl;
    }
