use Rattle.std.proofs.Common.{◌≡◌, ◌∙◌, ap, sym, Some, None}
use Rattle.period.specs.declared.schedule.Moment.TheVariants.{Arrive, Act, Depart}
use Rattle.script_meaning.specs.Explains.{rid_of}
use Rattle.trace_index.specs.Places.{request_place}
use Rattle.trace_index.proofs.ResultFacts.{IfOk-map}
use Rattle.replayer.proofs.StageFacts.{unknown_fault, known_step}
use Rattle.replayer.proofs.stage.Stage.step.Goals as goal

pub returns-in_default-clause-step : goal.returns-in_default-clause-step
returns-in_default-clause-step g c = λ past scene h.
    let stage = c.args.self.now in
    let absent : request_place stage.trace (rid_of c.args.moment) ≡ None = ap (request_place stage.trace) (sym c.rid_of.ensures) ∙ sym c.place.ensures.place ∙ c.in_default.is in
    record { named = unknown_fault stage.index.now stage.trace past scene c.args.moment absent; shown = λ e. absurd (cc) }

pub returns-in-Arrive-clause-step : goal.returns-in-Arrive-clause-step
returns-in-Arrive-clause-step g c =
    let stage = c.args.self.now in
    let r = c.in-Arrive.field-0 in
    let here : request_place stage.trace r ≡ Some c.in-Some.place = ap (request_place stage.trace) (sym (c.rid_of.ensures ∙ ap rid_of c.in-Arrive.is)) ∙ sym c.place.ensures.place ∙ c.in-Some.is in
    rw c.in-Arrive.is (IfOk-map c.arrive.result
    (λ reason step. known_step stage c.arrive.new.self (Arrive r) c.in-Some.place reason here
    (step r here)) c.arrive.ensures.step)

pub returns-in-Act-clause-step : goal.returns-in-Act-clause-step
returns-in-Act-clause-step g c =
    let stage = c.args.self.now in
    let r = c.in-Act.field-0 in
    let here : request_place stage.trace r ≡ Some c.in-Some.place = ap (request_place stage.trace) (sym (c.rid_of.ensures ∙ ap rid_of c.in-Act.is)) ∙ sym c.place.ensures.place ∙ c.in-Some.is in
    rw c.in-Act.is (IfOk-map c.act.result (λ reason step. known_step stage c.act.new.self (Act r c.in-Act.choice) c.in-Some.place reason here (step r here)) c.act.ensures.step)

pub returns-in-Depart-clause-step : goal.returns-in-Depart-clause-step
returns-in-Depart-clause-step g c =
    let stage = c.args.self.now in
    let r = c.in-Depart.field-0 in
    let here : request_place stage.trace r ≡ Some c.in-Some.place = ap (request_place stage.trace) (sym (c.rid_of.ensures ∙ ap rid_of c.in-Depart.is)) ∙ sym c.place.ensures.place ∙ c.in-Some.is in
    rw c.in-Depart.is (IfOk-map c.depart.result
    (λ reason step. known_step stage c.depart.new.self (Depart r) c.in-Some.place reason here
    (step r here)) c.depart.ensures.step)
