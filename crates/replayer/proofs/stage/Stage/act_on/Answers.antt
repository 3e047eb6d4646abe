use Rattle.std.proofs.Common.{ℕ, ◌≡◌, ◌∙◌, ◌<◌, List, ap, sym, refl, subst, true, false, Some, length, get_or, arith, Result, Ok, Err, OnOk, OnErr}
use Rattle.std.specs.declared.alloc.AllocError.{AllocError}
use Rattle.basis.proofs.Options.{some_one}
use Rattle.script_tree.specs.Programs.{Program}
use Rattle.period.specs.Traces.{request_of}
use Rattle.script_tree.specs.Datum.{Datum}
use Rattle.script_tree.specs.declared.operation.Op.{Op}
use Rattle.period.specs.declared.trace.TraceEvent.{TraceEvent}
use Rattle.script_meaning.specs.Conduct.{Wants}
use Rattle.period.specs.declared.schedule.Moment.{Moment}
use Rattle.script_meaning.specs.Replay.{Scene, ending_of, ending_with, next_of}
use Rattle.script_tree.specs.Objects.{plausible}
use Rattle.object_set.specs.Applied.{Does, takes}
use Rattle.replayer.specs.Opened.{Opened, opened_with, with_answer}
use Rattle.trace_index.specs.Places.{request_place}
use Rattle.replayer.specs.Standings.{standing_at, standing_in, answers_in, Puts, PutsAnswer, AreOpened}
use Rattle.replayer.specs.Stages.{standing_of, kept_of, NextAt, Shows}
use Rattle.replayer.specs.declared.stage.Stage.{Stage}
use Rattle.replayer.specs.declared.runner.Next.TheVariants as told
use Rattle.replayer.specs.declared.standing.Standing.{Standing}
use Rattle.replayer.specs.declared.standing.Standing.TheVariants.{Away, Open}
use Rattle.object_set.proofs.Sets.{fits_op, fits_set}
use Rattle.replayer.proofs.StageFacts.{shows_act, opened_more, answered_opened, opened, act_told, open_is, puts_at}
use Rattle.replayer.proofs.stage.Stage.act_on.Goals as goal

-- what stands at the place gets an answer
put : (trace : List TraceEvent) (old new : List Standing) (r place : ℕ) (o : Opened) (d : Datum)
    → request_place trace r ≡ Some place → place < length old → standing_in trace old r ≡ Open o
    → PutsAnswer old place d new → Puts trace old new r (Open (with_answer o d))
put trace old new r place o d here inside is_open puts =
    let stands : get_or old place Away ≡ Open o = ap (standing_at old) (sym here) ∙ is_open in
    let P : List Standing → Type 0 = λ ss. Puts trace old ss r (Open (with_answer o d)) in
    subst P (sym (puts o stands)) (puts_at trace old r place (Open (with_answer o d)) here inside)

-- what is wanted at a place
pub wanted : (stage : Stage) (place r : ℕ) (op : Op) → NextAt place stage (Some (told.Wants op)) → request_place stage.trace r ≡ Some place
    → (ending_with stage.index.now (request_of stage.trace r) (answers_in (standing_of stage r)) ≡ Some (Wants op))
wanted stage place r op next here = let k = next r here in k.1 ∙ ap (λ x. Some x) k.2

pub apply-requires : goal.apply-requires
apply-requires c =
    fits_op c.args.self.now.objects c.args.op.now
    (fits_set c.args.self.now.index.now c.args.self.now.objects c.args.op.now.object c.args.op.now.act c.args.self.now.set
    c.requires.fits)

-- the request that wanted the operation
record Asks (stage : Stage) (r : ℕ) (op : Op) : Type 0 where
  opened : Opened
  stands : standing_of stage r ≡ Open opened
  traced : request_of stage.trace r ≡ Some opened.request
  wants : ending_of stage.index.now opened.request opened.answers ≡ Wants op

asks : (stage : Stage) (r : ℕ) (op : Op)
    → ending_with stage.index.now (request_of stage.trace r) (answers_in (standing_of stage r)) ≡ Some (Wants op)
    → Asks stage r op
asks stage r op h =
    let w = opened stage.index.now (request_of stage.trace r) (answers_in (standing_of stage r)) (Wants op) h in
    let s = open_is (standing_of stage r) w.1 w.3 in
    let traced = (stage.opened r (opened_with s.0 w.1) s.1).traced in
    let same : w.0 ≡ s.0 = some_one w.0 s.0 (sym w.2 ∙ traced) in
    record { opened = opened_with s.0 w.1; stands = s.1; traced = traced; wants = ap (λ q. ending_of stage.index.now q w.1) (sym same) ∙ w.4 }

-- all are the trace's, whether the answer was put or not
put_opened : (program : Program) (trace : List TraceEvent) (old new : List Standing) (r place : ℕ) (o : Opened)
    (d : Datum) (op : Op) (result : Result (Unit {0}) AllocError)
    → AreOpened program trace old → request_place trace r ≡ Some place → place < length old
    → standing_in trace old r ≡ Open o → request_of trace r ≡ Some o.request
    → ending_of program o.request o.answers ≡ Wants op
    → OnOk result (PutsAnswer old place d new) → OnErr result (new ≡ old) → AreOpened program trace new
put_opened program trace old new r place o d op (Ok done) before here inside is_open known wants puts refused =
    opened_more program trace old new r (Open (with_answer o d)) before
    (put trace old new r place o d here inside is_open puts) (answered_opened program trace r o d op known wants)
put_opened program trace old new r place o d op (Err e) before here inside is_open known wants puts refused =
    let P : List Standing → Type 0 = λ ss. AreOpened program trace ss in
    subst P (sym refused) before

pub invariant_of-self-2-clause-opened : goal.invariant_of-self-2-clause-opened
invariant_of-self-2-clause-opened c =
    let stage = c.args.self.now in
    let ss = stage.standings.items in
    let rid = c.requires.place.rid in
    let inside : c.args.place < length ss = omega (arith, c.requires.place.within, stage.sized, stage.standings.ok.0) in
    let op = c.args.op.now in
    let a = asks stage rid op (wanted stage c.args.place rid op c.requires.next c.requires.place.stands) in
    put_opened stage.index.now stage.trace ss c.put_answer.new.standings.items rid c.args.place a.opened c.in-Ok.answer op c.put_answer.result
    stage.opened c.requires.place.stands inside a.stands a.traced a.wants c.put_answer.ensures.put c.put_answer.ensures.refused

-- what is wanted in a scene that the stage shows
next_in : (stage : Stage) (place r : ℕ) (op : Op) (past : List Moment) (scene : Scene) → NextAt place stage (Some (told.Wants op))
    → request_place stage.trace r ≡ Some place → Shows past scene stage → next_of stage.index.now stage.trace scene r ≡ Some (Wants op)
next_in stage place r op past scene next here h = ap (ending_with stage.index.now (request_of stage.trace r)) (h.answers r) ∙ wanted stage place r op next here

pub returns-in-Err-Other-clause-step : goal.returns-in-Err-Other-clause-step
returns-in-Err-Other-clause-step c = λ r here past scene h.
    let stage = c.args.self.now in
    let op = c.args.op.now in
    let refused : (takes op c.args.choice stage.objects ≡ false) × (c.apply.new.self ≡ stage.objects) =
    rw (c.in-Err-Other.is, c.in-Err-Other.field-0-is) at c.apply.ensures in
    record {
      named = act_told stage.index.now stage.trace scene r c.args.choice op false (next_in stage c.args.place r op past scene c.requires.next here h)
          (ap (plausible op.act c.args.choice) (h.objects op.object) ∙ refused.0);
      shown = λ is. absurd cc;
    }

pub returns-clause-step : goal.returns-clause-step
returns-clause-step c = λ r here past scene h.
    let stage = c.args.self.now in
    let ss = stage.standings.items in
    let inside : c.args.place < length ss = omega (arith, c.requires.place.within, stage.sized, stage.standings.ok.0) in
    let op = c.args.op.now in
    let k = wanted stage c.args.place r op c.requires.next here in
    let a = asks stage r op k in
    let next : next_of stage.index.now stage.trace scene r ≡ Some (Wants op) = ap (ending_with stage.index.now (request_of stage.trace r)) (h.answers r) ∙ k in
    let applied : (takes op c.args.choice stage.objects ≡ true) × Does op c.args.choice stage.objects c.apply.new.self c.in-Ok.answer = rw c.in-Ok.is at c.apply.ensures in
    record {
      named = act_told stage.index.now stage.trace scene r c.args.choice op true next (ap (plausible op.act c.args.choice) (h.objects op.object) ∙ applied.0);
      shown = λ _. shows_act stage.index.now stage.trace past scene (kept_of stage) r c.args.choice op a.opened c.in-Ok.answer _ h next a.stands applied.1
          (put stage.trace ss c.put_answer.new.standings.items r c.args.place a.opened c.in-Ok.answer here inside a.stands c.in_ok-put_answer.ensures.put) refl;
    }
