use Rattle.std.proofs.Common.{◌≡◌, ◌∙◌, ◌<◌, ap, sym, refl, true, false, ◌+◌, length, drop, Some, arith}
use Rattle.std.proofs.Math.ListN.{set}
use Rattle.period.specs.Traces.{request_of}
use Rattle.script_tree.specs.declared.path.Path.{Path}
use Rattle.script_meaning.specs.Conduct.{Ending, Ends}
use Rattle.script_meaning.specs.Replay.{ending_with, next_of}
use Rattle.replayer.specs.Differences.{is_same_response}
use Rattle.replayer.specs.Opened.{opened_with}
use Rattle.replayer.specs.Standings.{answers_in, first_waiting, departed_in}
use Rattle.replayer.specs.Stages.{standing_of, kept_of}
use Rattle.replayer.specs.declared.standing.Standing.TheVariants.{Departed}
use Rattle.replayer.proofs.StageFacts.{shows_departure, opened_more, opened, open_is, departure_told, puts_at}
use Rattle.replayer.proofs.stage.Stage.depart_with.Goals as goal

pub invariant_of-self-2-clause-opened : goal.invariant_of-self-2-clause-opened
invariant_of-self-2-clause-opened c =
    let stage = c.args.self.now in
    let ss = stage.standings.items in
    let inside : c.args.place < length ss = omega (arith, c.requires.place.within, stage.sized, stage.standings.ok.0) in
    opened_more stage.index.now stage.trace ss (set ss c.args.place Departed) c.requires.place.rid Departed stage.opened
    (puts_at stage.trace ss c.requires.place.rid c.args.place Departed c.requires.place.stands inside)
    (λ o is. absurd cc)

pub returns-then-not-is_same_response-clause-step : goal.returns-then-not-is_same_response-clause-step
returns-then-not-is_same_response-clause-step c = λ r here past scene h.
    let stage = c.args.self.now in
    let response = c.args.response.now in
    let k = c.requires.next r here in
    let next : next_of stage.index.now stage.trace scene r ≡ Some (Ends response k.2.0) =
    ap (ending_with stage.index.now (request_of stage.trace r)) (h.answers r) ∙ k.1 ∙ ap Some k.2.1 in
    record {
      named = departure_told stage.index.now stage.trace scene r response k.2.0 false next
          (ap (is_same_response response) (sym (c.in_ok-traced.ensures r here)) ∙ sym c.is_same_response.ensures
          ∙ c.if-not-is_same_response.true);
      shown = λ is. absurd cc;
    }

pub returns-clause-step : goal.returns-clause-step
returns-clause-step c = λ r here past scene h.
    let stage = c.args.self.now in
    let ss = stage.standings.items in
    let inside : c.args.place < length ss = omega (arith, c.requires.place.within, stage.sized, stage.standings.ok.0) in
    let response = c.args.response.now in
    let answers = answers_in (standing_of stage r) in
    let k : (x : Ending) × (ending_with stage.index.now (request_of stage.trace r) answers ≡ Some x) × ((path : Path) × (x ≡ Ends response path)) = c.requires.next r here in
    let e : ending_with stage.index.now (request_of stage.trace r) answers ≡ Some (Ends response k.2.0) = k.1 ∙ ap Some k.2.1 in
    let w = opened stage.index.now (request_of stage.trace r) answers (Ends response k.2.0) e in
    let s = open_is (standing_of stage r) w.1 w.3 in
    let next : next_of stage.index.now stage.trace scene r ≡ Some (Ends response k.2.0) = ap (ending_with stage.index.now (request_of stage.trace r)) (h.answers r) ∙ e in
    record {
      named = departure_told stage.index.now stage.trace scene r response k.2.0 true next
          (ap (is_same_response response) (sym (c.in_ok-traced.ensures r here)) ∙ sym c.is_same_response.ensures
          ∙ c.if-not-is_same_response.false);
      shown = λ _. shows_departure stage.index.now stage.trace past scene (kept_of stage) r
          (opened_with s.0 w.1) _ h s.1 (puts_at stage.trace ss r c.args.place Departed here inside) refl
          (c.first_waiting-self.ensures ∙ ap (λ xs. stage.waiting + first_waiting (departed_in stage.trace xs) (drop stage.waiting stage.trace)) c.deref.ensures.value);
    }
