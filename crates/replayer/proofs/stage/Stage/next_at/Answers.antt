use Rattle.std.proofs.Common.{◌≡◌, ◌∙◌, ◌<◌, ◌≢◌, Some, length, ap, sym, subst, arith}
use Rattle.period.specs.Traces.{request_of}
use Rattle.script_meaning.specs.Conduct.{Undefined}
use Rattle.script_meaning.specs.Replay.{ending_of, ending_with}
use Rattle.replayer.specs.Standings.{answers_in}
use Rattle.replayer.specs.Stages.{standing_of}
use Rattle.replayer.specs.declared.standing.Standing.TheVariants.{Open}
use Rattle.replayer.proofs.Wants.{wants_what_fits}
use Rattle.replayer.proofs.StageFacts.{stands_in}
use Rattle.replayer.proofs.stage.Stage.next_at.Goals as goal

pub next-requires : goal.next-requires
next-requires g c =
    let stage = c.args.self.now in
    let rid = c.requires.rid in
    let o = c.in-Open.open in
    let inside : c.args.place < length stage.standings.items = omega (arith, c.requires.within, stage.sized, stage.standings.ok.0) in
    let stands = stands_in stage.trace stage.standings.items rid c.args.place c.index.result.now c.requires.stands inside c.index.ensures in
    let defined = (stage.opened rid o (stands ∙ c.in-Open.is)).defined in
    subst (λ q. ending_of stage.index.now q c.answers.result.now ≢ Undefined) (sym c.request-request.ensures)
    (subst (λ ds. ending_of stage.index.now o.request ds ≢ Undefined) (sym c.answers.ensures) defined)

pub returns-clause-fits : goal.returns-clause-fits
returns-clause-fits g c = wants_what_fits c.args.self.now c.request-request.result.now c.answers.result.now c.in_ok-next.next c.keeps_limits.ensures c.in_ok-next.ensures

pub returns-clause-next : goal.returns-clause-next
returns-clause-next g c = λ r here.
    let stage = c.args.self.now in
    let o = c.in-Open.open in
    let inside : c.args.place < length stage.standings.items = omega (arith, c.requires.within, stage.sized, stage.standings.ok.0) in
    let stands : standing_of stage r ≡ Open o = stands_in stage.trace stage.standings.items r c.args.place c.index.result.now here inside c.index.ensures ∙ c.in-Open.is in
    let traced : request_of stage.trace r ≡ Some o.request = (stage.opened r o stands).traced in (
      ending_of stage.index.now c.request-request.result.now c.answers.result.now,
      ap (λ x. ending_with stage.index.now x (answers_in (standing_of stage r))) traced
          ∙ ap (λ s. ending_with stage.index.now (Some o.request) (answers_in s)) stands
          ∙ ap (λ q. Some (ending_of stage.index.now q o.answers)) (sym c.request-request.ensures)
          ∙ ap (λ ds. Some (ending_of stage.index.now c.request-request.result.now ds)) (sym c.answers.ensures),
      c.in_ok-next.ensures,
    )
