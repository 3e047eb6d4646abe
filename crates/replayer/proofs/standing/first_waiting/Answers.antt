use Rattle.std.proofs.Common.{◌∙◌, ◌<◌, length, arith}
use Rattle.replayer.specs.Standings.{departed_in}
use Rattle.replayer.proofs.StandingFacts.{waits_on, waits_here}
use Rattle.replayer.proofs.standing.first_waiting.Goals as goal

pub loop-place-preserved : goal.loop-place-preserved
loop-place-preserved c =
    let inside : c.loop-place.place < length c.args.trace.now = omega (arith, c.len.ensures) in
    c.loop-place.invariant ∙ waits_on (departed_in c.args.trace.now c.args.standings.now) c.args.trace.now c.loop-place.place c.waits.result inside c.waits.ensures c.if-not-waits.true

pub returns-else-not-waits : goal.returns-else-not-waits
returns-else-not-waits c =
    let inside : c.loop-place.place < length c.args.trace.now = omega (arith, c.len.ensures) in
    let here = waits_here (departed_in c.args.trace.now c.args.standings.now) c.args.trace.now c.loop-place.place c.waits.result inside c.waits.ensures c.if-not-waits.false in
    omega (arith, c.loop-place.invariant, here)
