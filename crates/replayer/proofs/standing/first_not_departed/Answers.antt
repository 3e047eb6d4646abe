use Rattle.std.proofs.Common.{◌∙◌, ◌<◌, length, ap, sym, arith}
use Rattle.std.proofs.lemmas.List.{drop_all}
use Rattle.replayer.specs.Differences.{first_not_departed}
use Rattle.replayer.specs.Standings.{departed_in}
use Rattle.trace_index.proofs.HeadFacts.{there, read_there}
use Rattle.replayer.proofs.StandingFacts.{passed, met}
use Rattle.replayer.proofs.standing.first_not_departed.Goals as goal

pub returns-in-Some : goal.returns-in-Some
returns-in-Some c =
    let es = c.args.trace.now in
    let place = c.loop-place.place in
    let inside : place < length es = omega (arith, c.loop-place-test.true, c.len-place-end.ensures) in
    let e = there es place inside in
    let told = c.left_open.ensures e.0 (c.head.ensures e.0 e.1) in
    sym (c.loop-place.invariant ∙ met (departed_in es c.args.standings.now) es place e.0 c.in-Some.reason inside
    (read_there es place e.0 e.1) (sym told ∙ c.in-Some.is))

pub loop-place-preserved : goal.loop-place-preserved
loop-place-preserved c =
    let es = c.args.trace.now in
    let place = c.loop-place.place in
    let inside : place < length es = omega (arith, c.loop-place-test.true, c.len-place-end.ensures) in
    let e = there es place inside in
    let told = c.left_open.ensures e.0 (c.head.ensures e.0 e.1) in
    c.loop-place.invariant ∙ passed (departed_in es c.args.standings.now) es place e.0 inside (read_there es place e.0 e.1) (sym told ∙ c.in_default.is)

pub returns : goal.returns
returns c = sym (c.loop-place.invariant ∙ ap (first_not_departed (departed_in c.args.trace.now c.args.standings.now))
    (drop_all c.loop-place.place c.args.trace.now (omega (arith, c.loop-place-test.false, c.len-place-end.ensures))))
