use Rattle.std.proofs.Common.{◌≡◌, ◌+◌, ◌≤◌, length, ◌∙◌, ap, arith, rules}
use Rattle.std.proofs.lemmas.List.{length_push}
use Rattle.event_order.proofs.Placed.{takes}
use Rattle.event_order.proofs.Steps.{placed_few}
use Rattle.event_order.proofs.placing.place_all.Goals as goal

pub place-requires-clause-taken : goal.place-requires-clause-taken
place-requires-clause-taken c = takes c.args.graph.now c.loop-x.placing _ c.in-Some.x c.loop-x.invariant (search rules) (search rules) (search rules)

pub loop-x-smaller : goal.loop-x-smaller
loop-x-smaller c =
    let ys = c.place.new.self.order.items in
    let xs = c.loop-x.placing.order.items in
    let few : length ys ≤ length c.args.graph.now.nodes.items = placed_few c.args.graph.now ys c.in_ok-place.ensures.settled.holds.placed in
    let more : length ys ≡ length xs + 1 = ap length c.in_ok-place.ensures.order ∙ length_push xs c.in-Some.x in
    omega arith
