use Rattle.std.proofs.Common.{◌≡◌, ◌+◌, ◌<◌, false, length, sym, ◌∙◌, subst, arith}
use Rattle.event_order.specs.declared.placing.Placing.{Placing}
use Rattle.event_order.specs.declared.graph.Event.TheVariants.{Arrival, Departure}
use Rattle.event_order.specs.Standing.{IsStanding, IsCovering}
use Rattle.event_order.proofs.Members.{set_enters}
use Rattle.event_order.proofs.Steps.{pass_arrival, pass_arrival_covers, pass_departure, pass_departure_covers}
use Rattle.event_order.proofs.Steps.{settles, stops_at_end, stops_at_departure, mark_is, event_at}
use Rattle.event_order.proofs.placing.Placing.advance.Goals as goal
use Rattle.event_order.proofs.placing.Placing.advance.Goals.{in-Arrival+in_ok-insert-in-Arrival, in-Departure+else-not-index}

pub loop-self-preserved : goal.loop-self-preserved
loop-self-preserved c =
    let g = c.args.graph.now in
    let s = c.loop-self.self in
    let inv = c.loop-self.invariant in
    let l : s.passed < length g.trace.items = omega arith in
    let onward = λ (t : Placing). (t.order ≡ c.args.self.now.order)
    × IsStanding g (record t { passed = t.passed + 1 }) × IsCovering g (record t { passed = t.passed + 1 }) in
    elim c.match-index.branch [
      | in-Arrival+in_ok-insert-in-Arrival w ↦
          let at = event_at g s.passed _ (Arrival w.in-Arrival.x) l c.index.ensures w.in-Arrival.is in
          let enters = set_enters s.free w.insert.new.self w.in-Arrival.x w.in_ok-insert-in-Arrival.ensures.updates in
          subst onward (sym w.self-is)
          (inv.0, pass_arrival g _ _ _ _ _ _ c.requires.graph inv.1 at enters, pass_arrival_covers g _ s.is_placed.items _ _ _ _ inv.2 at enters)
      | in-Departure+else-not-index w ↦
          let y = w.in-Departure.y in
          let at = event_at g s.passed _ (Departure y) l c.index.ensures w.in-Departure.is in
          let inside = c.requires.graph.departure s.passed y at in
          let placed = mark_is g _ _ _ _ inv.1 y _ inside w.index-in-Departure.ensures ∙ w.if-not-index.false in
          subst onward (sym w.self-is)
          (inv.0, pass_departure g _ _ _ _ _ inv.1 at placed, pass_departure_covers g _ s.is_placed.items _ _ _ inv.2 at)
    ]

pub returns-then-not-index-clause-settled : goal.returns-then-not-index-clause-settled
returns-then-not-index-clause-settled c =
    let g = c.args.graph.now in
    let s = c.loop-self.self in
    let inv = c.loop-self.invariant in
    let y = c.in-Departure.y in
    let at = event_at g s.passed _ (Departure y) (omega arith) c.index.ensures c.in-Departure.is in
    let left = mark_is g _ _ _ _ inv.1 y _ (c.requires.graph.departure s.passed y at) c.index-in-Departure.ensures ∙ c.if-not-index.true in
    settles g _ _ _ _ inv.1 inv.2 (stops_at_departure g _ s.is_placed.items (λ q. false) _ y at left)

pub returns-clause-settled : goal.returns-clause-settled
returns-clause-settled c =
    let inv = c.loop-self.invariant in
    settles _ _ _ _ _ inv.1 inv.2 (stops_at_end _ _ c.loop-self.self.is_placed.items (λ q. false) _ (omega arith))
