use Rattle.std.proofs.Common.{◌≡◌, true, sym, ◌∙◌, subst}
use Rattle.std.specs.BTreeSet.{contains}
use Rattle.std.specs.Ordering.{nat_cmp}
use Rattle.event_order.specs.declared.graph.Event.TheVariants.{Arrival, Departure}
use Rattle.event_order.specs.Cycle.{IsLeast}
use Rattle.event_order.proofs.Members.{set_enters}
use Rattle.event_order.proofs.Steps.{event_at, node_at, arrival_inside, mark_is}
use Rattle.event_order.proofs.Windows.{departure_taken_in, departure_passed, arrival_taken_in, arrival_least, departure_least, first_is_least}
use Rattle.event_order.proofs.window.Window.take_in.Goals as goal

pub returns-in-Arrival-clause-window : goal.returns-in-Arrival-clause-window
returns-in-Arrival-clause-window c =
    let g = c.args.graph.now in
    let x = c.in-Arrival.x in
    let at = event_at g c.args.end _ (Arrival x) c.requires.inside c.index.ensures c.in-Arrival.is in
    let is = node_at g x c.index-in-Arrival.result.now (arrival_inside g c.requires.graph c.args.end x at) c.index-in-Arrival.ensures in
    arrival_taken_in g _ c.requires.graph c.requires.thin c.args.self.now c.start_at.new.self c.args.end x _
    at is c.requires.window c.start_at.ensures.start c.start_at.ensures.slides

pub returns-in-Arrival-clause-least : goal.returns-in-Arrival-clause-least
returns-in-Arrival-clause-least c =
    let g = c.args.graph.now in
    let x = c.in-Arrival.x in
    let at = event_at g c.args.end _ (Arrival x) c.requires.inside c.index.ensures c.in-Arrival.is in
    let is = node_at g x c.index-in-Arrival.result.now (arrival_inside g c.requires.graph c.args.end x at) c.index-in-Arrival.ensures in
    let first = first_is_least c.start_at.new.self.left c.first.result c.first.ensures.variant c.first.ensures.member c.first.ensures.least in
    arrival_least g _ c.requires.graph c.args.self.now c.start_at.new.self c.args.end x _ _ at is c.requires.window c.start_at.ensures.slides
    (subst (IsLeast (λ y. contains nat_cmp c.start_at.new.self.left y ≡ true)) (sym c.copied.ensures) first)

pub returns-in_ok-insert-in-Departure-clause-window : goal.returns-in_ok-insert-in-Departure-clause-window
returns-in_ok-insert-in-Departure-clause-window c =
    let g = c.args.graph.now in
    let y = c.in-Departure.y in
    let at = event_at g c.args.end _ (Departure y) c.requires.inside c.index.ensures c.in-Departure.is in
    departure_taken_in g _ c.args.self.now c.insert.new.self c.args.end y at
    (mark_is g _ _ _ _ c.requires.holds y _ (c.requires.graph.departure c.args.end y at) c.index-in-Departure.ensures ∙ c.if-not-index.true)
    (set_enters _ _ y c.in_ok-insert-in-Departure.ensures.updates) c.requires.window

pub returns-in_ok-insert-in-Departure-clause-least : goal.returns-in_ok-insert-in-Departure-clause-least
returns-in_ok-insert-in-Departure-clause-least c =
    let g = c.args.graph.now in
    let at = event_at g c.args.end _ (Departure c.in-Departure.y) c.requires.inside c.index.ensures c.in-Departure.is in
    departure_least g c.args.placing.now c.requires.graph c.args.end c.in-Departure.y at

pub returns-else-not-index-clause-window : goal.returns-else-not-index-clause-window
returns-else-not-index-clause-window c =
    let g = c.args.graph.now in
    let y = c.in-Departure.y in
    let at = event_at g c.args.end _ (Departure y) c.requires.inside c.index.ensures c.in-Departure.is in
    departure_passed g _ c.args.self.now c.args.end y at
    (mark_is g _ _ _ _ c.requires.holds y _ (c.requires.graph.departure c.args.end y at) c.index-in-Departure.ensures ∙ c.if-not-index.false)
    c.requires.window

pub returns-else-not-index-clause-least : goal.returns-else-not-index-clause-least
returns-else-not-index-clause-least c =
    let g = c.args.graph.now in
    let at = event_at g c.args.end _ (Departure c.in-Departure.y) c.requires.inside c.index.ensures c.in-Departure.is in
    departure_least g c.args.placing.now c.requires.graph c.args.end c.in-Departure.y at
