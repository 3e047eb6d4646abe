use Rattle.std.proofs.Common.{◌<◌, ◌+◌, length, refl, sym, subst, arith}
use Rattle.std.specs.BTreeSet.{contains}
use Rattle.std.specs.Ordering.{nat_cmp}
use Rattle.event_order.specs.declared.graph.Event.TheVariants.{Departure}
use Rattle.event_order.specs.declared.window.Window.{Window}
use Rattle.event_order.specs.Window.{HasDeparted}
use Rattle.event_order.proofs.Members.{set_leaves}
use Rattle.event_order.proofs.Steps.{event_at, one_event}
use Rattle.event_order.proofs.Windows.{departure_leaves, nothing_leaves}
use Rattle.event_order.proofs.window.Window.start_at.Goals as goal
use Rattle.event_order.proofs.window.Window.start_at.Goals.{in-Departure, in_default}

pub loop-i-preserved : goal.loop-i-preserved
loop-i-preserved c = λ xs j l window.
    let g = c.args.graph.now in
    let i = c.loop-i.i in
    let set = contains nat_cmp c.loop-i.self.left in
    let inside : i < length g.trace.items = omega arith in
    let before = c.loop-i.invariant xs j (omega (arith, l)) window in
    elim c.match-index.branch [
      | in-Departure w ↦
          let y = w.in-Departure.y in
          let at = event_at g i _ (Departure y) inside c.index.ensures w.in-Departure.is in
          let leaves = set_leaves c.loop-i.self.left w.remove.new.self y w.remove.ensures.updates in
          subst (λ (v : Window). HasDeparted g xs (contains nat_cmp v.left) (i + 1) j) (sym w.self-is)
          (departure_leaves g xs c.requires.graph set _ i j y at leaves before)
      | in_default w ↦
          let here = event_at g i _ _ inside c.index.ensures refl in
          subst (λ (v : Window). HasDeparted g xs (contains nat_cmp v.left) (i + 1) j) (sym w.self-is)
          (nothing_leaves g xs set i j (λ y at. w.in_default.not-Departure y (one_event g i _ (Departure y) here at)) before)
    ]
