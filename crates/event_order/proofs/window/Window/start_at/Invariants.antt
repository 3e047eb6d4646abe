use Rattle.event_order.specs.Window.{Slides}
use Rattle.event_order.proofs.window.Window.start_at.Given as goal

abbrev pub invariant-loop-i : goal.invariant-loop-i
invariant-loop-i l = Slides l.graph l.fn.self l.self l.i
