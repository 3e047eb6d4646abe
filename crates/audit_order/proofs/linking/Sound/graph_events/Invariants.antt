use Rattle.std.proofs.Common.{◌≡◌, ◌<◌, ℕ, length, Some}
use Rattle.basis.specs.Lists.{nth}
use Rattle.event_order.specs.declared.graph.Event.{Event}
use Rattle.audit_order.specs.Built.{IsEventOf}
use Rattle.audit_order.proofs.linking.Sound.graph_events.Given as goal

abbrev pub invariant-loop-place : goal.invariant-loop-place
invariant-loop-place l = record {
  count : length l.made.items ≡ l.place;
  each : (i : ℕ) → i < l.place → (e : Event) × (nth l.made.items i ≡ Some e) × IsEventOf l.self.trace.now l.self.report.now i e;
}
