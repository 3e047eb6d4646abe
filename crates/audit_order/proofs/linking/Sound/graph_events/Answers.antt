use Rattle.std.proofs.Common.{◌≡◌, ◌∙◌, ◌<◌, ◌+◌, ℕ, length, Some, ap, sym, subst, arith}
use Rattle.basis.specs.Lists.{nth}
use Rattle.event_order.specs.declared.graph.Event.{Event}
use Rattle.audit_order.specs.Built.{IsEventOf}
use Rattle.audit_order.proofs.Numbered.{each_more}
use Rattle.audit_order.proofs.linking.Sound.graph_events.Goals as goal

pub loop-place-init : goal.loop-place-init
loop-place-init c = record { count = ap length c.in_ok-made.ensures.items; each = λ i lt. absurd (omega arith) }

pub loop-place-preserved : goal.loop-place-preserved
loop-place-preserved c =
    let s = c.args.self.now in
    let i = c.loop-place.place in
    record {
      count = omega (arith, c.in_ok-push.ensures.len, c.loop-place.invariant.count);
      each = subst (λ xs. (k : ℕ) → k < i + 1 → (e : Event) × (nth xs k ≡ Some e) × IsEventOf s.trace.now s.report.now k e) (sym c.in_ok-push.ensures.items)
          (each_more (λ k e. IsEventOf s.trace.now s.report.now k e) c.loop-place.made.items c.graph_event.result i c.loop-place.invariant.count c.loop-place.invariant.each c.graph_event.ensures);
    }

pub returns : goal.returns
returns c =
    let all : c.loop-place.place ≡ length c.args.self.now.trace.now = omega arith in
    record { count = c.loop-place.invariant.count ∙ all; each = λ i lt. c.loop-place.invariant.each i (omega arith) }
