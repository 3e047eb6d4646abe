use Rattle.std.proofs.Common.{◌≡◌, ◌∙◌, ◌<◌, ◌+◌, ℕ, length, Some, ap, sym, subst, arith}
use Rattle.basis.specs.Lists.{nth}
use Rattle.basis.proofs.Options.{some_is}
use Rattle.basis.proofs.Places.{nth-get_or}
use Rattle.event_order.specs.declared.graph.Node.{Node as GraphNode}
use Rattle.audit_meaning.specs.Nodes.{nodes}
use Rattle.audit_meaning.specs.declared.node.Node.{Node}
use Rattle.audit_order.specs.Built.{IsNodeOf}
use Rattle.audit_order.proofs.Numbered.{each_more}
use Rattle.audit_order.proofs.linking.Sound.graph_nodes.Goals as goal

pub loop-name-init : goal.loop-name-init
loop-name-init c = record { count = ap length c.in_ok-made.ensures.items; each = λ i lt. absurd (omega arith) }

pub loop-name-preserved : goal.loop-name-preserved
loop-name-preserved c =
    let s = c.args.self.now in
    let i = c.loop-name.name-index in
    let N = nodes s.trace.now s.report.now in
    let names = c.deref-name-items.ensures.value ∙ c.requires.sound.numbering.names in
    record {
      count = omega (arith, c.in_ok-push.ensures.len, c.loop-name.invariant.count);
      each = subst (λ xs. (k : ℕ) → k < i + 1 → (v : GraphNode) × (nth xs k ≡ Some v)
          × ((n : Node) → nth N k ≡ Some n → IsNodeOf s.trace.now s.report.now n v)) (sym c.in_ok-push.ensures.items)
          (each_more (λ k v. (n : Node) → nth N k ≡ Some n → IsNodeOf s.trace.now s.report.now n v) c.loop-name.made.items c.in_ok-graph_node.field-0 i c.loop-name.invariant.count c.loop-name.invariant.each
          (λ n at. subst (λ m. IsNodeOf s.trace.now s.report.now m c.in_ok-graph_node.field-0) (some_is (sym (nth-get_or _ c.deref-name-items.result.now i c.loop-name-test.true) ∙ ap (λ xs. nth xs i) names ∙ at)) c.in_ok-graph_node.ensures));
    }

pub returns : goal.returns
returns c =
    let s = c.args.self.now in
    let names = c.deref-name-items.ensures.value ∙ c.requires.sound.numbering.names in
    let all : c.loop-name.name-index ≡ length (nodes s.trace.now s.report.now) = omega (arith, ap length names) in
    record { count = c.loop-name.invariant.count ∙ all; each = λ i lt. c.loop-name.invariant.each i (omega arith) }
