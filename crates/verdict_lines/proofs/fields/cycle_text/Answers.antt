use Rattle.std.proofs.Common.{◌++◌, ◌∙◌, ap₂, sym}
use Rattle.verdict_lines.proofs.Cycles.{one_more}
use Rattle.verdict_lines.proofs.fields.cycle_text.Goals as goal

pub loop-node-preserved : goal.loop-node-preserved
loop-node-preserved c =
    c.in_ok-extend_from_slice.ensures.items
    ∙ ap₂ (λ a b. a ++ b) c.loop-node.invariant (c.as_bytes.ensures.value ∙ c.in_ok-node_text.ensures)
    ∙ sym (one_more c.args.nodes.now c.loop-node.node-index _ c.loop-node-test.true)
