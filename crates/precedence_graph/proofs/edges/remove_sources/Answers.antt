use Rattle.precedence_graph.proofs.Sources.{source_more}
use Rattle.precedence_graph.proofs.edges.remove_sources.Goals as goal

pub loop-before-preserved : goal.loop-before-preserved
loop-before-preserved c = λ a.
    source_more c.args.edges.now c.loop-before.before-index a (0, 0) _ _ _ c.loop-before-test.true (c.remove.ensures.updates.0 a) (c.loop-before.invariant a)
