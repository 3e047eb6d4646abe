use Rattle.std.proofs.Common.{sym, subst, take}
use Rattle.history.specs.Names.{names}
use Rattle.whole_history.proofs.Walking.{names_more}
use Rattle.whole_history.proofs.walk.walk.Goals as goal

pub loop-happening-preserved : goal.loop-happening-preserved
loop-happening-preserved g c =
    let history = c.as_slice-happening-items.result.now in
    subst (λ ns. g.D.Draft.is_of ns c.take.new.self) (sym (names_more history c.loop-happening.happening-index c.happening-item.result c.loop-happening-test.true c.happening-item.is))
    (c.in_ok-take.ensures (names (take c.loop-happening.happening-index history)) c.loop-happening.invariant)
