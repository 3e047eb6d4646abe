use Rattle.whole_history.proofs.TraceDrafts.{act_taken}
use Rattle.whole_history.proofs.traces.TraceDraftDraft.take.Goals as goal

pub returns-in-Act : goal.returns-in-Act
returns-in-Act c = λ names is. act_taken c.args.happening.now _ _ _ _ _ c.in-Act.is names c.args.self.now is
