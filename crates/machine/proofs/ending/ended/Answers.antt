use Rattle.script_meaning.specs.Conduct.{Ends}
use Rattle.machine.proofs.ending.ended.Goals as goal

pub returns-clause-ends : goal.returns-clause-ends
returns-clause-ends c ops more = λ i. Ends (c.take_response.ensures.response ops more i) (c.in_ok-path.ensures ops more i)
