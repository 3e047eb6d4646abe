use Rattle.precedence_graph.proofs.Greatest.{direct_since, since_direct}
use Rattle.precedence_graph.proofs.law.direct_from_since.Goals as goal

pub returns : goal.returns
returns c = λ trace comes place since is.
    (λ d. (d.departs, direct_since trace comes place since is d), λ d. since_direct trace comes place since is d.0 d.1)
