use Rattle.precedence_graph.proofs.Precedence.{path_precedes, precedes_path}
use Rattle.precedence_graph.proofs.law.paths_are_precedence.Goals as goal

pub returns : goal.returns
returns c = λ trace edges balanced are a b r s p q from to.
    (path_precedes trace edges balanced are a b r s p q from to, precedes_path trace edges balanced are a b r s p q from to)
