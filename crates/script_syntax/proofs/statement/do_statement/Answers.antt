use Rattle.std.proofs.Common.{◌∙◌, ◌∷◌}
use Rattle.script_tree.specs.Syntax as tree
use Rattle.script_grammar.specs.Machine.{act, said, of_expression}
use Rattle.script_syntax.proofs.Descend.{act_runs}
use Rattle.script_syntax.proofs.statement.do_statement.Goals as goal

pub returns-clause-gives : goal.returns-clause-gives
returns-clause-gives c = λ k vs.
    c.in_ok-value.ensures.gives (act (said (tree.do_ c.args.at)) ∷ k) vs
    ∙ act_runs (said (tree.do_ c.args.at)) c.ended.new.tokens k (of_expression c.in_ok-value.value ∷ vs)
