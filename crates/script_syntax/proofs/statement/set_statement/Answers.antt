use Rattle.std.proofs.Common.{◌∙◌, ◌∷◌}
use Rattle.script_tree.specs.Syntax as tree
use Rattle.script_grammar.specs.Machine.{act, bound, of_expression, of_name}
use Rattle.script_syntax.proofs.Descend.{act_runs}
use Rattle.script_syntax.proofs.statement.set_statement.Goals as goal

pub returns-clause-gives : goal.returns-clause-gives
returns-clause-gives c = λ k vs.
    c.in_ok-name.ensures.gives (act (bound (tree.set_ c.args.at)) ∷ k) vs
    ∙ act_runs (bound (tree.set_ c.args.at)) c.binding.new.tokens k (of_expression c.in_ok-name.value ∷ of_name c.in_ok-name.name ∷ vs)
