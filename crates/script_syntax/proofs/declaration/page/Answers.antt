use Rattle.std.proofs.Common.{◌∙◌, ◌∷◌}
use Rattle.script_grammar.specs.Machine.{of_name, of_statements, paged, act, block}
use Rattle.script_syntax.proofs.Descend.{act_runs}
use Rattle.script_syntax.proofs.declaration.page.Goals as goal

pub returns-clause-gives : goal.returns-clause-gives
returns-clause-gives c = λ k vs.
    c.in_ok-path.ensures.gives (block (act (paged c.args.at) ∷ k)) vs
    ∙ c.in_ok-body.ensures.gives (act (paged c.args.at) ∷ k) (of_name c.in_ok-path.path ∷ vs)
    ∙ act_runs (paged c.args.at) c.block.new.tokens k (of_statements c.in_ok-body.body ∷ of_name c.in_ok-path.path ∷ vs)
