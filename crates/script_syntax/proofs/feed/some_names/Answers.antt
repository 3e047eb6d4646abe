use Rattle.std.proofs.Common.{◌∙◌, ap, sym, ◌∷◌, []}
use Rattle.script_grammar.specs.Machine.{act, adds_name, a_name, more_names, of_name, of_names}
use Rattle.script_syntax.specs.Parses.{reading, names_value}
use Rattle.script_syntax.proofs.Descend.{act_runs, follows}
use Rattle.script_syntax.proofs.feed.some_names.Goals as goal

pub returns-clause-gives : goal.returns-clause-gives
returns-clause-gives c =
    follows names_value (a_name ∷ act adds_name ∷ more_names c.args.close ∷ []) (of_names c.args.names ∷ [])
    c.args.tokens.now (more_names c.args.close ∷ []) (of_names c.push.new.self ∷ []) c.name.new.tokens
    c.more_names.new.tokens c.more_names.result
    (λ k vs.
    c.in_ok-name.ensures.gives (act adds_name ∷ more_names c.args.close ∷ k) (of_names c.args.names ∷ vs)
    ∙ act_runs adds_name c.name.new.tokens (more_names c.args.close ∷ k) (of_name c.in_ok-name.field-0 ∷ of_names c.args.names ∷ vs)
    ∙ ap (λ xs. reading c.name.new.tokens (more_names c.args.close ∷ k) (of_names xs ∷ vs)) (sym c.in_ok-push.ensures.ok)) c.more_names.ensures.gives
