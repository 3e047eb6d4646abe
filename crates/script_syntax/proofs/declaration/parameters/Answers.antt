use Rattle.std.proofs.Common.{◌∙◌, ap, sym, ◌∷◌, [], ◌++◌, List}
use Rattle.script_tokens.specs.declared.word.Word.TheVariants as w
use Rattle.script_grammar.specs.Machine.{Symbol, of_names, adds_name, act, a_name, more_names, parameters}
use Rattle.script_syntax.specs.Parses.{reading, names_value}
use Rattle.script_syntax.proofs.Descend.{follows, parameters_run}
use Rattle.script_syntax.proofs.declaration.parameters.Goals as goal

pub returns-clause-gives : goal.returns-clause-gives
returns-clause-gives c =
    let l : List Symbol = a_name ∷ act adds_name ∷ more_names w.Close ∷ [] in
    follows names_value (parameters ∷ []) (of_names [] ∷ []) c.args.tokens.now l
    (of_names c.in_ok-names.names ∷ []) c.args.tokens.now c.some_names.new.tokens c.some_names.result
    (λ k vs.
    parameters_run c.args.tokens.now (sym c.stands.ensures ∙ c.if-stands.false) k (of_names [] ∷ vs)
    ∙ ap (λ xs. reading c.args.tokens.now (l ++ k) (of_names xs ∷ vs)) (sym c.in_ok-names.ensures)) c.some_names.ensures.gives
