use Rattle.std.proofs.Common.{◌∙◌, ◌∷◌, [], List}
use Rattle.std.proofs.lemmas.Result.{err_from_is_err_and}
use Rattle.script_tokens.specs.declared.word.Word.TheVariants as w
use Rattle.script_grammar.specs.Machine.{Symbol, Val, of_name, of_names, of_statements, puts, defined, act, word, a_name, parameters, block}
use Rattle.script_syntax.proofs.Descend.{act_runs, fails}
use Rattle.script_syntax.proofs.declaration.function.Goals as goal

pub returns-in_err-parameters-clause-gives : goal.returns-in_err-parameters-clause-gives
returns-in_err-parameters-clause-gives c =
    let p = err_from_is_err_and c.from_residual-in_err-parameters.result c.from_residual-in_err-parameters.ensures.1 in
    rw (p.1, p.2) (fails (a_name ∷ word w.Open ∷ act (puts (of_names [])) ∷ parameters ∷ block (act (defined c.args.at) ∷ [])) [] c.args.tokens.now (parameters ∷ []) (of_names [] ∷ []) c.take.new.tokens _
    (λ k vs.
    let l : List Symbol = block (act (defined c.args.at) ∷ k) in
    let us : List Val = of_name c.in_ok-name.name ∷ vs in (
      l,
      us,
      c.in_ok-name.ensures.gives (word w.Open ∷ act (puts (of_names [])) ∷ parameters ∷ l) vs
          ∙ c.in_ok-take.ensures.gives (act (puts (of_names [])) ∷ parameters ∷ l) us
          ∙ act_runs (puts (of_names [])) c.take.new.tokens (parameters ∷ l) us,
    )) c.in_err-parameters.ensures.gives)

pub returns-in_err-body-clause-gives : goal.returns-in_err-body-clause-gives
returns-in_err-body-clause-gives c =
    let p = err_from_is_err_and c.from_residual-in_err-body.result c.from_residual-in_err-body.ensures.1 in
    rw (p.1, p.2) (fails (a_name ∷ word w.Open ∷ act (puts (of_names [])) ∷ parameters ∷ block (act (defined c.args.at) ∷ [])) [] c.args.tokens.now (block []) [] c.parameters.new.tokens _
    (λ k vs.
    let l : List Symbol = block (act (defined c.args.at) ∷ k) in
    let us : List Val = of_name c.in_ok-name.name ∷ vs in (
      act (defined c.args.at) ∷ k,
      of_names c.in_ok-parameters.parameters ∷ us,
      c.in_ok-name.ensures.gives (word w.Open ∷ act (puts (of_names [])) ∷ parameters ∷ l) vs
          ∙ c.in_ok-take.ensures.gives (act (puts (of_names [])) ∷ parameters ∷ l) us
          ∙ act_runs (puts (of_names [])) c.take.new.tokens (parameters ∷ l) us
          ∙ c.in_ok-parameters.ensures.gives l us,
    )) c.in_err-body.ensures.gives)

pub returns-clause-gives : goal.returns-clause-gives
returns-clause-gives c = λ k vs.
    let l : List Symbol = block (act (defined c.args.at) ∷ k) in
    let us : List Val = of_name c.in_ok-name.name ∷ vs in
    c.in_ok-name.ensures.gives (word w.Open ∷ act (puts (of_names [])) ∷ parameters ∷ l) vs
    ∙ c.in_ok-take.ensures.gives (act (puts (of_names [])) ∷ parameters ∷ l) us
    ∙ act_runs (puts (of_names [])) c.take.new.tokens (parameters ∷ l) us
    ∙ c.in_ok-parameters.ensures.gives l us
    ∙ c.in_ok-body.ensures.gives (act (defined c.args.at) ∷ k) (of_names c.in_ok-parameters.parameters ∷ us)
    ∙ act_runs (defined c.args.at) c.block.new.tokens k (of_statements c.in_ok-body.body ∷ of_names c.in_ok-parameters.parameters ∷ us)
