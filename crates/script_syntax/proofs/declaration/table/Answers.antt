use Rattle.std.proofs.Common.{◌∙◌, ap, sym, ◌∷◌, [], List}
use Rattle.std.proofs.lemmas.Result.{err_from_is_err_and}
use Rattle.script_tokens.specs.declared.word.Word.TheVariants as w
use Rattle.script_grammar.specs.Machine.{Symbol, Val, of_name, of_names, puts, adds_name, tabled, act, word, a_name, more_names}
use Rattle.script_syntax.specs.Parses.{reading}
use Rattle.script_syntax.proofs.Descend.{act_runs, fails}
use Rattle.script_syntax.proofs.declaration.table.Goals as goal

pub returns-in_err-columns-clause-gives : goal.returns-in_err-columns-clause-gives
returns-in_err-columns-clause-gives c =
    let p = err_from_is_err_and c.from_residual-in_err-columns.result c.from_residual-in_err-columns.ensures.1 in
    rw (p.1, p.2) (fails (a_name ∷ word w.Open ∷ act (puts (of_names [])) ∷ a_name ∷ act adds_name ∷ more_names w.Close ∷ word w.Semicolon ∷ act (tabled c.args.at) ∷ []) [] c.args.tokens.now
    (a_name ∷ act adds_name ∷ more_names w.Close ∷ []) (of_names c.new.result ∷ []) c.take.new.tokens _
    (λ k vs.
    let l : List Symbol = word w.Semicolon ∷ act (tabled c.args.at) ∷ k in
    let us : List Val = of_name c.in_ok-table.table ∷ vs in (
      l,
      us,
      c.in_ok-table.ensures.gives (word w.Open ∷ act (puts (of_names [])) ∷ a_name ∷ act adds_name ∷ more_names w.Close ∷ l) vs
          ∙ c.in_ok-take.ensures.gives (act (puts (of_names [])) ∷ a_name ∷ act adds_name ∷ more_names w.Close ∷ l) us
          ∙ act_runs (puts (of_names [])) c.take.new.tokens (a_name ∷ act adds_name ∷ more_names w.Close ∷ l) us
          ∙ ap (λ xs. reading c.take.new.tokens (a_name ∷ act adds_name ∷ more_names w.Close ∷ l) (of_names xs ∷ us)) (sym c.new.ensures),
    )) c.in_err-columns.ensures.gives)

pub returns-in_err-take-2-clause-gives : goal.returns-in_err-take-2-clause-gives
returns-in_err-take-2-clause-gives c =
    let p = err_from_is_err_and c.from_residual-in_err-take-2.result c.from_residual-in_err-take-2.ensures.1 in
    rw (p.1, p.2) (fails (a_name ∷ word w.Open ∷ act (puts (of_names [])) ∷ a_name ∷ act adds_name ∷ more_names w.Close ∷ word w.Semicolon ∷ act (tabled c.args.at) ∷ []) [] c.args.tokens.now
    (word w.Semicolon ∷ []) [] c.some_names.new.tokens _
    (λ k vs.
    let l : List Symbol = word w.Semicolon ∷ act (tabled c.args.at) ∷ k in
    let us : List Val = of_name c.in_ok-table.table ∷ vs in (
      act (tabled c.args.at) ∷ k,
      of_names c.in_ok-columns.columns ∷ us,
      c.in_ok-table.ensures.gives (word w.Open ∷ act (puts (of_names [])) ∷ a_name ∷ act adds_name ∷ more_names w.Close ∷ l) vs
          ∙ c.in_ok-take.ensures.gives (act (puts (of_names [])) ∷ a_name ∷ act adds_name ∷ more_names w.Close ∷ l) us
          ∙ act_runs (puts (of_names [])) c.take.new.tokens (a_name ∷ act adds_name ∷ more_names w.Close ∷ l) us
          ∙ ap (λ xs. reading c.take.new.tokens (a_name ∷ act adds_name ∷ more_names w.Close ∷ l) (of_names xs ∷ us)) (sym c.new.ensures)
          ∙ c.in_ok-columns.ensures.gives l us,
    )) c.in_err-take-2.ensures.gives)

pub returns-clause-gives : goal.returns-clause-gives
returns-clause-gives c = λ k vs.
    let l : List Symbol = word w.Semicolon ∷ act (tabled c.args.at) ∷ k in
    let us : List Val = of_name c.in_ok-table.table ∷ vs in
    c.in_ok-table.ensures.gives (word w.Open ∷ act (puts (of_names [])) ∷ a_name ∷ act adds_name ∷ more_names w.Close ∷ l) vs
    ∙ c.in_ok-take.ensures.gives (act (puts (of_names [])) ∷ a_name ∷ act adds_name ∷ more_names w.Close ∷ l) us
    ∙ act_runs (puts (of_names [])) c.take.new.tokens (a_name ∷ act adds_name ∷ more_names w.Close ∷ l) us
    ∙ ap (λ xs. reading c.take.new.tokens (a_name ∷ act adds_name ∷ more_names w.Close ∷ l) (of_names xs ∷ us)) (sym c.new.ensures)
    ∙ c.in_ok-columns.ensures.gives l us
    ∙ c.in_ok-take-2.ensures.gives (act (tabled c.args.at) ∷ k) (of_names c.in_ok-columns.columns ∷ us)
    ∙ act_runs (tabled c.args.at) c.take-2.new.tokens k (of_names c.in_ok-columns.columns ∷ us)
