use Rattle.std.proofs.Common.{◌∙◌, sym, refl, arith, ◌∷◌, []}
use Rattle.std.proofs.lemmas.Result.{err_from_is_err_and}
use Rattle.script_tokens.specs.declared.word.Word.TheVariants as w
use Rattle.script_grammar.specs.Machine.{word, a_name, act, adds_name, more_names, of_name, of_names}
use Rattle.script_syntax.proofs.Descend.{act_runs, fails, more_names_run}
use Rattle.script_syntax.proofs.feed.more_names.Goals as goal

pub returns-in_err-take-clause-gives : goal.returns-in_err-take-clause-gives
returns-in_err-take-clause-gives c =
    let p = err_from_is_err_and c.from_residual.result c.from_residual.ensures.1 in
    rw (p.1, p.2) (fails (more_names c.args.close ∷ []) (of_names c.args.names ∷ []) c.args.tokens.now (word w.Comma ∷ []) [] c.loop-alloc.tokens _
    (λ k vs. (a_name ∷ act adds_name ∷ more_names c.args.close ∷ k, of_names c.loop-alloc.names ∷ vs, c.loop-alloc.invariant.told k vs ∙ more_names_run c.args.close c.loop-alloc.tokens (sym c.stands.ensures ∙ c.loop-alloc-test.true) k (of_names c.loop-alloc.names ∷ vs))) c.in_err-take.ensures.gives)

pub returns-in_err-name-clause-gives : goal.returns-in_err-name-clause-gives
returns-in_err-name-clause-gives c =
    let p = err_from_is_err_and c.from_residual-in_err-name.result c.from_residual-in_err-name.ensures.1 in
    rw (p.1, p.2) (fails (more_names c.args.close ∷ []) (of_names c.args.names ∷ []) c.args.tokens.now (a_name ∷ []) [] c.take.new.tokens _
    (λ k vs. (
      act adds_name ∷ more_names c.args.close ∷ k,
      of_names c.loop-alloc.names ∷ vs,
      c.loop-alloc.invariant.told k vs
          ∙ more_names_run c.args.close c.loop-alloc.tokens (sym c.stands.ensures ∙ c.loop-alloc-test.true) k (of_names c.loop-alloc.names ∷ vs)
          ∙ c.in_ok-take.ensures.gives (a_name ∷ act adds_name ∷ more_names c.args.close ∷ k) (of_names c.loop-alloc.names ∷ vs),
    )) c.in_err-name.ensures.gives)

pub loop-alloc-preserved : goal.loop-alloc-preserved
loop-alloc-preserved c = record {
  told = λ k vs.
      c.loop-alloc.invariant.told k vs
      ∙ more_names_run c.args.close c.loop-alloc.tokens (sym c.stands.ensures ∙ c.loop-alloc-test.true) k (of_names c.loop-alloc.names ∷ vs)
      ∙ c.in_ok-take.ensures.gives (a_name ∷ act adds_name ∷ more_names c.args.close ∷ k) (of_names c.loop-alloc.names ∷ vs)
      ∙ c.in_ok-name.ensures.gives (act adds_name ∷ more_names c.args.close ∷ k) (of_names c.loop-alloc.names ∷ vs)
      ∙ act_runs adds_name c.name.new.tokens (more_names c.args.close ∷ k) (of_name c.in_ok-name.field-0 ∷ of_names c.loop-alloc.names ∷ vs)
      ∙ rw c.in_ok-push.ensures.ok refl;
  shorter = omega (arith, c.loop-alloc.invariant.shorter, c.in_ok-take.ensures.shorter, c.in_ok-name.ensures.shorter);
}
