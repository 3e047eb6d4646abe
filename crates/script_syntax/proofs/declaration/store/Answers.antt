use Rattle.std.proofs.Common.{◌∙◌, ◌∷◌}
use Rattle.script_tokens.specs.declared.word.Word.TheVariants as w
use Rattle.script_grammar.specs.Machine.{of_name, stored, act, word}
use Rattle.script_syntax.proofs.Descend.{act_runs}
use Rattle.script_syntax.proofs.declaration.store.Goals as goal

pub returns-clause-gives : goal.returns-clause-gives
returns-clause-gives c = λ k vs.
    c.in_ok-name.ensures.gives (word w.Semicolon ∷ act (stored c.args.at) ∷ k) vs
    ∙ c.in_ok-take.ensures.gives (act (stored c.args.at) ∷ k) (of_name c.in_ok-name.name ∷ vs)
    ∙ act_runs (stored c.args.at) c.take.new.tokens k (of_name c.in_ok-name.name ∷ vs)
