use Rattle.std.proofs.Common.{refl, ◌∷◌, []}
use Rattle.script_tokens.specs.declared.word.Word.TheVariants as w
use Rattle.script_grammar.specs.Machine.{of_names, puts, adds_name, stored, tabled, defined, paged, act, word, a_name, a_path, more_names, parameters, block, begin_declaration}
use Rattle.script_syntax.specs.Parses.{word_token, declaration_value}
use Rattle.script_syntax.proofs.Descend.{begin_follows}
use Rattle.script_syntax.proofs.declaration.declaration.Goals as goal

pub returns-in-Store-clause-gives : goal.returns-in-Store-clause-gives
returns-in-Store-clause-gives c =
    rw c.in-Store.is (begin_follows declaration_value (word_token c.args.at w.Store)
    (begin_declaration c.args.at w.Store) c.args.tokens.now
    (a_name ∷ word w.Semicolon ∷ act (stored c.args.at) ∷ []) [] c.store.new.tokens c.store.result
    (λ k vs. refl) c.store.ensures.gives)

pub returns-in-Table-clause-gives : goal.returns-in-Table-clause-gives
returns-in-Table-clause-gives c =
    rw c.in-Table.is (begin_follows declaration_value (word_token c.args.at w.Table) (begin_declaration c.args.at w.Table) c.args.tokens.now (a_name ∷ word w.Open ∷ act (puts (of_names [])) ∷ a_name ∷ act adds_name ∷ more_names w.Close ∷ word w.Semicolon ∷ act (tabled c.args.at) ∷ []) [] c.table.new.tokens c.table.result (λ k vs. refl) c.table.ensures.gives)

pub returns-in-Function-clause-gives : goal.returns-in-Function-clause-gives
returns-in-Function-clause-gives c =
    rw c.in-Function.is (begin_follows declaration_value (word_token c.args.at w.Function)
    (begin_declaration c.args.at w.Function) c.args.tokens.now
    (a_name ∷ word w.Open ∷ act (puts (of_names [])) ∷ parameters ∷ block
    (act (defined c.args.at) ∷ [])) [] c.function.new.tokens c.function.result
    (λ k vs. refl) c.function.ensures.gives)

pub returns-in-Page-clause-gives : goal.returns-in-Page-clause-gives
returns-in-Page-clause-gives c =
    rw c.in-Page.is (begin_follows declaration_value (word_token c.args.at w.Page)
    (begin_declaration c.args.at w.Page) c.args.tokens.now
    (a_path ∷ block (act (paged c.args.at) ∷ [])) [] c.page.new.tokens c.page.result
    (λ k vs. refl) c.page.ensures.gives)
