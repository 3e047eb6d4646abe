use Rattle.std.proofs.Common.{◌∙◌, refl, ◌∷◌, []}
use Rattle.script_grammar.specs.Machine.{of_declaration, of_declarations, act, adds_declaration, declarations}
use Rattle.script_syntax.proofs.Descend.{act_runs, first_word}
use Rattle.script_syntax.proofs.declaration.declarations.Goals as goal

pub loop-at-preserved : goal.loop-at-preserved
loop-at-preserved c = record {
  told =
      let vs = of_declarations c.loop-at.declarations ∷ [] in
      c.loop-at.invariant.told
      ∙ first_word c.in-Some.at c.in-Some.word c.loop-at.tokens c.any_word.new.tokens c.in-Some.ensures.taken [] vs
      ∙ c.in_ok-declaration.ensures.gives (act adds_declaration ∷ declarations ∷ []) vs
      ∙ act_runs adds_declaration c.declaration.new.tokens (declarations ∷ []) (of_declaration c.in_ok-declaration.field-0 ∷ vs)
      ∙ rw c.in_ok-push.ensures.ok refl;
}
