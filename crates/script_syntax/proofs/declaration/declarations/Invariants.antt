use Rattle.std.proofs.Common.{◌≡◌, ◌∷◌, [], length}
use Rattle.script_grammar.specs.Machine.{declarations, of_declarations}
use Rattle.script_syntax.specs.Parses.{reading}
use Rattle.script_syntax.proofs.declaration.declarations.Given as goal

abbrev pub invariant-loop-at : goal.invariant-loop-at
invariant-loop-at l = record {
  told : reading l.fn.tokens (declarations ∷ []) (of_declarations [] ∷ [])
      ≡ reading l.tokens (declarations ∷ []) (of_declarations l.declarations ∷ []);
}

abbrev pub decreases-loop-at : goal.decreases-loop-at
decreases-loop-at l = length l.tokens.tokens
