use Rattle.std.proofs.Common.{◌≡◌, ◌≤◌, ◌∷◌, length, List}
use Rattle.script_grammar.specs.Machine.{Symbol, Val, more_names, of_names}
use Rattle.script_syntax.specs.Parses.{reading}
use Rattle.script_syntax.proofs.feed.more_names.Given as goal

abbrev pub invariant-loop-alloc : goal.invariant-loop-alloc
invariant-loop-alloc l = record {
  told : (k : List Symbol) (vs : List Val)
      → reading l.fn.tokens (more_names l.close ∷ k) (of_names l.fn.names ∷ vs)
      ≡ reading l.tokens (more_names l.close ∷ k) (of_names l.names ∷ vs);
  shorter : length l.tokens.tokens ≤ length l.fn.tokens.tokens;
}

abbrev pub decreases-loop-alloc : goal.decreases-loop-alloc
decreases-loop-alloc l = length l.tokens.tokens
