use Rattle.std.proofs.Common.{◌≡◌, ◌<◌, ◌∷◌, length, List, ◌+◌, ◌*◌}
use Rattle.script_grammar.specs.Machine.{Symbol, Val, block, statements, of_statements}
use Rattle.script_syntax.specs.Parses.{reading}
use Rattle.script_syntax.proofs.statement.+statement.Given as goal

abbrev pub decreases-block : goal.decreases-block
decreases-block l = 4 * length l.tokens.now.tokens

abbrev pub decreases-headed : goal.decreases-headed
decreases-headed l = 4 * length l.tokens.now.tokens

abbrev pub decreases-statement : goal.decreases-statement
decreases-statement l = 4 * length l.tokens.now.tokens

abbrev pub decreases-statement_of : goal.decreases-statement_of
decreases-statement_of l = 4 * length l.tokens.now.tokens + 2

abbrev pub decreases-if_statement : goal.decreases-if_statement
decreases-if_statement l = 4 * length l.tokens.now.tokens + 1

abbrev pub decreases-otherwise : goal.decreases-otherwise
decreases-otherwise l = 4 * length l.tokens.now.tokens + 1

abbrev pub decreases-while_statement : goal.decreases-while_statement
decreases-while_statement l = 4 * length l.tokens.now.tokens + 1

abbrev pub decreases-for_statement : goal.decreases-for_statement
decreases-for_statement l = 4 * length l.tokens.now.tokens + 1

abbrev pub invariant-block-loop-alloc : goal.invariant-block-loop-alloc
invariant-block-loop-alloc l = record {
  told : (k : List Symbol) (vs : List Val) → reading l.fn.tokens (block k) vs ≡ reading l.tokens (statements ∷ k) (of_statements l.statements ∷ vs);
  shorter : length l.tokens.tokens < length l.fn.tokens.tokens;
}

abbrev pub decreases-block-loop-alloc : goal.decreases-block-loop-alloc
decreases-block-loop-alloc l = length l.tokens.tokens
