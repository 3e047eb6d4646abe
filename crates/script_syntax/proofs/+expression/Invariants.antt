use Rattle.std.proofs.Common.{◌≡◌, ◌<◌, ◌≤◌, ◌∷◌, [], length, List, ◌+◌, ◌*◌, map}
use Rattle.script_tokens.specs.declared.word.Word.TheVariants as w
use Rattle.script_grammar.specs.Grouping.{most_repeats}
use Rattle.script_grammar.specs.Machine.{Symbol, Val, act, word, puts, operand, atom, tail, a_query, more_arguments, more_queries, more_tests, more_sets, assignment, adds_query, of_expression, of_expressions, of_queries, of_sets, of_tests}
use Rattle.script_tree.specs.ExpressionView.{condition_of, assignment_of}
use Rattle.script_syntax.specs.Parses.{reading}
use Rattle.script_syntax.proofs.+expression.Given as goal

-- a function that takes a token before it calls another has no number of its own
abbrev pub decreases-expression::operand : goal.decreases-expression::operand
decreases-expression::operand l = 64 * length l.tokens.now.tokens + 4 + l.level

abbrev pub decreases-expression::behind_joint : goal.decreases-expression::behind_joint
decreases-expression::behind_joint l = 64 * length l.tokens.now.tokens + 4 + l.level

abbrev pub decreases-expression::place : goal.decreases-expression::place
decreases-expression::place l = 64 * length l.tokens.now.tokens + 12

abbrev pub decreases-expression::closed : goal.decreases-expression::closed
decreases-expression::closed l = 64 * length l.tokens.now.tokens + 11

abbrev pub decreases-expression::prefixed : goal.decreases-expression::prefixed
decreases-expression::prefixed l = 64 * length l.tokens.now.tokens + 3

abbrev pub decreases-expression::indexed : goal.decreases-expression::indexed
decreases-expression::indexed l = 64 * length l.tokens.now.tokens + 2

abbrev pub decreases-expression::atom : goal.decreases-expression::atom
decreases-expression::atom l = 64 * length l.tokens.now.tokens + 1

abbrev pub decreases-expression::named : goal.decreases-expression::named
decreases-expression::named l = 64 * length l.tokens.now.tokens

abbrev pub decreases-expression::arguments : goal.decreases-expression::arguments
decreases-expression::arguments l = 64 * length l.tokens.now.tokens + 12

abbrev pub decreases-expression::some_arguments : goal.decreases-expression::some_arguments
decreases-expression::some_arguments l = 64 * length l.tokens.now.tokens + 11

abbrev pub decreases-expression::more_arguments : goal.decreases-expression::more_arguments
decreases-expression::more_arguments l = 64 * length l.tokens.now.tokens

abbrev pub decreases-expression::word_atom : goal.decreases-expression::word_atom
decreases-expression::word_atom l = 64 * length l.tokens.now.tokens + 14

abbrev pub decreases-expression::bracket : goal.decreases-expression::bracket
decreases-expression::bracket l = 64 * length l.tokens.now.tokens + 12

abbrev pub decreases-expression::list : goal.decreases-expression::list
decreases-expression::list l = 64 * length l.tokens.now.tokens + 13

abbrev pub decreases-query::transact : goal.decreases-query::transact
decreases-query::transact l = 64 * length l.tokens.now.tokens

abbrev pub decreases-query::query : goal.decreases-query::query
decreases-query::query l = 64 * length l.tokens.now.tokens

abbrev pub decreases-query::query_of : goal.decreases-query::query_of
decreases-query::query_of l = 64 * length l.tokens.now.tokens + 13

abbrev pub decreases-query::insert : goal.decreases-query::insert
decreases-query::insert l = 64 * length l.tokens.now.tokens

abbrev pub decreases-query::select : goal.decreases-query::select
decreases-query::select l = 64 * length l.tokens.now.tokens

abbrev pub decreases-query::update : goal.decreases-query::update
decreases-query::update l = 64 * length l.tokens.now.tokens

abbrev pub decreases-query::delete : goal.decreases-query::delete
decreases-query::delete l = 64 * length l.tokens.now.tokens + 3

abbrev pub decreases-query::expect : goal.decreases-query::expect
decreases-query::expect l = 64 * length l.tokens.now.tokens + 12

abbrev pub decreases-query::selection : goal.decreases-query::selection
decreases-query::selection l = 64 * length l.tokens.now.tokens + 2

abbrev pub decreases-query::filter : goal.decreases-query::filter
decreases-query::filter l = 64 * length l.tokens.now.tokens + 1

abbrev pub decreases-query::tests : goal.decreases-query::tests
decreases-query::tests l = 64 * length l.tokens.now.tokens

abbrev pub decreases-query::more_tests : goal.decreases-query::more_tests
decreases-query::more_tests l = 64 * length l.tokens.now.tokens

abbrev pub decreases-query::test : goal.decreases-query::test
decreases-query::test l = 64 * length l.tokens.now.tokens

abbrev pub decreases-query::assignments : goal.decreases-query::assignments
decreases-query::assignments l = 64 * length l.tokens.now.tokens + 2

abbrev pub decreases-query::assignment : goal.decreases-query::assignment
decreases-query::assignment l = 64 * length l.tokens.now.tokens + 1

-- what was read so far leads to what is left

abbrev pub invariant-expression::operand-loop-joint : goal.invariant-expression::operand-loop-joint
invariant-expression::operand-loop-joint l = record {
  big : 2 ≤ l.level;
  told : (k : List Symbol) (vs : List Val)
      → reading l.fn.tokens (operand l.level ∷ k) vs
      ≡ reading l.tokens (tail l.level l.left ∷ k) (of_expression l.value ∷ vs);
  shorter : length l.tokens.tokens < length l.fn.tokens.tokens;
}

abbrev pub decreases-expression::operand-loop-joint : goal.decreases-expression::operand-loop-joint
decreases-expression::operand-loop-joint l = length l.tokens.tokens

abbrev pub invariant-expression::indexed-loop-alloc : goal.invariant-expression::indexed-loop-alloc
invariant-expression::indexed-loop-alloc l = record {
  told : (k : List Symbol) (vs : List Val)
      → reading l.fn.tokens (atom ∷ tail 0 (most_repeats 0) ∷ k) vs
      ≡ reading l.tokens (tail 0 l.left ∷ k) (of_expression l.value ∷ vs);
  shorter : length l.tokens.tokens < length l.fn.tokens.tokens;
}

abbrev pub decreases-expression::indexed-loop-alloc : goal.decreases-expression::indexed-loop-alloc
decreases-expression::indexed-loop-alloc l = length l.tokens.tokens

abbrev pub invariant-expression::more_arguments-loop-alloc : goal.invariant-expression::more_arguments-loop-alloc
invariant-expression::more_arguments-loop-alloc l = record {
  told : (k : List Symbol) (vs : List Val)
      → reading l.fn.tokens (more_arguments l.close ∷ k) (of_expressions l.fn.items ∷ vs)
      ≡ reading l.tokens (more_arguments l.close ∷ k) (of_expressions l.items ∷ vs);
  shorter : length l.tokens.tokens ≤ length l.fn.tokens.tokens;
}

abbrev pub decreases-expression::more_arguments-loop-alloc : goal.decreases-expression::more_arguments-loop-alloc
decreases-expression::more_arguments-loop-alloc l = length l.tokens.tokens

abbrev pub invariant-query::transact-loop-alloc : goal.invariant-query::transact-loop-alloc
invariant-query::transact-loop-alloc l = record {
  told : (k : List Symbol) (vs : List Val)
      → reading l.fn.tokens (word w.BraceOpen ∷ a_query ∷ act adds_query ∷ more_queries ∷ k) (of_queries [] ∷ vs)
      ≡ reading l.tokens (more_queries ∷ k) (of_queries l.queries ∷ vs);
  shorter : length l.tokens.tokens < length l.fn.tokens.tokens;
}

abbrev pub decreases-query::transact-loop-alloc : goal.decreases-query::transact-loop-alloc
decreases-query::transact-loop-alloc l = length l.tokens.tokens

abbrev pub invariant-query::assignments-loop-alloc : goal.invariant-query::assignments-loop-alloc
invariant-query::assignments-loop-alloc l = record {
  told : (k : List Symbol) (vs : List Val)
      → reading l.fn.tokens (act (puts (of_sets [])) ∷ assignment (more_sets ∷ k)) vs
      ≡ reading l.tokens (more_sets ∷ k) (of_sets (map assignment_of l.sets) ∷ vs);
  shorter : length l.tokens.tokens < length l.fn.tokens.tokens;
}

abbrev pub decreases-query::assignments-loop-alloc : goal.decreases-query::assignments-loop-alloc
decreases-query::assignments-loop-alloc l = length l.tokens.tokens

abbrev pub invariant-query::more_tests-loop-alloc : goal.invariant-query::more_tests-loop-alloc
invariant-query::more_tests-loop-alloc l = record {
  told : (k : List Symbol) (vs : List Val)
      → reading l.fn.tokens (more_tests ∷ k) (of_tests (map condition_of l.fn.tests) ∷ vs)
      ≡ reading l.tokens (more_tests ∷ k) (of_tests (map condition_of l.tests) ∷ vs);
  shorter : length l.tokens.tokens ≤ length l.fn.tokens.tokens;
}

abbrev pub decreases-query::more_tests-loop-alloc : goal.decreases-query::more_tests-loop-alloc
decreases-query::more_tests-loop-alloc l = length l.tokens.tokens
