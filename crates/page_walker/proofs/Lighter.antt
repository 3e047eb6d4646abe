-- What is in a list weighs less than it.
use Rattle.std.proofs.Common.{◌≡◌, ◌<◌, ℕ, zero, suc, List, [], ◌∷◌, length, get_or, map, arith}
use Rattle.script_tree.specs.ExpressionView.{condition_of, assignment_of}
use Rattle.script_tree.specs.ExpressionWeight.{expression_weight, expression_list_weight, query_weight, query_list_weight, condition_list_weight, assignment_list_weight}
use Rattle.script_tree.specs.Syntax.{Expression, Query, Statement}
use Rattle.script_tree.specs.declared.syntax.expression.Condition.{Condition}
use Rattle.script_tree.specs.declared.syntax.expression.Assignment.{Assignment}
use Rattle.page_walker.specs.Nodes.{statement_nodes, block_nodes}

pub operand_lighter : (es : List Expression) (i : ℕ) (e : Expression) → i < length es → e ≡ get_or es i e → expression_weight e < expression_list_weight es
operand_lighter [] i e h p = absurd (omega arith)
operand_lighter (t ∷ es) zero e h p = rw p (omega arith)
operand_lighter (t ∷ es) (suc i) e h p = omega (arith, operand_lighter es i e (omega arith) p)

pub query_lighter : (qs : List Query) (i : ℕ) (q : Query) → i < length qs → q ≡ get_or qs i q → query_weight q < query_list_weight qs
query_lighter [] i q h p = absurd (omega arith)
query_lighter (t ∷ qs) zero q h p = rw p (omega arith)
query_lighter (t ∷ qs) (suc i) q h p = omega (arith, query_lighter qs i q (omega arith) p)

pub condition_lighter : (cs : List Condition) (i : ℕ) (c : Condition) → i < length cs → c ≡ get_or cs i c
    → expression_weight c.value < condition_list_weight (map condition_of cs)
condition_lighter [] i c h p = absurd (omega arith)
condition_lighter (t ∷ cs) zero c h p = rw p (omega arith)
condition_lighter (t ∷ cs) (suc i) c h p = omega (arith, condition_lighter cs i c (omega arith) p)

pub assignment_lighter : (as' : List Assignment) (i : ℕ) (a : Assignment) → i < length as' → a ≡ get_or as' i a
    → expression_weight a.value < assignment_list_weight (map assignment_of as')
assignment_lighter [] i a h p = absurd (omega arith)
assignment_lighter (t ∷ as') zero a h p = rw p (omega arith)
assignment_lighter (t ∷ as') (suc i) a h p = omega (arith, assignment_lighter as' i a (omega arith) p)

pub statement_lighter : (ss : List Statement) (i : ℕ) (s : Statement) → i < length ss → s ≡ get_or ss i s → statement_nodes s < block_nodes ss
statement_lighter [] i s h p = absurd (omega arith)
statement_lighter (t ∷ ss) zero s h p = rw p (omega arith)
statement_lighter (t ∷ ss) (suc i) s h p = omega (arith, statement_lighter ss i s (omega arith) p)
