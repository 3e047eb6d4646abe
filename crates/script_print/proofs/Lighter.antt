-- A member weighs less than its list.
use Rattle.std.proofs.Common.{◌≡◌, ℕ, zero, suc, ◌<◌, List, [], ◌∷◌, length, get_or, map, arith}
use Rattle.script_tree.specs.ExpressionView.{condition_of, assignment_of}
use Rattle.script_tree.specs.ExpressionWeight.{expression_weight, expressions_weight, query_weight, queries_weight, conditions_weight, assignments_weight}
use Rattle.script_tree.specs.StatementWeight.{statement_weight, statements_weight}
use Rattle.script_tree.specs.Syntax.{Expression, Query, Statement}
use Rattle.script_tree.specs.SyntaxLists.{expressions_of, queries_of, conditions_of, assignments_of, statements_of}
use Rattle.script_tree.specs.declared.syntax.expression.Condition.{Condition}
use Rattle.script_tree.specs.declared.syntax.expression.Assignment.{Assignment}

pub lighter_expression : (es : List Expression) (i : ℕ) (e : Expression) → i < length es → e ≡ get_or es i e
    → expression_weight e < expressions_weight (expressions_of es)
lighter_expression [] i e h q = absurd (omega arith)
lighter_expression (f ∷ es) zero e h q = rw q (omega arith)
lighter_expression (f ∷ es) (suc i) e h q = omega (arith, lighter_expression es i e (omega arith) q)

pub lighter_query : (qs : List Query) (i : ℕ) (e : Query) → i < length qs → e ≡ get_or qs i e → query_weight e < queries_weight (queries_of qs)
lighter_query [] i e h q = absurd (omega arith)
lighter_query (f ∷ qs) zero e h q = rw q (omega arith)
lighter_query (f ∷ qs) (suc i) e h q = omega (arith, lighter_query qs i e (omega arith) q)

pub lighter_condition : (cs : List Condition) (i : ℕ) (c : Condition) → i < length cs → c ≡ get_or cs i c
    → expression_weight c.value < conditions_weight (conditions_of (map condition_of cs))
lighter_condition [] i c h q = absurd (omega arith)
lighter_condition (f ∷ cs) zero c h q = rw q (omega arith)
lighter_condition (f ∷ cs) (suc i) c h q = omega (arith, lighter_condition cs i c (omega arith) q)

pub lighter_assignment : (sets : List Assignment) (i : ℕ) (a : Assignment) → i < length sets → a ≡ get_or sets i a
    → expression_weight a.value < assignments_weight (assignments_of (map assignment_of sets))
lighter_assignment [] i a h q = absurd (omega arith)
lighter_assignment (f ∷ sets) zero a h q = rw q (omega arith)
lighter_assignment (f ∷ sets) (suc i) a h q = omega (arith, lighter_assignment sets i a (omega arith) q)

pub lighter_statement : (ss : List Statement) (i : ℕ) (s : Statement) → i < length ss → s ≡ get_or ss i s
    → statement_weight s < statements_weight (statements_of ss)
lighter_statement [] i s h q = absurd (omega arith)
lighter_statement (f ∷ ss) zero s h q = rw q (omega arith)
lighter_statement (f ∷ ss) (suc i) s h q = omega (arith, lighter_statement ss i s (omega arith) q)
