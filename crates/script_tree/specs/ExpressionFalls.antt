-- What is in a node weighs less than it.
use Rattle.std.specs.Prelude.{ℕ, ◌+◌, ◌≤◌, List, [], ◌∷◌, map}
use Rattle.std.proofs.Common.{arith}
use denote.Param.Weighed.{most}
use Rattle.script_tree.specs.Syntax as s
use Rattle.script_tree.specs.ExpressionWeight.{expression_weight, query_weight, expression_list_weight, query_list_weight, condition_list_weight, assignment_list_weight}
use Rattle.script_tree.specs.ExpressionView.{expression_of, query_of, condition_of, assignment_of}
use Rattle.script_tree.specs.declared.syntax.expression.Expression.TheInside.{Inside as InExpression}
use Rattle.script_tree.specs.declared.syntax.expression.Query.TheInside.{Inside as InQuery}
use Rattle.script_tree.specs.declared.syntax.expression.Condition.{Condition}
use Rattle.script_tree.specs.declared.syntax.expression.Assignment.{Assignment}
use Rattle.script_tree.specs.declared.syntax.expression.ExpressionNode.{ExpressionNode}
use Rattle.script_tree.specs.declared.syntax.expression.ExpressionNode.TheVariants.{Number, Text, Bool, Null, Bracket, Variable, Call, List as Listed, Transact, Unary, Binary, And, Or, Index}
use Rattle.script_tree.specs.declared.syntax.expression.QueryNode.{QueryNode}
use Rattle.script_tree.specs.declared.syntax.expression.QueryNode.TheVariants.{Insert, Select, Update, Delete, Expect}
use Rattle.script_tree.specs.declared.syntax.expression.Expression.TheDeep.{deep-Expression, deep-ExpressionNode, deep-Query, deep-QueryNode, deep-Condition, deep-Assignment}

-- Each expression of a list weighs less than the list.
each_expression : (es : List s.Expression) → most (λ e. expression_weight e + 1) es ≤ expression_list_weight es
each_expression [] = omega arith
each_expression (e ∷ es) = omega (arith, each_expression es)

-- Each statement of a transaction weighs less than all of them.
each_query : (ts : List s.Query) → most (λ t. query_weight t + 1) ts ≤ query_list_weight ts
each_query [] = omega arith
each_query (t ∷ ts) = omega (arith, each_query ts)

-- What is in the tests of a where weighs less than they do.
each_condition : (ts : List Condition) → most deep-Condition ts ≤ condition_list_weight (map condition_of ts)
each_condition [] = omega arith
each_condition (t ∷ ts) = omega (arith, each_condition ts)

-- What is in the assignments of an update weighs less than they do.
each_assignment : (ts : List Assignment) → most deep-Assignment ts ≤ assignment_list_weight (map assignment_of ts)
each_assignment [] = omega arith
each_assignment (t ∷ ts) = omega (arith, each_assignment ts)

-- What is in a node weighs less than the expression of the node.
node_falls : (at : ℕ) (n : ExpressionNode) → deep-ExpressionNode n ≤ expression_weight (expression_of at n)
node_falls at (Number n) = omega arith
node_falls at (Text shared) = omega arith
node_falls at (Bool b) = omega arith
node_falls at Null = omega arith
node_falls at (Bracket e) = omega arith
node_falls at (Variable x) = omega arith
node_falls at (Call f es) = omega (arith, each_expression es)
node_falls at (Listed es) = omega (arith, each_expression es)
node_falls at (Transact qs) = omega (arith, each_query qs)
node_falls at (Unary op e) = omega arith
node_falls at (Binary op a b) = omega arith
node_falls at (And a b) = omega arith
node_falls at (Or a b) = omega arith
node_falls at (Index a b) = omega arith

-- What is in an expression weighs less than it.
pub expression_falls : (a : InExpression) → deep-Expression a ≤ expression_weight (expression_of a.at a.node)
expression_falls a = omega (arith, node_falls a.at a.node)

-- What is in a node weighs less than the statement of a transaction that it is of.
query_node_falls : (at : ℕ) (n : QueryNode) → deep-QueryNode n ≤ query_weight (query_of at n)
query_node_falls at (Insert table es) = omega (arith, each_expression es)
query_node_falls at (Select columns table cs) = omega (arith, each_condition cs)
query_node_falls at (Update table as' cs) = omega (arith, each_assignment as', each_condition cs)
query_node_falls at (Delete table cs) = omega (arith, each_condition cs)
query_node_falls at (Expect e table cs) = omega (arith, each_condition cs)

-- What is in a statement of a transaction weighs less than it.
pub query_falls : (a : InQuery) → deep-Query a ≤ query_weight (query_of a.at a.node)
query_falls a = omega (arith, query_node_falls a.at a.node)
