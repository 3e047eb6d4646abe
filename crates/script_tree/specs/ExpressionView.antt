-- The tree that a node of the code stands for.
use Rattle.std.specs.Prelude.{ℕ, map}
use Rattle.script_tree.specs.Syntax as s
use Rattle.script_tree.specs.SyntaxLists.{expressions_of, queries_of, conditions_of, assignments_of}
use Rattle.script_tree.specs.declared.syntax.expression.ExpressionNode.{ExpressionNode}
use Rattle.script_tree.specs.declared.syntax.expression.ExpressionNode.TheVariants.{Number, Text, Bool, Null, Bracket, Variable, Call, List as Listed, Transact, Unary, Binary, And, Or, Index}
use Rattle.script_tree.specs.declared.syntax.expression.QueryNode.{QueryNode}
use Rattle.script_tree.specs.declared.syntax.expression.QueryNode.TheVariants.{Insert, Select, Update, Delete, Expect}
use Rattle.script_tree.specs.declared.syntax.expression.Condition.{Condition}
use Rattle.script_tree.specs.declared.syntax.expression.Assignment.{Assignment}

-- the test that a test of the code stands for
abbrev pub condition_of : Condition → s.Condition
condition_of c = record { column = c.column; comparison = c.comparison; value = c.value }

-- the assignment that an assignment of the code stands for
abbrev pub assignment_of : Assignment → s.Assignment
assignment_of a = record { column = a.column; value = a.value }

-- the expression that a node stands for, at a place
abbrev pub expression_of : ℕ → ExpressionNode → s.Expression
expression_of at (Number n) = s.number at n
expression_of at (Text shared) = s.text at shared.value
expression_of at (Bool b) = s.truth at b
expression_of at Null = s.null at
expression_of at (Bracket e) = s.bracket at e.value
expression_of at (Variable x) = s.variable at x
expression_of at (Call f es) = s.call at f (expressions_of es)
expression_of at (Listed es) = s.list at (expressions_of es)
expression_of at (Transact qs) = s.transact at (queries_of qs)
expression_of at (Unary op e) = s.unary at op e.value
expression_of at (Binary op a b) = s.binary at op a.value b.value
expression_of at (And a b) = s.and_ at a.value b.value
expression_of at (Or a b) = s.or_ at a.value b.value
expression_of at (Index a b) = s.index at a.value b.value

-- the statement of a transaction that a node stands for, at a place
abbrev pub query_of : ℕ → QueryNode → s.Query
query_of at (Insert table es) = s.insert at table (expressions_of es)
query_of at (Select columns table cs) = s.select at columns table (conditions_of (map condition_of cs))
query_of at (Update table as' cs) = s.update at table (assignments_of (map assignment_of as')) (conditions_of (map condition_of cs))
query_of at (Delete table cs) = s.delete at table (conditions_of (map condition_of cs))
query_of at (Expect count table cs) = s.expect at count.value table (conditions_of (map condition_of cs))
