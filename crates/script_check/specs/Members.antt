-- What is wrong with the nodes and the lists of the code.
use Rattle.std.specs.Prelude.{ℕ, List, Option, map}
use Rattle.std.specs.Option.{option_copied}
use denote.Ref.{Bor}
use Rattle.script_tree.specs.ExpressionView.{expression_of, query_of, condition_of, assignment_of}
use Rattle.script_tree.specs.Programs.{Program}
use Rattle.script_tree.specs.StatementView.{statement_of, else_of}
use Rattle.script_tree.specs.Syntax.{Expression, call, Query, Statement}
use Rattle.script_tree.specs.SyntaxLists.{expressions_of, queries_of, conditions_of, assignments_of}
use Rattle.script_tree.specs.declared.syntax.builtin.Builtin.{Builtin}
use Rattle.script_tree.specs.declared.syntax.expression.ExpressionNode.{ExpressionNode}
use Rattle.script_tree.specs.declared.syntax.expression.QueryNode.{QueryNode}
use Rattle.script_tree.specs.declared.syntax.statement.StatementNode.{StatementNode}
use Rattle.script_tree.specs.declared.syntax.statement.Else.{Else}
use Rattle.script_tree.specs.declared.syntax.expression.Condition.{Condition}
use Rattle.script_tree.specs.declared.syntax.expression.Assignment.{Assignment}
use Rattle.script_tree.specs.declared.syntax.name.Name.{Name}
use Rattle.script_check.specs.Validity.{names_store, expression_faults, query_faults, statement_faults, else_faults, expressions_faults, arguments_faults, queries_faults, conditions_faults, assignments_faults}
use Rattle.script_check.specs.declared.fault.CheckFault.{CheckFault}

-- an expression of this node at a place
abbrev pub in_node : Program → List (List ℕ) → (at : ℕ) → ExpressionNode → List CheckFault
in_node program known at node = expression_faults program known (expression_of at node)

-- a call of a function with these arguments
abbrev pub in_call : Program → List (List ℕ) → (at : ℕ) → (name : List ℕ) → List Expression → List CheckFault
in_call program known at f es = expression_faults program known (call at f (expressions_of es))

-- the arguments of a call of a built-in function, or of one of the program
abbrev pub in_arguments : Program → List (List ℕ) → Option Builtin → List Expression → List CheckFault
in_arguments program known builtin es = arguments_faults program known (names_store builtin) (expressions_of es)

-- expressions one after another
abbrev pub in_expressions : Program → List (List ℕ) → List Expression → List CheckFault
in_expressions program known es = expressions_faults program known (expressions_of es)

-- a table statement of this node at a place
abbrev pub in_query_node : Program → List (List ℕ) → (at : ℕ) → QueryNode → List CheckFault
in_query_node program known at node = query_faults program known (query_of at node)

-- the statements of a transaction
abbrev pub in_queries : Program → List (List ℕ) → List Query → List CheckFault
in_queries program known qs = queries_faults program known (queries_of qs)

-- the conditions on the columns of a table
abbrev pub in_tests : Program → List (List ℕ) → Option (Bor (List Name)) → List Condition → List CheckFault
in_tests program known table cs = conditions_faults program known (option_copied table) (conditions_of (map condition_of cs))

-- what is set in the columns of a table
abbrev pub in_sets : Program → List (List ℕ) → Option (Bor (List Name)) → List Assignment → List CheckFault
in_sets program known table sets = assignments_faults program known (option_copied table) (assignments_of (map assignment_of sets))

-- a statement
abbrev pub in_statement : Program → List (List ℕ) → Statement → List CheckFault
in_statement program known s = statement_faults program known s

-- a statement of this kind at a place
abbrev pub in_kind : Program → List (List ℕ) → (at : ℕ) → StatementNode → List CheckFault
in_kind program known at node = statement_faults program known (statement_of at node)

-- what stands behind an `else`, if there is one
abbrev pub in_else : Program → List (List ℕ) → Else → List CheckFault
in_else program known other = else_faults program known (else_of other)
