-- What the parts of a program do in a frame.
use Rattle.std.specs.Prelude.{ℕ, ◌*◌, Bool, if◌then◌else◌, List, map}
use Rattle.script_tree.specs.Datum.{Datum}
use Rattle.script_tree.specs.Declarations.{DeclaredFunction, NumberedTable, Callee}
use Rattle.script_tree.specs.ExpressionView.{condition_of, assignment_of}
use Rattle.script_tree.specs.Programs.{Program}
use Rattle.script_tree.specs.Syntax.{Expression, Query, Statement, Else}
use Rattle.script_tree.specs.SyntaxLists.{expressions_of, queries_of, conditions_of, assignments_of, statements_of}
use Rattle.script_tree.specs.declared.syntax.expression.Condition.{Condition as CodeCondition}
use Rattle.script_tree.specs.declared.syntax.expression.Assignment.{Assignment as CodeAssignment}
use Rattle.script_meaning.specs.Evaluate.{Setting, Later, Flow, eval, eval_all, eval_others, called, names_store, store_name, entered, operands_of, operands_of_all, tests_of, changes_of, exec, block, otherwise, scoped, turns, run}
use Rattle.script_meaning.specs.Operands.{Unchecked}
use Rattle.script_meaning.specs.Operations.{Test, Change}
use Rattle.script_meaning.specs.Run.{Run, ◌>>=◌}
use Rattle.script_meaning.specs.Variables.{Variables, declared}
use Rattle.page_walker.specs.Nodes.{nodes_below}
use Rattle.page_walker.specs.declared.frame.Frame.{Frame}

-- the program and the request of a frame
abbrev pub setting : Frame → Setting
setting f = f.walker.now

-- what statements do, where fewer than so many calls and turns of a `while` lie within one another
unfoldable pub later_in : Setting → ℕ → Later
later_in w fuel = run w fuel

-- what the statements of a call, or of the next turn of a `while`, do in a frame
abbrev pub later : Frame → Later
later f = later_in (setting f) f.fuel

-- how many nodes the runs that may still begin have at most
unfoldable pub nodes_left : Program → ℕ → ℕ
nodes_left program fuel = fuel * (4 * nodes_below program)

-- ---- expressions

-- the value of an expression
abbrev pub value_at : Frame → Variables → Expression → Run Datum
value_at f vs e = eval (setting f) (later f) f.depth vs e

-- the values of expressions, in order
abbrev pub values_at : Frame → Variables → List Expression → Run (List Datum)
values_at f vs es = eval_all (setting f) (later f) f.depth vs (expressions_of es)

-- of all but the first, where that is asked for
abbrev pub arguments_at : Frame → Variables → (others : Bool) → List Expression → Run (List Datum)
arguments_at f vs others es =
    if others then eval_others (setting f) (later f) f.depth vs (expressions_of es) else values_at f vs es

-- the value of a call, with its arguments evaluated
abbrev pub call_at : Frame → Variables → Callee → List Expression → Run Datum
call_at f vs callee es = do
  ds ← arguments_at f vs (names_store callee) es
  called (setting f) (later f) f.depth callee (store_name (expressions_of es)) ds

-- the value of a function with these arguments
abbrev pub entered_at : Frame → DeclaredFunction → List Datum → Run Datum
entered_at f function ds = entered (later f) f.depth function ds

-- ---- transactions

-- a statement of a transaction, with the values of its expressions
abbrev pub operands_at : Frame → Variables → Query → Run Unchecked
operands_at f vs q = operands_of (setting f) (later f) f.depth vs q

-- the statements of a transaction, with the values of their expressions
abbrev pub all_operands_at : Frame → Variables → List Query → Run (List Unchecked)
all_operands_at f vs qs = operands_of_all (setting f) (later f) f.depth vs (queries_of qs)

-- the conditions of a statement on this table, with their values
abbrev pub tests_at : Frame → Variables → NumberedTable → List CodeCondition → Run (List Test)
tests_at f vs t cs = tests_of (setting f) (later f) f.depth vs t (conditions_of (map condition_of cs))

-- the assignments of a statement on this table, with their values
abbrev pub changes_at : Frame → Variables → NumberedTable → List CodeAssignment → Run (List Change)
changes_at f vs t as' = changes_of (setting f) (later f) f.depth vs t (assignments_of (map assignment_of as'))

-- ---- statements

-- what a statement does
abbrev pub statement_at : Frame → Statement → Variables → Run Flow
statement_at f s vs = exec (setting f) (later f) f.depth s vs

-- what statements do, one after another
abbrev pub block_at : Frame → List Statement → Variables → Run Flow
block_at f ss vs = block (setting f) (later f) f.depth (statements_of ss) vs

-- what a block does, whose variables end with it
abbrev pub scoped_at : Frame → List Statement → Variables → Run Flow
scoped_at f ss vs = scoped vs (block_at f ss vs)

-- what an `else` does, whose variables end with it
abbrev pub else_at : Frame → Else → Variables → Run Flow
else_at f other vs = scoped vs (otherwise (setting f) (later f) f.depth other vs)

-- what a loop over a list does with the members that are left
abbrev pub turns_at : Frame → (whole : Datum) → (x : List ℕ) → List Statement → Variables → List Datum → Run Flow
turns_at f whole x ss vs ds = turns whole x (block_at f ss) vs ds

-- what a loop over a list does with a member
abbrev pub turn_at : Frame → (x : List ℕ) → Datum → List Statement → Variables → Run Flow
turn_at f x d ss vs = scoped vs (block_at f ss (declared vs x d))
