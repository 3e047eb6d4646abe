-- What is printed in one call, beside the parts of a tree.
use Rattle.std.specs.Prelude.{List, ◌∷◌, map}
use Rattle.script_tree.specs.ExpressionView.{condition_of, assignment_of}
use Rattle.script_tree.specs.Syntax.{Expression, Query, Statement}
use Rattle.script_tree.specs.SyntaxLists.{expressions_of, queries_of, conditions_of, assignments_of, statements_of}
use Rattle.script_tree.specs.declared.syntax.expression.Condition.{Condition}
use Rattle.script_tree.specs.declared.syntax.expression.Assignment.{Assignment}
use Rattle.script_tree.specs.declared.syntax.name.Name.{Name}
use Rattle.script_tokens.specs.declared.word.Word.{Word}
use Rattle.script_tokens.specs.declared.word.Word.TheVariants as w
use Rattle.script_grammar.specs.Spelling.{Mark, word, named, comparison_word, names, spelling, list_spelling, more_spelling, queries_spelling, where_spelling, and_spelling, sets_spelling, more_sets_spelling, statements_spelling, block_spelling}

-- ---- the lists of the code

-- expressions with commas between them
abbrev pub members : List Expression → List Mark → List Mark
members es = list_spelling (expressions_of es)

-- expressions with a comma before each
abbrev pub more_members : List Expression → List Mark → List Mark
more_members es = more_spelling (expressions_of es)

-- the statements of a transaction
abbrev pub queries : List Query → List Mark → List Mark
queries qs = queries_spelling (queries_of qs)

-- a where with its tests; no tests, no where
abbrev pub conditions : List Condition → List Mark → List Mark
conditions cs = where_spelling (conditions_of (map condition_of cs))

-- tests with an and before each
abbrev pub more_conditions : List Condition → List Mark → List Mark
more_conditions cs = and_spelling (conditions_of (map condition_of cs))

-- assignments with commas between them
abbrev pub assignments : List Assignment → List Mark → List Mark
assignments sets = sets_spelling (assignments_of (map assignment_of sets))

-- assignments with a comma before each
abbrev pub more_assignments : List Assignment → List Mark → List Mark
more_assignments sets = more_sets_spelling (assignments_of (map assignment_of sets))

-- the statements of a block
abbrev pub statements : List Statement → List Mark → List Mark
statements ss = statements_spelling (statements_of ss)

-- ---- more and less than a part

-- a part between two words
abbrev pub enclosed : Word → (List Mark → List Mark) → Word → List Mark → List Mark
enclosed opening part closing marks = word opening ∷ part (word closing ∷ marks)

-- columns or parameters
abbrev pub bracketed : List Name → List Mark → List Mark
bracketed xs = enclosed w.Open (names xs) w.Close

-- a transaction: its keyword, and its statements in braces
abbrev pub transaction : List Query → List Mark → List Mark
transaction qs marks = word w.Transact ∷ enclosed w.BraceOpen (queries qs) w.BraceClose marks

-- statements in braces
abbrev pub block : List Statement → List Mark → List Mark
block ss = enclosed w.BraceOpen (statements ss) w.BraceClose

-- the statements of a function or a page
abbrev pub body : List Statement → List Mark → List Mark
body ss = enclosed w.BraceOpen (block_spelling ss) w.BraceClose

-- two operands with a sign or a keyword between them
abbrev pub infix_spelling : Expression → Word → Expression → List Mark → List Mark
infix_spelling left sign right marks = spelling left (word sign ∷ spelling right marks)

-- one test, behind where or and
abbrev pub condition : Word → Condition → List Mark → List Mark
condition keyword c marks = word keyword ∷ named c.column ∷ word (comparison_word c.comparison) ∷ spelling c.value marks

-- a name and the value that it gets
abbrev pub assignment : Assignment → List Mark → List Mark
assignment a marks = named a.column ∷ word w.Becomes ∷ spelling a.value marks

-- the rows of a statement of a transaction, up to its end
abbrev pub rows : List Condition → List Mark → List Mark
rows cs marks = conditions cs (word w.Semicolon ∷ marks)

-- the same with the table, behind from
abbrev pub rows_from : Name → List Condition → List Mark → List Mark
rows_from table cs marks = word w.From ∷ named table ∷ rows cs marks

-- a statement of a keyword and an expression
abbrev pub simple_statement : Word → Expression → List Mark → List Mark
simple_statement keyword value marks = word keyword ∷ spelling value (word w.Semicolon ∷ marks)

-- a let or a set
abbrev pub setting : Word → Name → Expression → List Mark → List Mark
setting keyword name value marks = word keyword ∷ named name ∷ word w.Becomes ∷ spelling value (word w.Semicolon ∷ marks)
