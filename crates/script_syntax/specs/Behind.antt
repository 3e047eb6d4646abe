-- What the grammar wants behind the first word of an expression, of a query, of a statement and of a declaration.
use Rattle.std.specs.Prelude.{ℕ, List, [], ◌∷◌}
use Rattle.script_tree.specs.Syntax as tree
use Rattle.script_tokens.specs.declared.word.Word.{Word}
use Rattle.script_tokens.specs.declared.word.Word.TheVariants as w
use Rattle.script_grammar.specs.Grouping.{most_repeats}
use Rattle.script_grammar.specs.Machine.{Symbol, act, word, puts, a_name, a_path, a_comparison, operand, atom, tail, arguments, more_arguments, parameters, more_names, a_query, more_queries, filter, more_sets, assignment, filtered, else_part, block, adds_name, adds_expression, adds_query, bracketed, listed, transacted, inserted, selected, updated, deleted, expected, bound, said, branched, repeated, turned, stored, tabled, defined, paged, of_names, of_expressions, of_tests, of_sets}

-- ---- expressions

-- an atom and the places in it
abbrev pub indexed : List Symbol
indexed = atom ∷ tail 0 (most_repeats 0) ∷ []

-- an expression and the word behind it
abbrev pub closed : Word → List Symbol
closed v = operand 6 ∷ word v ∷ []

-- what comes behind the opening bracket of an expression in brackets
abbrev pub behind_bracket : ℕ → List Symbol
behind_bracket at = operand 6 ∷ word w.Close ∷ act (bracketed at) ∷ []

-- what comes behind the opening bracket of a list
abbrev pub behind_list : ℕ → List Symbol
behind_list at = arguments w.SquareClose ∷ act (listed at) ∷ []

-- one expression or more, up to the closing bracket
abbrev pub some_arguments : Word → List Symbol
some_arguments v = operand 6 ∷ act adds_expression ∷ more_arguments v ∷ []

-- what comes behind the keyword of a transaction
abbrev pub behind_transact : ℕ → List Symbol
behind_transact at = word w.BraceOpen ∷ a_query ∷ act adds_query ∷ more_queries ∷ act (transacted at) ∷ []

-- one name or more, up to the closing word
abbrev pub some_names : Word → List Symbol
some_names v = a_name ∷ act adds_name ∷ more_names v ∷ []

-- ---- queries

-- all tests of a query, or none
abbrev pub all_tests : List Symbol
all_tests = act (puts (of_tests [])) ∷ filter ∷ []

-- the value of a test is a sum
abbrev pub one_test : List Symbol
one_test = a_name ∷ a_comparison ∷ operand 3 ∷ []

-- a table and the tests of its rows
abbrev pub selection : List Symbol
selection = a_name ∷ filtered []

-- all assignments of an update
abbrev pub all_sets : List Symbol
all_sets = act (puts (of_sets [])) ∷ assignment (more_sets ∷ [])

-- one assignment of an update
abbrev pub one_set : List Symbol
one_set = a_name ∷ word w.Becomes ∷ operand 6 ∷ []

-- what comes behind the keyword of an insert
abbrev pub behind_insert : ℕ → List Symbol
behind_insert at = a_name ∷ word w.Open ∷ act
    (puts (of_expressions [])) ∷ operand 6 ∷ act adds_expression ∷ more_arguments w.Close ∷ word w.Semicolon ∷ act
    (inserted at) ∷ []

-- what comes behind the keyword of a select
abbrev pub behind_select : ℕ → List Symbol
behind_select at = a_name ∷ act adds_name ∷ more_names w.From ∷ a_name ∷ filtered (act (selected at) ∷ [])

-- what comes behind the keyword of an update
abbrev pub behind_update : ℕ → List Symbol
behind_update at = a_name ∷ word w.Set ∷ act (puts (of_sets [])) ∷ assignment (more_sets ∷ filtered (act (updated at) ∷ []))

-- what comes behind the keyword of a delete
abbrev pub behind_delete : ℕ → List Symbol
behind_delete at = a_name ∷ filtered (act (deleted at) ∷ [])

-- what comes behind the keyword of an expect
abbrev pub behind_expect : ℕ → List Symbol
behind_expect at = operand 6 ∷ word w.From ∷ a_name ∷ filtered (act (expected at) ∷ [])

-- ---- statements

-- an expression and the semicolon behind it
abbrev pub ended : List Symbol
ended = operand 6 ∷ word w.Semicolon ∷ []

-- a name, what is bound to it, and the semicolon behind it
abbrev pub binding : List Symbol
binding = a_name ∷ word w.Becomes ∷ operand 6 ∷ word w.Semicolon ∷ []

-- an expression and the statements behind it
abbrev pub headed : List Symbol
headed = operand 6 ∷ block []

-- what comes behind the keyword of a let
abbrev pub behind_let : ℕ → List Symbol
behind_let at = a_name ∷ word w.Becomes ∷ operand 6 ∷ word w.Semicolon ∷ act (bound (tree.let_ at)) ∷ []

-- what comes behind the keyword of a set
abbrev pub behind_set : ℕ → List Symbol
behind_set at = a_name ∷ word w.Becomes ∷ operand 6 ∷ word w.Semicolon ∷ act (bound (tree.set_ at)) ∷ []

-- what comes behind the keyword of an if
abbrev pub behind_if : ℕ → List Symbol
behind_if at = operand 6 ∷ block (else_part ∷ act (branched at) ∷ [])

-- what comes behind the keyword of a while
abbrev pub behind_while : ℕ → List Symbol
behind_while at = operand 6 ∷ block (act (repeated at) ∷ [])

-- what comes behind the keyword of a for
abbrev pub behind_for : ℕ → List Symbol
behind_for at = a_name ∷ word w.In ∷ operand 6 ∷ block (act (turned at) ∷ [])

-- what comes behind the keyword of an echo
abbrev pub behind_echo : ℕ → List Symbol
behind_echo at = operand 6 ∷ word w.Semicolon ∷ act (said (tree.echo at)) ∷ []

-- what comes behind the keyword of a status
abbrev pub behind_status : ℕ → List Symbol
behind_status at = operand 6 ∷ word w.Semicolon ∷ act (said (tree.status at)) ∷ []

-- what comes behind the keyword of a return
abbrev pub behind_return : ℕ → List Symbol
behind_return at = operand 6 ∷ word w.Semicolon ∷ act (said (tree.return at)) ∷ []

-- what comes behind the keyword of a do
abbrev pub behind_do : ℕ → List Symbol
behind_do at = operand 6 ∷ word w.Semicolon ∷ act (said (tree.do_ at)) ∷ []

-- ---- declarations

-- what comes behind the keyword of a store
abbrev pub behind_store : ℕ → List Symbol
behind_store at = a_name ∷ word w.Semicolon ∷ act (stored at) ∷ []

-- what comes behind the keyword of a table
abbrev pub behind_table : ℕ → List Symbol
behind_table at = a_name ∷ word w.Open ∷ act (puts (of_names [])) ∷ a_name ∷ act adds_name ∷ more_names w.Close ∷ word w.Semicolon ∷ act (tabled at) ∷ []

-- what comes behind the keyword of a function
abbrev pub behind_function : ℕ → List Symbol
behind_function at = a_name ∷ word w.Open ∷ act (puts (of_names [])) ∷ parameters ∷ block (act (defined at) ∷ [])

-- what comes behind the keyword of a page
abbrev pub behind_page : ℕ → List Symbol
behind_page at = a_path ∷ block (act (paged at) ∷ [])
