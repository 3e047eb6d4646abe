-- What a stack of symbols may still read: these tokens lead from these values to those.
use Rattle.std.proofs.Common.{◌≡◌, ℕ, zero, suc, ◌<◌, ◌≤◌, List, [], ◌∷◌}
use Rattle.script_tree.specs.Syntax.{Expression, Expressions, Query, Queries, Conditions, Assignments, Statement, Else, Statements}
use Rattle.script_tree.specs.declared.comparison.Comparison.{Comparison}
use Rattle.script_tree.specs.declared.syntax.name.Name.{Name}
use Rattle.script_tree.specs.declared.syntax.declaration.Declaration.{Declaration}
use Rattle.script_tokens.specs.Kinds as kind
use Rattle.script_tokens.specs.Kinds.{Kind, Token, token}
use Rattle.script_tokens.specs.declared.word.Word.{Word}
use Rattle.script_tokens.specs.declared.word.Word.TheVariants as w
use Rattle.script_grammar.specs.Spelling as mark
use Rattle.script_grammar.specs.Spelling.{Mark, comparison_word, infix_word, names_before, names, spelling, list_spelling, more_spelling, query_spelling, queries_spelling, where_spelling, and_spelling, more_sets_spelling, statement_spelling, else_spelling, statements_spelling, declaration_spelling, AreTokens}
use Rattle.script_grammar.specs.Grouping.{level, row, repeats, most_repeats, IsGrouped, AreGrouped, IsGroupedQuery, AreGroupedQueries, AreGroupedTests, AreGroupedSets, IsGroupedStatement, IsGroupedElse, AreGroupedStatements, AreGroupedDeclarations}
use Rattle.script_grammar.specs.Machine.{joint_level, Val, of_name, of_expression, of_comparison, of_query, of_statement, of_else, joined_by, apply, Symbol, act, word, a_name, a_path, a_comparison, operand, prefixes, atom, tail, name_tail, arguments, more_arguments, parameters, more_names, a_query, more_queries, filter, more_tests, more_sets, a_statement, statements, else_part, declarations}
use Rattle.script_grammar.specs.declared.joint.Joint.{Joint}
use Rattle.script_grammar.specs.declared.joint.Joint.TheVariants.{Indexing, And, Or, Operator}
use Rattle.script_grammar.proofs.Added.{with_names, with_expressions, with_queries, with_conditions, with_assignments, with_statements, with_declarations}

-- before any tokens that are spelled, the tokens are spelled so
abbrev pub Spelled : (List Mark → List Mark) → List Token → List Token → Type 0
Spelled f ts mid = (n : List Mark) → AreTokens n mid → AreTokens (f n) ts

abbrev pub joint_word : Joint → Word
joint_word Indexing = w.SquareOpen
joint_word And = w.And
joint_word Or = w.Or
joint_word (Operator operator) = infix_word operator

-- a joint and its right operand
abbrev pub joint_spelling : Joint → Expression → List Mark → List Mark
joint_spelling Indexing y n = mark.word w.SquareOpen ∷ spelling y (mark.word w.SquareClose ∷ n)
joint_spelling And y n = mark.word w.And ∷ spelling y n
joint_spelling Or y n = mark.word w.Or ∷ spelling y n
joint_spelling (Operator operator) y n = mark.word (infix_word operator) ∷ spelling y n

abbrev pub IsRight : Joint → Expression → Type 0
IsRight Indexing y = Unit {0}
IsRight And y = level y < 5
IsRight Or y = level y < 6
IsRight (Operator operator) y = level y < joint_level (Operator operator)

-- one joint more
pub record Turn (l : ℕ) (ts : List Token) : Type 0 where
  pub joint : Joint
  pub right : Expression
  pub next : List Token
  pub level_is : joint_level joint ≡ l
  pub grouped : IsGrouped right
  pub is_right : IsRight joint right
  pub spelled : Spelled (joint_spelling joint right) ts next

-- so many joints of a level
abbrev pub Turns : ℕ → ℕ → List Token → List Token → List Val → List Val → Type 0
Turns l zero ts mid vs new = (ts ≡ mid) × (new ≡ vs)
Turns l (suc m) ts mid vs new = (t : Turn l ts) × Turns l m t.next mid (apply (joined_by t.joint) (of_expression t.right ∷ vs)) new

-- an expression that these tokens spell
pub record Read (ts : List Token) : Type 0 where
  pub tree : Expression
  pub next : List Token
  pub grouped : IsGrouped tree
  pub spelled : Spelled (spelling tree) ts next

-- an operand is of level 1 at least
abbrev pub most_level : ℕ → ℕ
most_level zero = 1
most_level (suc l) = suc l

abbrev pub declarations_before : List Declaration → List Mark → List Mark
declarations_before [] n = n
declarations_before (d ∷ ds) n = declaration_spelling d (declarations_before ds n)

abbrev pub Yields : List Symbol → List Val → List Token → List Val → Type 0
Yields [] vs ts out = (ts ≡ []) × (out ≡ vs)
Yields (act a ∷ k) vs ts out = Yields k (apply a vs) ts out
Yields (word v ∷ k) vs ts out = (p : ℕ) × (mid : List Token) × (ts ≡ token p (kind.fixed v) ∷ mid) × Yields k vs mid out
Yields (a_name ∷ k) vs ts out = (x : Name) × (mid : List Token) × (ts ≡ token x.at (kind.name x.text) ∷ mid) × Yields k (of_name x ∷ vs) mid out
Yields (a_path ∷ k) vs ts out = (x : Name) × (mid : List Token) × (ts ≡ token x.at (kind.text x.text) ∷ mid) × Yields k (of_name x ∷ vs) mid out
Yields (a_comparison ∷ k) vs ts out = (c : Comparison) × (p : ℕ) × (mid : List Token)
    × (ts ≡ token p (kind.fixed (comparison_word c)) ∷ mid) × Yields k (of_comparison c ∷ vs) mid out
Yields (operand l ∷ k) vs ts out = (e : Read ts) × (level e.tree ≤ most_level l) × Yields k (of_expression e.tree ∷ vs) e.next out
Yields (prefixes left ∷ k) vs ts out = (left ≤ most_repeats 1)
    → (e : Read ts) × (level e.tree ≤ 1) × (repeats 1 e.tree ≤ left) × Yields k (of_expression e.tree ∷ vs) e.next out
Yields (atom ∷ k) vs ts out = (e : Read ts) × (level e.tree ≤ 0) × (row e.tree ≡ 0) × Yields k (of_expression e.tree ∷ vs) e.next out
Yields (tail l left ∷ k) vs ts out = (m : ℕ) × (mid : List Token) × (new : List Val) × (m ≤ left) × Turns l m ts mid vs new × Yields k new mid out
Yields (name_tail at x ∷ k) vs ts out = (e : Read (token at (kind.name x) ∷ ts)) × (level e.tree ≤ 0)
    × (row e.tree ≡ 0) × Yields k (of_expression e.tree ∷ vs) e.next out
Yields (arguments close ∷ k) vs ts out = (es : Expressions) × (mid : List Token) × AreGrouped es
    × Spelled (λ n. list_spelling es (mark.word close ∷ n)) ts mid × Yields k (with_expressions es vs) mid out
Yields (more_arguments close ∷ k) vs ts out =
    (es : Expressions) × (mid : List Token) × AreGrouped es
    × Spelled (λ n. more_spelling es (mark.word close ∷ n)) ts mid × Yields k (with_expressions es vs) mid out
Yields (parameters ∷ k) vs ts out = (xs : List Name) × (mid : List Token)
    × Spelled (λ n. names xs (mark.word w.Close ∷ n)) ts mid × Yields k (with_names xs vs) mid out
Yields (more_names close ∷ k) vs ts out = (xs : List Name) × (mid : List Token)
    × Spelled (λ n. names_before xs (mark.word close ∷ n)) ts mid × Yields k (with_names xs vs) mid out
Yields (a_query ∷ k) vs ts out = (q : Query) × (mid : List Token) × IsGroupedQuery q × Spelled (query_spelling q) ts mid × Yields k (of_query q ∷ vs) mid out
Yields (more_queries ∷ k) vs ts out = (qs : Queries) × (mid : List Token) × AreGroupedQueries qs
    × Spelled (λ n. queries_spelling qs (mark.word w.BraceClose ∷ n)) ts mid × Yields k (with_queries qs vs) mid out
Yields (filter ∷ k) vs ts out = (cs : Conditions) × (mid : List Token) × AreGroupedTests cs
    × Spelled (where_spelling cs) ts mid × Yields k (with_conditions cs vs) mid out
Yields (more_tests ∷ k) vs ts out = (cs : Conditions) × (mid : List Token) × AreGroupedTests cs
    × Spelled (and_spelling cs) ts mid × Yields k (with_conditions cs vs) mid out
Yields (more_sets ∷ k) vs ts out = (ss : Assignments) × (mid : List Token) × AreGroupedSets ss
    × Spelled (more_sets_spelling ss) ts mid × Yields k (with_assignments ss vs) mid out
Yields (a_statement ∷ k) vs ts out = (s : Statement) × (mid : List Token) × IsGroupedStatement s
    × Spelled (statement_spelling s) ts mid × Yields k (of_statement s ∷ vs) mid out
Yields (statements ∷ k) vs ts out = (ss : Statements) × (mid : List Token) × AreGroupedStatements ss
    × Spelled (λ n. statements_spelling ss (mark.word w.BraceClose ∷ n)) ts mid
    × Yields k (with_statements ss vs) mid out
Yields (else_part ∷ k) vs ts out = (o : Else) × (mid : List Token) × IsGroupedElse o × Spelled (else_spelling o) ts mid × Yields k (of_else o ∷ vs) mid out
Yields (declarations ∷ k) vs ts out = (ds : List Declaration) × (mid : List Token) × AreGroupedDeclarations ds
    × Spelled (declarations_before ds) ts mid × Yields k (with_declarations ds vs) mid out
