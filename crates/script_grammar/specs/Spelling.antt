-- The tokens by which a tree is written: docs/language.md, "Grammar". A node's place is that of its first token.
use Rattle.std.specs.Prelude.{◌≡◌, ℕ, List, [], ◌∷◌, Bool, true, false}
use Rattle.script_tree.specs.Programs.{Program}
use Rattle.script_tree.specs.Syntax.{Expression, number, text, truth, null, bracket, variable, call, list, transact, unary, binary, and_, or_, index, Expressions, no_expression, expression, Query, insert, select, update, delete, expect, Queries, no_query, query, Conditions, no_condition, condition, Assignments, no_assignment, assignment, Statement, let_, set_, if_, while_, for_, echo, status, return, do_, Else, no_else, else_, Statements, no_statement, statement}
use Rattle.script_tree.specs.declared.comparison.Comparison.{Comparison}
use Rattle.script_tree.specs.declared.comparison.Comparison.TheVariants as compared
use Rattle.script_tree.specs.declared.syntax.operator.UnaryOperator.{UnaryOperator}
use Rattle.script_tree.specs.declared.syntax.operator.UnaryOperator.TheVariants as one
use Rattle.script_tree.specs.declared.syntax.operator.BinaryOperator.{BinaryOperator}
use Rattle.script_tree.specs.declared.syntax.operator.BinaryOperator.TheVariants as two
use Rattle.script_tree.specs.declared.syntax.name.Name.{Name}
use Rattle.script_tree.specs.declared.syntax.declaration.Declaration.{Declaration}
use Rattle.script_tree.specs.declared.syntax.declaration.Declaration.TheVariants as declared
use Rattle.script_tree.specs.declared.syntax.tree.Version.{Version}
use Rattle.script_tree.specs.declared.syntax.tree.Version.TheVariants.{First}
use Rattle.script_tokens.specs.Kinds as kind
use Rattle.script_tokens.specs.Kinds.{Kind, Token, token}
use Rattle.script_tokens.specs.declared.word.Word.{Word}
use Rattle.script_tokens.specs.declared.word.Word.TheVariants as w

-- a token at a place of the tree, or a token whose place the tree doesn't keep
pub data Mark : Type 0 where
  placed : (at : ℕ) → Kind → Mark
  anywhere : Kind → Mark

-- a keyword or a sign at this place
abbrev pub at_word : ℕ → Word → Mark
at_word at v = placed at (kind.fixed v)

-- a keyword or a sign, wherever it stands
abbrev pub word : Word → Mark
word v = anywhere (kind.fixed v)

-- a name at its place
abbrev pub named : Name → Mark
named x = placed x.at (kind.name x.text)

-- the sign of a comparison
abbrev pub comparison_word : Comparison → Word
comparison_word compared.Equal = w.Equal
comparison_word compared.Unequal = w.Unequal
comparison_word compared.Less = w.Less
comparison_word compared.AtMost = w.AtMost
comparison_word compared.Greater = w.Greater
comparison_word compared.AtLeast = w.AtLeast

-- the sign between the operands of an operator
abbrev pub infix_word : BinaryOperator → Word
infix_word (two.Compare c) = comparison_word c
infix_word two.Plus = w.Plus
infix_word two.Minus = w.Minus
infix_word two.Times = w.Times
infix_word two.Quotient = w.Over
infix_word two.Remainder = w.Percent

-- the keyword or sign before the operand of an operator
abbrev pub prefix_word : UnaryOperator → Word
prefix_word one.Not = w.Not
prefix_word one.Negate = w.Minus

-- the keyword of a truth value
abbrev pub truth_word : Bool → Word
truth_word true = w.True
truth_word false = w.False

-- ---- each part, before what follows it

-- names with a comma before each
abbrev pub names_before : List Name → List Mark → List Mark
names_before [] k = k
names_before (x ∷ xs) k = word w.Comma ∷ named x ∷ names_before xs k

-- names with commas between them
abbrev pub names : List Name → List Mark → List Mark
names [] k = k
names (x ∷ xs) k = named x ∷ names_before xs k

abbrev mutual
  -- an expression
  pub spelling : Expression → List Mark → List Mark
  spelling (number at n) k = placed at (kind.number n) ∷ k
  spelling (text at bytes) k = placed at (kind.text bytes) ∷ k
  spelling (truth at b) k = at_word at (truth_word b) ∷ k
  spelling (null at) k = at_word at w.Null ∷ k
  spelling (bracket at e) k = at_word at w.Open ∷ spelling e (word w.Close ∷ k)
  spelling (variable at x) k = placed at (kind.name x) ∷ k
  spelling (call at f es) k = placed at (kind.name f) ∷ word w.Open ∷ list_spelling es (word w.Close ∷ k)
  spelling (list at es) k = at_word at w.SquareOpen ∷ list_spelling es (word w.SquareClose ∷ k)
  spelling (transact at qs) k = at_word at w.Transact ∷ word w.BraceOpen ∷ queries_spelling qs (word w.BraceClose ∷ k)
  spelling (unary at operator e) k = at_word at (prefix_word operator) ∷ spelling e k
  spelling (binary at operator left right) k = spelling left (word (infix_word operator) ∷ spelling right k)
  spelling (and_ at left right) k = spelling left (word w.And ∷ spelling right k)
  spelling (or_ at left right) k = spelling left (word w.Or ∷ spelling right k)
  spelling (index at whole place) k = spelling whole (word w.SquareOpen ∷ spelling place (word w.SquareClose ∷ k))

  -- expressions with commas between them
  pub list_spelling : Expressions → List Mark → List Mark
  list_spelling no_expression k = k
  list_spelling (expression e es) k = spelling e (more_spelling es k)

  -- expressions with a comma before each
  pub more_spelling : Expressions → List Mark → List Mark
  more_spelling no_expression k = k
  more_spelling (expression e es) k = word w.Comma ∷ spelling e (more_spelling es k)

  -- a statement of a transaction
  pub query_spelling : Query → List Mark → List Mark
  query_spelling (insert at t es) k = at_word at w.Insert ∷ named t ∷ word w.Open ∷ list_spelling es (word w.Close ∷ word w.Semicolon ∷ k)
  query_spelling (select at columns t cs) k = at_word at w.Select ∷ names columns (word w.From ∷ named t ∷ where_spelling cs (word w.Semicolon ∷ k))
  query_spelling (update at t sets cs) k = at_word at w.Update ∷ named t ∷ word w.Set ∷ sets_spelling sets (where_spelling cs (word w.Semicolon ∷ k))
  query_spelling (delete at t cs) k = at_word at w.Delete ∷ named t ∷ where_spelling cs (word w.Semicolon ∷ k)
  query_spelling (expect at e t cs) k = at_word at w.Expect ∷ spelling e (word w.From ∷ named t ∷ where_spelling cs (word w.Semicolon ∷ k))

  -- the statements of a transaction
  pub queries_spelling : Queries → List Mark → List Mark
  queries_spelling no_query k = k
  queries_spelling (query q qs) k = query_spelling q (queries_spelling qs k)

  -- no tests, no where
  pub where_spelling : Conditions → List Mark → List Mark
  where_spelling no_condition k = k
  where_spelling (condition x c e cs) k = word w.Where ∷ named x ∷ word (comparison_word c) ∷ spelling e (and_spelling cs k)

  -- tests with an and before each
  pub and_spelling : Conditions → List Mark → List Mark
  and_spelling no_condition k = k
  and_spelling (condition x c e cs) k = word w.And ∷ named x ∷ word (comparison_word c) ∷ spelling e (and_spelling cs k)

  -- assignments with commas between them
  pub sets_spelling : Assignments → List Mark → List Mark
  sets_spelling no_assignment k = k
  sets_spelling (assignment x e sets) k = named x ∷ word w.Becomes ∷ spelling e (more_sets_spelling sets k)

  -- assignments with a comma before each
  pub more_sets_spelling : Assignments → List Mark → List Mark
  more_sets_spelling no_assignment k = k
  more_sets_spelling (assignment x e sets) k = word w.Comma ∷ named x ∷ word w.Becomes ∷ spelling e (more_sets_spelling sets k)

abbrev mutual
  -- a statement
  pub statement_spelling : Statement → List Mark → List Mark
  statement_spelling (let_ at x e) k = at_word at w.Let ∷ named x ∷ word w.Becomes ∷ spelling e (word w.Semicolon ∷ k)
  statement_spelling (set_ at x e) k = at_word at w.Set ∷ named x ∷ word w.Becomes ∷ spelling e (word w.Semicolon ∷ k)
  statement_spelling (if_ at e body other) k =
      at_word at w.If ∷ spelling e (word w.BraceOpen ∷ statements_spelling body
      (word w.BraceClose ∷ else_spelling other k))
  statement_spelling (while_ at e body) k = at_word at w.While ∷ spelling e (word w.BraceOpen ∷ statements_spelling body (word w.BraceClose ∷ k))
  statement_spelling (for_ at x e body) k =
      at_word at w.For ∷ named x ∷ word w.In ∷ spelling e
      (word w.BraceOpen ∷ statements_spelling body (word w.BraceClose ∷ k))
  statement_spelling (echo at e) k = at_word at w.Echo ∷ spelling e (word w.Semicolon ∷ k)
  statement_spelling (status at e) k = at_word at w.Status ∷ spelling e (word w.Semicolon ∷ k)
  statement_spelling (return at e) k = at_word at w.Return ∷ spelling e (word w.Semicolon ∷ k)
  statement_spelling (do_ at e) k = at_word at w.Do ∷ spelling e (word w.Semicolon ∷ k)

  -- an else, where there is one
  pub else_spelling : Else → List Mark → List Mark
  else_spelling no_else k = k
  else_spelling (else_ body) k = word w.Else ∷ word w.BraceOpen ∷ statements_spelling body (word w.BraceClose ∷ k)

  -- the statements of a block
  pub statements_spelling : Statements → List Mark → List Mark
  statements_spelling no_statement k = k
  statements_spelling (statement s ss) k = statement_spelling s (statements_spelling ss k)

-- the statements of a function or a page
abbrev pub block_spelling : List Statement → List Mark → List Mark
block_spelling [] k = k
block_spelling (s ∷ ss) k = statement_spelling s (block_spelling ss k)

-- a declaration
abbrev pub declaration_spelling : Declaration → List Mark → List Mark
declaration_spelling (declared.Store at name) k = at_word at w.Store ∷ named name ∷ word w.Semicolon ∷ k
declaration_spelling (declared.Table at name columns) k = at_word at w.Table ∷ named name ∷ word w.Open ∷ names columns (word w.Close ∷ word w.Semicolon ∷ k)
declaration_spelling (declared.Function at name parameters body) k =
    at_word at w.Function ∷ named name ∷ word w.Open ∷ names parameters
    (word w.Close ∷ word w.BraceOpen ∷ block_spelling body (word w.BraceClose ∷ k))
declaration_spelling (declared.Page at path body) k =
    at_word at w.Page ∷ placed path.at (kind.text path.text) ∷ word w.BraceOpen ∷ block_spelling body
    (word w.BraceClose ∷ k)

-- declarations, with nothing behind them
abbrev pub declarations_spelling : List Declaration → List Mark
declarations_spelling [] = []
declarations_spelling (d ∷ ds) = declaration_spelling d (declarations_spelling ds)

-- ---- a whole program

-- the marks of declarations in this version of the language
abbrev pub marks_in : Version → List Declaration → List Mark
marks_in First ds = declarations_spelling ds

-- the marks of a tree are those of its version
abbrev pub tree_spelling : Program → List Mark
tree_spelling tree = marks_in tree.version tree.declarations

-- These tokens are those, at their places.
abbrev pub AreTokens : List Mark → List Token → Type 0
AreTokens [] ts = ts ≡ []
AreTokens (placed at k ∷ ms) ts = (rest : List Token) × (ts ≡ token at k ∷ rest) × AreTokens ms rest
AreTokens (anywhere k ∷ ms) ts = (at : ℕ) × (rest : List Token) × (ts ≡ token at k ∷ rest) × AreTokens ms rest
