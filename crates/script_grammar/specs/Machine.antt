-- The grammar as a machine, from which the grammar is proved to be decided: what may come next is a stack of symbols, what was read a stack of values.
use Rattle.std.specs.Prelude.{ℕ, zero, suc, ◌-◌, ◌==◌, List, [], ◌∷◌, ◌++◌, Option, Some, None, true, false, if◌then◌else◌}
use Rattle.script_tree.specs.Syntax as tree
use Rattle.script_tree.specs.Syntax.{Expression, Condition, Assignment, Query, Statement, Else}
use Rattle.script_tree.specs.SyntaxLists.{expressions_of, queries_of, conditions_of, assignments_of, statements_of}
use Rattle.script_tree.specs.SyntaxPlaces.{place_of}
use Rattle.script_tree.specs.declared.comparison.Comparison.{Comparison}
use Rattle.script_tree.specs.declared.comparison.Comparison.TheVariants as compared
use Rattle.script_tree.specs.declared.syntax.operator.UnaryOperator.{UnaryOperator}
use Rattle.script_tree.specs.declared.syntax.operator.UnaryOperator.TheVariants as one
use Rattle.script_tree.specs.declared.syntax.operator.BinaryOperator.TheVariants as two
use Rattle.script_tree.specs.declared.syntax.name.Name.{Name}
use Rattle.script_tree.specs.declared.syntax.declaration.Declaration.{Declaration}
use Rattle.script_tree.specs.declared.syntax.declaration.Declaration.TheVariants as declared
use Rattle.script_tokens.specs.Kinds as kind
use Rattle.script_tokens.specs.Kinds.{Kind, Token}
use Rattle.script_tokens.specs.Feed.{is_word}
use Rattle.script_tokens.specs.declared.word.Word.{Word}
use Rattle.script_tokens.specs.declared.word.Word.TheVariants as w
use Rattle.script_grammar.specs.Grouping.{operator_level, most_repeats}
use Rattle.script_grammar.specs.declared.joint.Joint.{Joint}
use Rattle.script_grammar.specs.declared.joint.Joint.TheVariants.{Indexing, And, Or, Operator}

-- the level of a joint: 0 for indexing, 2 to 4 for operators, 5 for and, 6 for or
abbrev pub joint_level : Joint → ℕ
joint_level Indexing = 0
joint_level And = 5
joint_level Or = 6
joint_level (Operator operator) = operator_level operator

-- two operands with this joint between them
abbrev pub joined : Joint → Expression → Expression → Expression
joined Indexing left right = tree.index (place_of left) left right
joined And left right = tree.and_ (place_of left) left right
joined Or left right = tree.or_ (place_of left) left right
joined (Operator operator) left right = tree.binary (place_of left) operator left right

-- the joint that a word is, where it is one
abbrev pub word_joint : Word → Option Joint
word_joint w.SquareOpen = Some Indexing
word_joint w.And = Some And
word_joint w.Or = Some Or
word_joint w.Plus = Some (Operator two.Plus)
word_joint w.Minus = Some (Operator two.Minus)
word_joint w.Times = Some (Operator two.Times)
word_joint w.Over = Some (Operator two.Quotient)
word_joint w.Percent = Some (Operator two.Remainder)
word_joint w.Equal = Some (Operator (two.Compare compared.Equal))
word_joint w.Unequal = Some (Operator (two.Compare compared.Unequal))
word_joint w.Less = Some (Operator (two.Compare compared.Less))
word_joint w.AtMost = Some (Operator (two.Compare compared.AtMost))
word_joint w.Greater = Some (Operator (two.Compare compared.Greater))
word_joint w.AtLeast = Some (Operator (two.Compare compared.AtLeast))
word_joint v = None

-- the joint that a token is, where it is one
abbrev pub joint_of : Kind → Option Joint
joint_of (kind.fixed v) = word_joint v
joint_of (kind.name x) = None
joint_of (kind.number n) = None
joint_of (kind.text x) = None

-- the prefix that a word is, where it is one
abbrev pub word_prefix : Word → Option UnaryOperator
word_prefix w.Not = Some one.Not
word_prefix w.Minus = Some one.Negate
word_prefix v = None

-- the prefix that a token is, where it is one
abbrev pub prefix_of : Kind → Option UnaryOperator
prefix_of (kind.fixed v) = word_prefix v
prefix_of (kind.name x) = None
prefix_of (kind.number n) = None
prefix_of (kind.text x) = None

-- the comparison that a word is, where it is one
abbrev pub word_comparison : Word → Option Comparison
word_comparison w.Equal = Some compared.Equal
word_comparison w.Unequal = Some compared.Unequal
word_comparison w.Less = Some compared.Less
word_comparison w.AtMost = Some compared.AtMost
word_comparison w.Greater = Some compared.Greater
word_comparison w.AtLeast = Some compared.AtLeast
word_comparison v = None

-- the comparison that a token is, where it is one
abbrev pub comparison_of : Kind → Option Comparison
comparison_of (kind.fixed v) = word_comparison v
comparison_of (kind.name x) = None
comparison_of (kind.number n) = None
comparison_of (kind.text x) = None

-- ---- what was read

-- a part of a tree that was read
pub data Val : Type 0 where
  of_name : Name → Val
  of_names : List Name → Val
  of_expression : Expression → Val
  of_expressions : List Expression → Val
  of_comparison : Comparison → Val
  of_tests : List Condition → Val
  of_sets : List Assignment → Val
  of_query : Query → Val
  of_queries : List Query → Val
  of_statement : Statement → Val
  of_statements : List Statement → Val
  of_else : Else → Val
  of_declaration : Declaration → Val
  of_declarations : List Declaration → Val

-- what is made of the last values
pub data Act : Type 0 where
  puts : Val → Act
  adds_name : Act
  adds_expression : Act
  adds_test : Act
  adds_set : Act
  adds_query : Act
  adds_statement : Act
  adds_declaration : Act
  joined_by : Joint → Act
  prefixed : (at : ℕ) → UnaryOperator → Act
  bracketed : (at : ℕ) → Act
  called : (at : ℕ) → (name : List ℕ) → Act
  listed : (at : ℕ) → Act
  transacted : (at : ℕ) → Act
  inserted : (at : ℕ) → Act
  selected : (at : ℕ) → Act
  updated : (at : ℕ) → Act
  deleted : (at : ℕ) → Act
  expected : (at : ℕ) → Act
  -- let, set
  bound : (Name → Expression → Statement) → Act
  -- echo, status, return, do
  said : (Expression → Statement) → Act
  branched : (at : ℕ) → Act
  otherwise : Act
  repeated : (at : ℕ) → Act
  turned : (at : ℕ) → Act
  stored : (at : ℕ) → Act
  tabled : (at : ℕ) → Act
  defined : (at : ℕ) → Act
  paged : (at : ℕ) → Act

-- the values after an act; the last one stands first
abbrev pub apply : Act → List Val → List Val
apply (puts v) vs = v ∷ vs
apply adds_name (of_name x ∷ of_names xs ∷ vs) = of_names (xs ++ x ∷ []) ∷ vs
apply adds_expression (of_expression e ∷ of_expressions es ∷ vs) = of_expressions (es ++ e ∷ []) ∷ vs
apply adds_test (of_expression e ∷ of_comparison c ∷ of_name x ∷ of_tests cs ∷ vs) = of_tests (cs ++ record { column = x; comparison = c; value = e } ∷ []) ∷ vs
apply adds_set (of_expression e ∷ of_name x ∷ of_sets ss ∷ vs) = of_sets (ss ++ record { column = x; value = e } ∷ []) ∷ vs
apply adds_query (of_query q ∷ of_queries qs ∷ vs) = of_queries (qs ++ q ∷ []) ∷ vs
apply adds_statement (of_statement s ∷ of_statements ss ∷ vs) = of_statements (ss ++ s ∷ []) ∷ vs
apply adds_declaration (of_declaration d ∷ of_declarations ds ∷ vs) = of_declarations (ds ++ d ∷ []) ∷ vs
apply (joined_by j) (of_expression right ∷ of_expression left ∷ vs) = of_expression (joined j left right) ∷ vs
apply (prefixed at operator) (of_expression e ∷ vs) = of_expression (tree.unary at operator e) ∷ vs
apply (bracketed at) (of_expression e ∷ vs) = of_expression (tree.bracket at e) ∷ vs
apply (called at f) (of_expressions es ∷ vs) = of_expression (tree.call at f (expressions_of es)) ∷ vs
apply (listed at) (of_expressions es ∷ vs) = of_expression (tree.list at (expressions_of es)) ∷ vs
apply (transacted at) (of_queries qs ∷ vs) = of_expression (tree.transact at (queries_of qs)) ∷ vs
apply (inserted at) (of_expressions es ∷ of_name t ∷ vs) = of_query (tree.insert at t (expressions_of es)) ∷ vs
apply (selected at) (of_tests cs ∷ of_name t ∷ of_names xs ∷ vs) = of_query (tree.select at xs t (conditions_of cs)) ∷ vs
apply (updated at) (of_tests cs ∷ of_sets ss ∷ of_name t ∷ vs) = of_query (tree.update at t (assignments_of ss) (conditions_of cs)) ∷ vs
apply (deleted at) (of_tests cs ∷ of_name t ∷ vs) = of_query (tree.delete at t (conditions_of cs)) ∷ vs
apply (expected at) (of_tests cs ∷ of_name t ∷ of_expression e ∷ vs) = of_query (tree.expect at e t (conditions_of cs)) ∷ vs
apply (bound make) (of_expression e ∷ of_name x ∷ vs) = of_statement (make x e) ∷ vs
apply (said make) (of_expression e ∷ vs) = of_statement (make e) ∷ vs
apply (branched at) (of_else other ∷ of_statements ss ∷ of_expression e ∷ vs) = of_statement (tree.if_ at e (statements_of ss) other) ∷ vs
apply otherwise (of_statements ss ∷ vs) = of_else (tree.else_ (statements_of ss)) ∷ vs
apply (repeated at) (of_statements ss ∷ of_expression e ∷ vs) = of_statement (tree.while_ at e (statements_of ss)) ∷ vs
apply (turned at) (of_statements ss ∷ of_expression e ∷ of_name x ∷ vs) = of_statement (tree.for_ at x e (statements_of ss)) ∷ vs
apply (stored at) (of_name x ∷ vs) = of_declaration (declared.Store at x) ∷ vs
apply (tabled at) (of_names xs ∷ of_name x ∷ vs) = of_declaration (declared.Table at x xs) ∷ vs
apply (defined at) (of_statements ss ∷ of_names xs ∷ of_name f ∷ vs) = of_declaration (declared.Function at f xs ss) ∷ vs
apply (paged at) (of_statements ss ∷ of_name path ∷ vs) = of_declaration (declared.Page at path ss) ∷ vs
apply a vs = vs

-- ---- what may come next

-- what may come next: an act, for which no token is read, a token, or a part of the grammar
pub data Symbol : Type 0 where
  act : Act → Symbol
  word : Word → Symbol
  a_name : Symbol
  a_path : Symbol
  a_comparison : Symbol
  -- an expression of this level at most
  operand : (level : ℕ) → Symbol
  -- of level 1, with so many prefixes at most
  prefixes : (left : ℕ) → Symbol
  atom : Symbol
  -- so many further operands of this level at most
  tail : (level left : ℕ) → Symbol
  name_tail : (at : ℕ) → (name : List ℕ) → Symbol
  -- up to the closing word
  arguments : (close : Word) → Symbol
  more_arguments : (close : Word) → Symbol
  parameters : Symbol
  more_names : (close : Word) → Symbol
  a_query : Symbol
  more_queries : Symbol
  filter : Symbol
  more_tests : Symbol
  more_sets : Symbol
  a_statement : Symbol
  statements : Symbol
  else_part : Symbol
  declarations : Symbol

-- what may still come, and what was read
abbrev pub State : Type 0
State = List Symbol × List Val

-- the tails of the levels up to this one
abbrev pub chain : ℕ → List Symbol → List Symbol
chain zero k = k
chain (suc zero) k = k
chain (suc (suc r)) k = chain (suc r) (tail (suc (suc r)) (most_repeats (suc (suc r))) ∷ k)

-- one test of a where
abbrev pub test : List Symbol → List Symbol
test k = a_name ∷ a_comparison ∷ operand 3 ∷ act adds_test ∷ k

-- one assignment of an update
abbrev pub assignment : List Symbol → List Symbol
assignment k = a_name ∷ word w.Becomes ∷ operand 6 ∷ act adds_set ∷ k

-- a where or none, and the semicolon behind it
abbrev pub filtered : List Symbol → List Symbol
filtered k = act (puts (of_tests [])) ∷ filter ∷ word w.Semicolon ∷ k

-- a block, from its opening brace to its closing one
abbrev pub block : List Symbol → List Symbol
block k = word w.BraceOpen ∷ act (puts (of_statements [])) ∷ statements ∷ k

-- the state behind a word that begins an expression
abbrev pub begin_word : ℕ → Word → List Symbol → List Val → Option State
begin_word at w.True k vs = Some (k, of_expression (tree.truth at true) ∷ vs)
begin_word at w.False k vs = Some (k, of_expression (tree.truth at false) ∷ vs)
begin_word at w.Null k vs = Some (k, of_expression (tree.null at) ∷ vs)
begin_word at w.Open k vs = Some (operand 6 ∷ word w.Close ∷ act (bracketed at) ∷ k, vs)
begin_word at w.SquareOpen k vs = Some (arguments w.SquareClose ∷ act (listed at) ∷ k, of_expressions [] ∷ vs)
begin_word at w.Transact k vs = Some (word w.BraceOpen ∷ a_query ∷ act adds_query ∷ more_queries ∷ act (transacted at) ∷ k, of_queries [] ∷ vs)
begin_word at v k vs = None

-- the state behind a token that begins an expression without a prefix
abbrev pub begin_atom : ℕ → Kind → List Symbol → List Val → Option State
begin_atom at (kind.fixed v) k vs = begin_word at v k vs
begin_atom at (kind.name x) k vs = Some (name_tail at x ∷ k, vs)
begin_atom at (kind.number n) k vs = Some (k, of_expression (tree.number at n) ∷ vs)
begin_atom at (kind.text x) k vs = Some (k, of_expression (tree.text at x) ∷ vs)

-- the state behind a prefix, where at most so many may stand; the other state where there is none
abbrev pub begin_prefix : ℕ → Option UnaryOperator → (left : ℕ) → List Symbol → List Val → Option State → Option State
begin_prefix at None left k vs other = other
begin_prefix at (Some operator) zero k vs other = None
begin_prefix at (Some operator) (suc left) k vs other = Some (prefixes left ∷ act (prefixed at operator) ∷ k, vs)

-- the state behind a token that begins an expression of level 1 with so many prefixes at most
abbrev pub begin_prefixed : ℕ → Kind → (left : ℕ) → List Symbol → List Val → Option State
begin_prefixed at t left k vs = begin_prefix at (prefix_of t) left k vs (begin_atom at t (tail 0 (most_repeats 0) ∷ k) vs)

-- the state behind a token that begins an expression of this level at most
abbrev pub begin_operand : ℕ → Kind → (level : ℕ) → List Symbol → List Val → Option State
begin_operand at t level k vs = begin_prefixed at t (most_repeats 1) (chain level k) vs

-- what may come behind a joint of this level, with so many further operands
abbrev pub after_joint : Joint → (level left : ℕ) → List Symbol → List Symbol
after_joint Indexing level left k = operand 6 ∷ word w.SquareClose ∷ act (joined_by Indexing) ∷ tail level left ∷ k
after_joint And level left k = operand (level - 1) ∷ act (joined_by And) ∷ tail level left ∷ k
after_joint Or level left k = operand (level - 1) ∷ act (joined_by Or) ∷ tail level left ∷ k
after_joint (Operator operator) level left k = operand (level - 1) ∷ act (joined_by (Operator operator)) ∷ tail level left ∷ k

-- the state behind a joint, where at most so many may stand
abbrev pub go_on : Joint → (level left : ℕ) → List Symbol → List Val → Option State
go_on j level zero k vs = None
go_on j level (suc left) k vs = Some (after_joint j level left k, vs)

-- the state behind a joint of this level; the other state where there is none
abbrev pub joined_on : Option Joint → (level left : ℕ) → List Symbol → List Val → Option State → Option State
joined_on None level left k vs other = other
joined_on (Some j) level left k vs other = if joint_level j == level then go_on j level left k vs else other

-- the state behind a word that begins a transaction's statement
abbrev pub begin_query : ℕ → Word → List Symbol → List Val → Option State
begin_query at w.Insert k vs = Some (
  a_name ∷ word w.Open ∷ act
      (puts (of_expressions [])) ∷ operand 6 ∷ act adds_expression ∷ more_arguments w.Close ∷ word w.Semicolon ∷ act
      (inserted at) ∷ k,
  vs,
)
begin_query at w.Select k vs = Some (a_name ∷ act adds_name ∷ more_names w.From ∷ a_name ∷ filtered (act (selected at) ∷ k), of_names [] ∷ vs)
begin_query at w.Update k vs = Some (a_name ∷ word w.Set ∷ act (puts (of_sets [])) ∷ assignment (more_sets ∷ filtered (act (updated at) ∷ k)), vs)
begin_query at w.Delete k vs = Some (a_name ∷ filtered (act (deleted at) ∷ k), vs)
begin_query at w.Expect k vs = Some (operand 6 ∷ word w.From ∷ a_name ∷ filtered (act (expected at) ∷ k), vs)
begin_query at v k vs = None

-- the state behind a word that begins a statement
abbrev pub begin_statement : ℕ → Word → List Symbol → List Val → Option State
begin_statement at w.Let k vs = Some (a_name ∷ word w.Becomes ∷ operand 6 ∷ word w.Semicolon ∷ act (bound (tree.let_ at)) ∷ k, vs)
begin_statement at w.Set k vs = Some (a_name ∷ word w.Becomes ∷ operand 6 ∷ word w.Semicolon ∷ act (bound (tree.set_ at)) ∷ k, vs)
begin_statement at w.If k vs = Some (operand 6 ∷ block (else_part ∷ act (branched at) ∷ k), vs)
begin_statement at w.While k vs = Some (operand 6 ∷ block (act (repeated at) ∷ k), vs)
begin_statement at w.For k vs = Some (a_name ∷ word w.In ∷ operand 6 ∷ block (act (turned at) ∷ k), vs)
begin_statement at w.Echo k vs = Some (operand 6 ∷ word w.Semicolon ∷ act (said (tree.echo at)) ∷ k, vs)
begin_statement at w.Status k vs = Some (operand 6 ∷ word w.Semicolon ∷ act (said (tree.status at)) ∷ k, vs)
begin_statement at w.Return k vs = Some (operand 6 ∷ word w.Semicolon ∷ act (said (tree.return at)) ∷ k, vs)
begin_statement at w.Do k vs = Some (operand 6 ∷ word w.Semicolon ∷ act (said (tree.do_ at)) ∷ k, vs)
begin_statement at v k vs = None

-- the state behind a word that begins a declaration
abbrev pub begin_declaration : ℕ → Word → List Symbol → List Val → Option State
begin_declaration at w.Store k vs = Some (a_name ∷ word w.Semicolon ∷ act (stored at) ∷ k, vs)
begin_declaration at w.Table k vs = Some (
  a_name ∷ word w.Open ∷ act
      (puts (of_names [])) ∷ a_name ∷ act adds_name ∷ more_names w.Close ∷ word w.Semicolon ∷ act (tabled at) ∷ k,
  vs,
)
begin_declaration at w.Function k vs = Some (a_name ∷ word w.Open ∷ act (puts (of_names [])) ∷ parameters ∷ block (act (defined at) ∷ k), vs)
begin_declaration at w.Page k vs = Some (a_path ∷ block (act (paged at) ∷ k), vs)
begin_declaration at v k vs = None

-- what a word begins; nothing begins with another token
abbrev pub by_word : (Word → Option State) → Kind → Option State
by_word begin (kind.fixed v) = begin v
by_word begin (kind.name x) = None
by_word begin (kind.number n) = None
by_word begin (kind.text x) = None

-- the state behind a name
abbrev pub take_name : ℕ → Kind → List Symbol → List Val → Option State
take_name at (kind.name x) k vs = Some (k, of_name (record { at = at; text = x }) ∷ vs)
take_name at t k vs = None

-- the state behind the path of a page, which is a text
abbrev pub take_path : ℕ → Kind → List Symbol → List Val → Option State
take_path at (kind.text x) k vs = Some (k, of_name (record { at = at; text = x }) ∷ vs)
take_path at t k vs = None

-- the state behind a comparison
abbrev pub take_comparison : Option Comparison → List Symbol → List Val → Option State
take_comparison None k vs = None
take_comparison (Some c) k vs = Some (k, of_comparison c ∷ vs)

-- with one token more
abbrev pub feed : Token → List Symbol → List Val → Option State
feed t [] vs = None
feed t (act a ∷ k) vs = feed t k (apply a vs)
feed t (word v ∷ k) vs = if is_word v t.kind then Some (k, vs) else None
feed t (a_name ∷ k) vs = take_name t.at t.kind k vs
feed t (a_path ∷ k) vs = take_path t.at t.kind k vs
feed t (a_comparison ∷ k) vs = take_comparison (comparison_of t.kind) k vs
feed t (operand level ∷ k) vs = begin_operand t.at t.kind level k vs
feed t (prefixes left ∷ k) vs = begin_prefixed t.at t.kind left k vs
feed t (atom ∷ k) vs = begin_atom t.at t.kind k vs
feed t (tail level left ∷ k) vs = joined_on (joint_of t.kind) level left k vs (feed t k vs)
feed t (name_tail at x ∷ k) vs = if is_word w.Open t.kind then Some
    (arguments w.Close ∷ act (called at x) ∷ k, of_expressions [] ∷ vs) else feed t k
    (of_expression (tree.variable at x) ∷ vs)
feed t (arguments close ∷ k) vs = if is_word close t.kind then Some (k, vs) else begin_operand t.at t.kind 6 (act adds_expression ∷ more_arguments close ∷ k) vs
feed t (more_arguments close ∷ k) vs = if is_word close t.kind then Some
    (k, vs) else if is_word w.Comma t.kind then Some
    (operand 6 ∷ act adds_expression ∷ more_arguments close ∷ k, vs) else None
feed t (parameters ∷ k) vs = if is_word w.Close t.kind then Some (k, vs) else take_name t.at t.kind (act adds_name ∷ more_names w.Close ∷ k) vs
feed t (more_names close ∷ k) vs = if is_word close t.kind then Some (k, vs) else if is_word w.Comma t.kind then Some
    (a_name ∷ act adds_name ∷ more_names close ∷ k, vs) else None
feed t (a_query ∷ k) vs = by_word (λ v. begin_query t.at v k vs) t.kind
feed t (more_queries ∷ k) vs = if is_word w.BraceClose t.kind then Some (k, vs) else by_word
    (λ v. begin_query t.at v (act adds_query ∷ more_queries ∷ k) vs) t.kind
feed t (filter ∷ k) vs = if is_word w.Where t.kind then Some (test (more_tests ∷ k), vs) else feed t k vs
feed t (more_tests ∷ k) vs = if is_word w.And t.kind then Some (test (more_tests ∷ k), vs) else feed t k vs
feed t (more_sets ∷ k) vs = if is_word w.Comma t.kind then Some (assignment (more_sets ∷ k), vs) else feed t k vs
feed t (a_statement ∷ k) vs = by_word (λ v. begin_statement t.at v k vs) t.kind
feed t (statements ∷ k) vs = if is_word w.BraceClose t.kind then Some (k, vs) else by_word
    (λ v. begin_statement t.at v (act adds_statement ∷ statements ∷ k) vs) t.kind
feed t (else_part ∷ k) vs = if is_word w.Else t.kind then Some (block (act otherwise ∷ k), vs) else feed t k (of_else tree.no_else ∷ vs)
feed t (declarations ∷ k) vs = by_word (λ v. begin_declaration t.at v (act adds_declaration ∷ declarations ∷ k) vs) t.kind

-- all tokens are read, and these are the values; or the machine is stuck before these tokens
pub data Parsing : Type 0 where
  done : List Val → Parsing
  stuck : (rest : List Token) → Parsing

-- where no token is left
abbrev pub settle : List Symbol → List Val → Parsing
settle [] vs = done vs
settle (act a ∷ k) vs = settle k (apply a vs)
settle (tail level left ∷ k) vs = settle k vs
settle (name_tail at x ∷ k) vs = settle k (of_expression (tree.variable at x) ∷ vs)
settle (filter ∷ k) vs = settle k vs
settle (more_tests ∷ k) vs = settle k vs
settle (more_sets ∷ k) vs = settle k vs
settle (else_part ∷ k) vs = settle k (of_else tree.no_else ∷ vs)
settle (declarations ∷ k) vs = settle k vs
settle (s ∷ k) vs = stuck []

-- what follows from the state to which a token led; without a state the machine is stuck before the token
abbrev pub fed : Token → List Token → Option State → (List Symbol → List Val → Parsing) → Parsing
fed t ts None more = stuck (t ∷ ts)
fed t ts (Some s) more = more s.0 s.1

-- what comes of these tokens, where these symbols may come next and these values were read
abbrev pub run : List Token → List Symbol → List Val → Parsing
run [] k vs = settle k vs
run (t ∷ ts) k vs = fed t ts (feed t k vs) (λ l us. run ts l us)

-- of a whole file
abbrev pub run_file : List Token → Parsing
run_file ts = run ts (declarations ∷ []) (of_declarations [] ∷ [])
