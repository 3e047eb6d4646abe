-- What a function of the parser returned: what the machine of the grammar does with its symbols.
use Rattle.std.specs.Prelude.{◌≡◌, ℕ, ◌-◌, true, List, [], ◌∷◌, ◌++◌, length, map, ◌==◌, if◌then◌else◌, Option, Some, None, Result, Ok, Err}
use Rattle.basis.specs.declared.or_memory.OrMemory.{OrMemory}
use Rattle.basis.specs.declared.or_memory.OrMemory.TheVariants.{Memory, Other}
use Rattle.script_tree.specs.ExpressionView.{condition_of, assignment_of}
use Rattle.script_tree.specs.Programs.{Program}
use Rattle.script_tree.specs.Syntax.{Expression, Query, Statement}
use Rattle.script_tree.specs.declared.syntax.expression.Assignment.{Assignment}
use Rattle.script_tree.specs.declared.syntax.expression.Condition.{Condition}
use Rattle.script_tree.specs.StatementView.{else_of}
use Rattle.script_tree.specs.declared.comparison.Comparison.{Comparison}
use Rattle.script_tree.specs.declared.syntax.name.Name.{Name}
use Rattle.script_tree.specs.declared.syntax.declaration.Declaration.{Declaration}
use Rattle.script_tree.specs.declared.syntax.statement.Else as code
use Rattle.script_tokens.specs.Feed.{fault_of, stands}
use Rattle.script_tokens.specs.Scans.{Scan}
use Rattle.script_tokens.specs.declared.fault.End.{End}
use Rattle.script_tokens.specs.declared.fault.End.TheVariants.{File, Fault}
use Rattle.script_tokens.specs.declared.fault.SyntaxFault.{SyntaxFault}
use Rattle.script_tokens.specs.Kinds.{Kind, Token, token}
use Rattle.script_tokens.specs.Kinds as kind
use Rattle.script_tokens.specs.declared.word.Word.{Word}
use Rattle.script_tokens.specs.declared.word.Word.TheVariants as w
use Rattle.script_tree.specs.declared.syntax.operator.UnaryOperator.{UnaryOperator}
use Rattle.script_grammar.specs.declared.joint.Joint.{Joint}
use Rattle.script_grammar.specs.declared.joint.Joint.TheVariants.{Indexing}
use Rattle.script_grammar.specs.Machine.{joint_level, joint_of, prefix_of, comparison_of, Symbol, act, tail, joined_by, Val, of_name, of_names, of_expression, of_expressions, of_comparison, of_tests, of_sets, of_query, of_queries, of_statement, of_statements, of_else, of_declaration, of_declarations, State, Parsing, done, stuck, fed, declarations, run}

-- what the machine makes of the tokens that are left, and what stands behind them
abbrev pub reading : Scan → List Symbol → List Val → Parsing × End
reading s k vs = (run s.tokens k vs, s.end)

-- the fault where the machine is stuck before these tokens and this end; none where it is done
abbrev pub stuck_fault : Parsing → End → Option SyntaxFault
stuck_fault (done vs) end = None
stuck_fault (stuck rest) end = Some (fault_of rest end)

-- the fault where the machine is stuck
abbrev pub fault_in : Parsing × End → Option SyntaxFault
fault_in o = stuck_fault o.0 o.1

-- The machine is stuck with this fault, whatever follows.
abbrev pub Stops : List Symbol → List Val → OrMemory SyntaxFault → Scan → Type 0
Stops symbols from Memory old = Unit {0}
Stops symbols from (Other fault) old = (k : List Symbol) (vs : List Val) → fault_in (reading old (symbols ++ k) (from ++ vs)) ≡ Some fault

-- The machine reads the symbols and has these values more; or it is stuck.
abbrev pub Parses : {X : Type 0} → (X → List Val) → List Symbol → List Val → Result X (OrMemory SyntaxFault) → Scan → Scan → Type 0
Parses to symbols from (Ok x) old new = (k : List Symbol) (vs : List Val) → reading old (symbols ++ k) (from ++ vs) ≡ reading new k (to x ++ vs)
Parses to symbols from (Err e) old new = Stops symbols from e old

-- what the machine makes of the tokens behind a first one, which led to this state
abbrev pub after : Token → Scan → Option State → Parsing × End
after t s o = (fed t s.tokens o (λ l us. run s.tokens l us), s.end)

-- The same of a first token, which is taken already.
abbrev pub BeginStops : Token → (List Symbol → List Val → Option State) → OrMemory SyntaxFault → Scan → Type 0
BeginStops t begin Memory old = Unit {0}
BeginStops t begin (Other fault) old = (k : List Symbol) (vs : List Val) → fault_in (after t old (begin k vs)) ≡ Some fault

-- The machine goes on from the first token and has these values more; or it is stuck.
abbrev pub Begins : {X : Type 0} → (X → List Val) → Token → (List Symbol → List Val → Option State) → Result X (OrMemory SyntaxFault) → Scan → Scan → Type 0
Begins to t begin (Ok x) old new = (k : List Symbol) (vs : List Val) → after t old (begin k vs) ≡ reading new k (to x ++ vs)
Begins to t begin (Err e) old new = BeginStops t begin e old

-- a keyword or a sign at this place
abbrev pub word_token : ℕ → Word → Token
word_token at v = token at (kind.fixed v)

-- ---- the first token

-- the token is no keyword and no sign
abbrev pub IsNoWord : Kind → Type 0
IsNoWord (kind.fixed v) = ⊥
IsNoWord (kind.name x) = Unit {0}
IsNoWord (kind.number n) = Unit {0}
IsNoWord (kind.text x) = Unit {0}

-- no word stands first
abbrev pub BeginsNoWord : List Token → Type 0
BeginsNoWord [] = Unit {0}
BeginsNoWord (t ∷ ts) = IsNoWord t.kind

-- the joint of this level
abbrev pub of_level : ℕ → Option Joint → Option Joint
of_level l None = None
of_level l (Some j) = if joint_level j == l then Some j else None

-- a joint of this level, where one stands first
abbrev pub joint_at : ℕ → List Token → Option Joint
joint_at l [] = None
joint_at l (t ∷ ts) = of_level l (joint_of t.kind)

-- a prefix with this place
abbrev pub placed_prefix : ℕ → Option UnaryOperator → Option (ℕ × UnaryOperator)
placed_prefix at None = None
placed_prefix at (Some operator) = Some (at, operator)

-- a prefix, with its place
abbrev pub prefix_at : List Token → Option (ℕ × UnaryOperator)
prefix_at [] = None
prefix_at (t ∷ ts) = placed_prefix t.at (prefix_of t.kind)

-- Where this joint stands first, of which so many may follow, the machine reads what is joined by it; or it is stuck.
abbrev pub Joins : Joint → ℕ → ℕ → Result Expression (OrMemory SyntaxFault) → Scan → Scan → Type 0
Joins j level left (Ok e) old new = (k : List Symbol) (vs : List Val)
    → reading old (tail level left ∷ k) vs ≡ reading new (act (joined_by j) ∷ tail level (left - 1) ∷ k) (of_expression e ∷ vs)
Joins j level left (Err e) old new = Stops (tail level left ∷ []) [] e old

-- The joint of this level that stands first joins.
abbrev pub IsBehindJoint : ℕ → ℕ → Result Expression (OrMemory SyntaxFault) → Scan → Scan → Type 0
IsBehindJoint level left result old new = (j : Joint) → joint_at level old.tokens ≡ Some j → Joins j level left result old new

-- The bracket of a place that stands first joins.
abbrev pub IsPlace : ℕ → Result Expression (OrMemory SyntaxFault) → Scan → Scan → Type 0
IsPlace left result old new = stands w.SquareOpen old.tokens ≡ true → Joins Indexing 0 left result old new

-- ---- the values

-- nothing is kept of it
abbrev pub no_value : {X : Type 0} → X → List Val
no_value x = []

-- the value of a name
abbrev pub a_name_value : Name → List Val
a_name_value x = of_name x ∷ []

-- the value of a list of names
abbrev pub names_value : List Name → List Val
names_value xs = of_names xs ∷ []

-- the value of an expression
abbrev pub expression_value : Expression → List Val
expression_value e = of_expression e ∷ []

-- the value of a list of expressions
abbrev pub expressions_value : List Expression → List Val
expressions_value es = of_expressions es ∷ []

-- the value of a comparison
abbrev pub comparison_value : Comparison → List Val
comparison_value c = of_comparison c ∷ []

-- the value of a list of tests
abbrev pub tests_value : List Condition → List Val
tests_value cs = of_tests (map condition_of cs) ∷ []

-- a table and the tests of its rows
abbrev pub selection_value : Name × List Condition → List Val
selection_value x = of_tests (map condition_of x.1) ∷ of_name x.0 ∷ []

-- the value of a list of assignments
abbrev pub sets_value : List Assignment → List Val
sets_value ss = of_sets (map assignment_of ss) ∷ []

-- the parts of a test
abbrev pub condition_value : Condition → List Val
condition_value c = of_expression c.value ∷ of_comparison c.comparison ∷ of_name c.column ∷ []

-- the parts of an assignment
abbrev pub assignment_value : Assignment → List Val
assignment_value a = of_expression a.value ∷ of_name a.column ∷ []

-- the value of a transaction's statement
abbrev pub query_value : Query → List Val
query_value q = of_query q ∷ []

-- the value of a list of a transaction's statements
abbrev pub queries_value : List Query → List Val
queries_value qs = of_queries qs ∷ []

-- a name and what is bound to it
abbrev pub binding_value : Name × Expression → List Val
binding_value x = of_expression x.1 ∷ of_name x.0 ∷ []

-- the value of a statement
abbrev pub statement_value : Statement → List Val
statement_value s = of_statement s ∷ []

-- the value of a list of statements
abbrev pub statements_value : List Statement → List Val
statements_value ss = of_statements ss ∷ []

-- an expression and the statements behind it
abbrev pub headed_value : Expression × List Statement → List Val
headed_value x = of_statements x.1 ∷ of_expression x.0 ∷ []

-- the value of an else, or of none
abbrev pub else_value : code.Else → List Val
else_value other = of_else (else_of other) ∷ []

-- the value of a declaration
abbrev pub declaration_value : Declaration → List Val
declaration_value d = of_declaration d ∷ []

-- the value of a list of declarations
abbrev pub declarations_value : List Declaration → List Val
declarations_value ds = of_declarations ds ∷ []

-- a comparison, where one stands first
abbrev pub comparison_at : List Token → Option Comparison
comparison_at [] = None
comparison_at (t ∷ ts) = comparison_of t.kind

-- The machine reads all tokens of a file, and nothing is left of them; or it is stuck.
abbrev pub IsFileRead : Result (List Declaration) (OrMemory SyntaxFault) → Scan → Scan → Type 0
IsFileRead (Ok ds) old new = (reading old (declarations ∷ []) (of_declarations [] ∷ []) ≡ (done (of_declarations ds ∷ []), new.end)) × (new.tokens ≡ [])
IsFileRead (Err Memory) old new = Unit {0}
IsFileRead (Err (Other fault)) old new = fault_in (reading old (declarations ∷ []) (of_declarations [] ∷ [])) ≡ Some fault

-- The tree, where the tokens go up to the end of the file; the fault of its end otherwise.
abbrev pub IsWholeTree : Program → End → Result Program (OrMemory SyntaxFault) → Type 0
IsWholeTree tree (File length) result = result ≡ Ok tree
IsWholeTree tree (Fault fault) result = result ≡ Err (Other fault)
