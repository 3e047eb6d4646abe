-- A tree whose parts name what a program declares, and are within the limits.
use Rattle.std.proofs.Common.{◌≡◌, ◌≢◌, ℕ, ◌≤◌, Bool, true, false, List, [], ◌∷◌, length, Some}
use Rattle.script_tree.specs.Declarations.{NumberedTable, DeclaredFunction, Callee, own, built, unknown, table_from, function_from, callee_in}
use Rattle.script_tree.specs.Fit.{declares_store}
use Rattle.script_tree.specs.Programs.{Program}
use Rattle.script_tree.specs.Syntax.{Expression, number, text, truth, null, bracket, variable, call, list, transact, unary, binary, and_, or_, index, Expressions, no_expression, expression, Query, insert, select, update, delete, expect, Queries, no_query, query, Conditions, no_condition, condition, Assignments, no_assignment, assignment, Statement, let_, set_, if_, while_, for_, echo, status, return, do_, Else, no_else, else_, Statements, no_statement, statement}
use Rattle.script_tree.specs.SyntaxLists.{statements_of}
use Rattle.script_tree.specs.declared.limits.TheConstants.{MOST_LITERAL_BYTES}
use Rattle.script_tree.specs.declared.syntax.name.Name.{Name}
use Rattle.script_check.specs.Validity.{has, texts, is_key, how_many}
use Rattle.script_meaning.specs.Evaluate.{names_store}

-- each column is one of these
abbrev pub AreColumns : List Name → List Name → Type 0
AreColumns columns [] = Unit {0}
AreColumns columns (x ∷ xs) = (has (texts columns) x.text ≡ true) × AreColumns columns xs

-- what is called is there, and a function of the program has so many parameters
abbrev pub TakesSoMany : Callee → ℕ → Type 0
TakesSoMany (own f) count = count ≡ length f.parameters
TakesSoMany (built b) count = Unit {0}
TakesSoMany unknown count = ⊥

module _ (program : Program) where
  -- the table is declared, and this holds of its columns
  abbrev pub IsKnown : Name → (List Name → Type 0) → Type 0
  IsKnown t Holds = (table : NumberedTable) × (table_from 0 t.text program.declarations ≡ Some table) × Holds table.columns

  abbrev pub IsStoreName : Expression → Type 0
  IsStoreName (variable at x) = declares_store program.declarations x ≡ true
  IsStoreName e = ⊥

  abbrev mutual
    pub IsSound : Expression → Type 0
    IsSound (number at n) = Unit {0}
    IsSound (text at bytes) = length bytes ≤ MOST_LITERAL_BYTES
    IsSound (truth at b) = Unit {0}
    IsSound (null at) = Unit {0}
    IsSound (bracket at e) = IsSound e
    IsSound (variable at x) = Unit {0}
    IsSound (call at f es) = TakesSoMany (callee_in program f) (how_many es) × AreArguments (names_store (callee_in program f)) es
    IsSound (list at es) = AreSound es
    IsSound (transact at qs) = (qs ≢ no_query) × AreSoundQueries qs
    IsSound (unary at operator e) = IsSound e
    IsSound (binary at operator left right) = IsSound left × IsSound right
    IsSound (and_ at left right) = IsSound left × IsSound right
    IsSound (or_ at left right) = IsSound left × IsSound right
    IsSound (index at whole place) = IsSound whole × IsSound place

    pub AreSound : Expressions → Type 0
    AreSound no_expression = Unit {0}
    AreSound (expression e es) = IsSound e × AreSound es

    pub AreArguments : Bool → Expressions → Type 0
    AreArguments true no_expression = ⊥
    AreArguments false no_expression = Unit {0}
    AreArguments true (expression e es) = IsStoreName e × AreSound es
    AreArguments false (expression e es) = IsSound e × AreSound es

    pub IsSoundQuery : Query → Type 0
    IsSoundQuery (insert at t es) = IsKnown t (λ columns. how_many es ≡ length columns) × AreSound es
    IsSoundQuery (select at xs t cs) = (xs ≢ []) × IsKnown t (λ columns. AreColumns columns xs × AreSoundTests columns cs)
    IsSoundQuery (update at t sets cs) = (sets ≢ no_assignment) × IsKnown t (λ columns. AreSoundSets columns sets × AreSoundTests columns cs)
    IsSoundQuery (delete at t cs) = IsKnown t (λ columns. AreSoundTests columns cs)
    IsSoundQuery (expect at e t cs) = IsSound e × IsKnown t (λ columns. AreSoundTests columns cs)

    pub AreSoundQueries : Queries → Type 0
    AreSoundQueries no_query = Unit {0}
    AreSoundQueries (query q qs) = IsSoundQuery q × AreSoundQueries qs

    pub AreSoundTests : List Name → Conditions → Type 0
    AreSoundTests columns no_condition = Unit {0}
    AreSoundTests columns (condition x c e cs) = (has (texts columns) x.text ≡ true) × IsSound e × AreSoundTests columns cs

    pub AreSoundSets : List Name → Assignments → Type 0
    AreSoundSets columns no_assignment = Unit {0}
    AreSoundSets columns (assignment x e sets) = (has (texts columns) x.text ≡ true) × (is_key columns x.text ≡ false) × IsSound e × AreSoundSets columns sets

  abbrev mutual
    pub IsSoundStatement : Statement → Type 0
    IsSoundStatement (let_ at x e) = IsSound e
    IsSoundStatement (set_ at x e) = IsSound e
    IsSoundStatement (if_ at e body other) = IsSound e × AreSoundStatements body × IsSoundElse other
    IsSoundStatement (while_ at e body) = IsSound e × AreSoundStatements body
    IsSoundStatement (for_ at x e body) = IsSound e × AreSoundStatements body
    IsSoundStatement (echo at e) = IsSound e
    IsSoundStatement (status at e) = IsSound e
    IsSoundStatement (return at e) = IsSound e
    IsSoundStatement (do_ at e) = IsSound e

    pub IsSoundElse : Else → Type 0
    IsSoundElse no_else = Unit {0}
    IsSoundElse (else_ body) = AreSoundStatements body

    pub AreSoundStatements : Statements → Type 0
    AreSoundStatements no_statement = Unit {0}
    AreSoundStatements (statement s ss) = IsSoundStatement s × AreSoundStatements ss

  -- the bodies of the program's functions are sound
  abbrev pub AreSoundBodies : Type 0
  AreSoundBodies = (f : List ℕ) (g : DeclaredFunction) → function_from f program.declarations ≡ Some g → AreSoundStatements (statements_of g.body)
