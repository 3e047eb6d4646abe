-- What expressions and statements do, where these variables are seen. Expressions leave variables as they are.
use Rattle.std.specs.Prelude.{ℕ, zero, suc, ◌+◌, ◌==◌, nat_lt, Bool, true, false, if◌then◌else◌, List, [], ◌∷◌, ◌++◌, length, map, take, Some, Result, Ok, Err}
use Rattle.script_tree.specs.Builtins.{takes_store}
use Rattle.script_tree.specs.Datum as v
use Rattle.script_tree.specs.Datum.{Datum}
use Rattle.script_tree.specs.Programs.{Program}
use Rattle.script_tree.specs.Requests.{Request}
use Rattle.script_tree.specs.Syntax.{Expression, number, text, truth, null, bracket, variable, call, list, transact, unary, binary, and_, or_, index, Expressions, no_expression, expression, Query, insert, select, update, delete, expect, Queries, no_query, query, Conditions, no_condition, condition, Assignments, no_assignment, assignment, Statement, let_, set_, if_, while_, for_, echo, status, return, do_, Else, no_else, else_, Statements, no_statement, statement}
use Rattle.script_tree.specs.SyntaxLists.{statements_of}
use Rattle.script_tree.specs.declared.fault.ScriptFault.{ScriptFault}
use Rattle.script_tree.specs.declared.fault.ScriptFault.TheVariants.{WrongKind, TooLarge, OutOfSteps, TooDeep}
use Rattle.script_tree.specs.declared.limits.TheConstants.{MOST_CALL_DEPTH, MOST_BODY_BYTES}
use Rattle.script_meaning.specs.Operations as o
use Rattle.script_meaning.specs.Run.{Cost, taking, taking_request, Run, ◌>>=◌, ◌>>◌, give, fails, unless_fault, charge, charge_for, issue, decide, decide_by, goes, stops, fault}
use Rattle.script_meaning.specs.Kinds.{list_in}
use Rattle.script_meaning.specs.Operators.{Answer, printed, listed, indexed, unary_answer, binary_answer}
use Rattle.script_meaning.specs.Operands as u
use Rattle.script_meaning.specs.Operands.{OpAnswer, Unchecked, values_of_all, transact_op, status_in}
use Rattle.script_meaning.specs.BuiltinCalls.{Call, plain, of_request, operation, built_in}
use Rattle.script_tree.specs.Declarations.{DeclaredFunction, NumberedTable, Callee, own, built, unknown, callee_in, table_in, column_in}
use Rattle.script_meaning.specs.Variables.{Variables, value_in, declared, assigned, bound}

-- what stays the same in a run
pub record Setting : Type 0 where
  pub program : Program
  pub request : Request

-- Statements go on with these variables, or give a function's value back, which ends a page.
pub data Flow : Type 0 where
  on : Variables → Flow
  back : Datum → Flow

-- what runs statements at a call depth, later: the next turn of a while, or a function's body
abbrev pub Later : Type 0
Later = ℕ → Statements → Variables → Run Flow

-- a node that takes these values spends its step, and then has its value or fault
abbrev pub node : List Datum → Answer → Run Datum
node ds a = charge (taking ds) >> unless_fault a

-- a variable takes its value
abbrev pub seen : Datum → Run Datum
seen d = node (d ∷ []) (Ok d)

-- the operation is issued, unless its values are at fault
abbrev pub issue_unless_fault : OpAnswer → Run Datum
issue_unless_fault op = unless_fault op >>= issue

-- ---- calls

-- the value of a call: what its body gives back, else null
abbrev pub value_of : Flow → Datum
value_of (on vs) = v.null
value_of (back d) = d

-- The body of a function of the program is one deeper than its call, which may not stand too deep.
abbrev pub entered : Later → ℕ → DeclaredFunction → List Datum → Run Datum
entered later depth f ds =
    if depth == MOST_CALL_DEPTH then fails TooDeep
    else (later (depth + 1) (statements_of f.body) (bound f.parameters ds) >>= λ flow. give (value_of flow))

-- what the step of a built-in function's call is spent on
abbrev pub call_cost : Request → List Datum → Call → Cost
call_cost q ds (plain a) = taking ds
call_cost q ds (of_request a) = taking_request q ds
call_cost q ds (operation op) = taking ds

-- what a built-in function does once its step is spent: a value, a fault, or an operation that is issued
abbrev pub call_made : Call → Run Datum
call_made (plain a) = unless_fault a
call_made (of_request a) = unless_fault a
call_made (operation op) = issue_unless_fault op

-- a call of a built-in function spends its step, and then does what it comes to
abbrev pub call_node : Request → List Datum → Call → Run Datum
call_node q ds c = charge (call_cost q ds c) >> call_made c

-- a call with the values of its arguments, at a call depth; one of an unknown name is at fault
abbrev pub called : Setting → Later → ℕ → Callee → (store : List ℕ) → List Datum → Run Datum
called w later depth (own f) store ds = charge (taking ds) >> entered later depth f ds
called w later depth (built b) store ds = call_node w.request ds (built_in w.request store b ds)
called w later depth unknown store ds = charge (taking ds) >> fails WrongKind

-- whether the first argument of a call is the bare name of a store
abbrev pub names_store : Callee → Bool
names_store (own f) = false
names_store (built b) = takes_store b
names_store unknown = false

-- the bare name of a store
abbrev pub store_name : Expressions → List ℕ
store_name (expression (variable at x) es) = x
store_name es = []

-- ---- the response

-- bytes join the body, which may not be too long
abbrev pub print : List ℕ → Run (Unit {0})
print bytes p =
    if nat_lt MOST_BODY_BYTES (length (p.body ++ bytes)) then stops (fault TooLarge) p
    else goes tt (record p { body = p.body ++ bytes })

-- a value joins the body as the text that it prints as
abbrev pub print_value : Datum → Run (Unit {0})
print_value d = unless_fault (printed d) >>= print

-- the response has this status
abbrev pub set_status : ℕ → Run (Unit {0})
set_status n p = goes tt (record p { status = n })

-- ---- expressions

abbrev mutual
  -- what an expression does at a call depth, and its value
  pub eval : Setting → Later → ℕ → Variables → Expression → Run Datum
  eval w later depth vs (number at n) = node [] (Ok (v.number n))
  eval w later depth vs (text at bytes) = node [] (Ok (v.text bytes))
  eval w later depth vs (truth at b) = node [] (Ok (v.bool b))
  eval w later depth vs (null at) = node [] (Ok v.null)
  eval w later depth vs (bracket at e) = eval w later depth vs e
  eval w later depth vs (variable at x) = seen (value_in vs x)
  eval w later depth vs (unary at op e) = do
    a ← eval w later depth vs e
    node (a ∷ []) (unary_answer op a)
  eval w later depth vs (binary at op a b) = do
    x ← eval w later depth vs a
    y ← eval w later depth vs b
    node (x ∷ y ∷ []) (binary_answer op x y)
  eval w later depth vs (and_ at a b) = do
    x ← eval w later depth vs a
    holds ← decide x
    if holds then eval w later depth vs b else give x
  eval w later depth vs (or_ at a b) = do
    x ← eval w later depth vs a
    holds ← decide x
    if holds then give x else eval w later depth vs b
  eval w later depth vs (index at a b) = do
    x ← eval w later depth vs a
    y ← eval w later depth vs b
    node (x ∷ y ∷ []) (indexed x y)
  eval w later depth vs (list at es) = do
    ds ← eval_all w later depth vs es
    node ds (listed ds)
  eval w later depth vs (call at f es) = do
    ds ← (if names_store (callee_in w.program f) then eval_others w later depth vs es else eval_all w later depth vs es)
    called w later depth (callee_in w.program f) (store_name es) ds
  eval w later depth vs (transact at qs) = do
    us ← operands_of_all w later depth vs qs
    charge (taking (values_of_all us))
    issue_unless_fault (transact_op us)

  -- the values of these, in order
  pub eval_all : Setting → Later → ℕ → Variables → Expressions → Run (List Datum)
  eval_all w later depth vs no_expression = give []
  eval_all w later depth vs (expression e es) = do
    d ← eval w later depth vs e
    ds ← eval_all w later depth vs es
    give (d ∷ ds)

  -- of all but the first
  pub eval_others : Setting → Later → ℕ → Variables → Expressions → Run (List Datum)
  eval_others w later depth vs no_expression = give []
  eval_others w later depth vs (expression e es) = eval_all w later depth vs es

  -- a statement of a transaction with the values of its operands
  pub operands_of : Setting → Later → ℕ → Variables → Query → Run Unchecked
  operands_of w later depth vs (insert at t es) = do
    ds ← eval_all w later depth vs es
    give (u.insert (table_in w.program t).number ds)
  operands_of w later depth vs (select at columns t cs) = do
    tests ← tests_of w later depth vs (table_in w.program t) cs
    give (u.select (table_in w.program t).number (map (column_in (table_in w.program t)) columns) tests)
  operands_of w later depth vs (update at t as' cs) = do
    changes ← changes_of w later depth vs (table_in w.program t) as'
    tests ← tests_of w later depth vs (table_in w.program t) cs
    give (u.update (table_in w.program t).number changes tests)
  operands_of w later depth vs (delete at t cs) = do
    tests ← tests_of w later depth vs (table_in w.program t) cs
    give (u.delete (table_in w.program t).number tests)
  operands_of w later depth vs (expect at e t cs) = do
    n ← eval w later depth vs e
    tests ← tests_of w later depth vs (table_in w.program t) cs
    give (u.expect n (table_in w.program t).number tests)

  -- the statements of a transaction with the values of their operands, in order
  pub operands_of_all : Setting → Later → ℕ → Variables → Queries → Run (List Unchecked)
  operands_of_all w later depth vs no_query = give []
  operands_of_all w later depth vs (query q qs) = do
    d ← operands_of w later depth vs q
    ds ← operands_of_all w later depth vs qs
    give (d ∷ ds)

  -- the tests of a where, with the values that they compare with
  pub tests_of : Setting → Later → ℕ → Variables → NumberedTable → Conditions → Run (List o.Test)
  tests_of w later depth vs t no_condition = give []
  tests_of w later depth vs t (condition x comparison e cs) = do
    d ← eval w later depth vs e
    tests ← tests_of w later depth vs t cs
    give (record { column = column_in t x; comparison = comparison; value = d } ∷ tests)

  -- the assignments of an update, with their values
  pub changes_of : Setting → Later → ℕ → Variables → NumberedTable → Assignments → Run (List o.Change)
  changes_of w later depth vs t no_assignment = give []
  changes_of w later depth vs t (assignment x e as') = do
    d ← eval w later depth vs e
    changes ← changes_of w later depth vs t as'
    give (record { column = column_in t x; value = d } ∷ changes)

-- ---- statements

-- what comes next, unless a value is given back
abbrev pub then_on : Flow → (Variables → Run Flow) → Run Flow
then_on (on vs) next = next vs
then_on (back d) next = give (back d)

-- what a block declared ends with it
abbrev pub left_as : Variables → Flow → Flow
left_as vs (on us) = on (take (length vs) us)
left_as vs (back d) = back d

-- a block within these variables: what it declared ends with it
abbrev pub scoped : Variables → Run Flow → Run Flow
scoped vs block = block >>= λ flow. give (left_as vs flow)

-- a turn of a for with each value in its variable; each decision is spent on the whole list
abbrev pub turns : (whole : Datum) → List ℕ → (Variables → Run Flow) → Variables → List Datum → Run Flow
turns whole x body vs [] = decide_by whole (v.bool false) >> give (on vs)
turns whole x body vs (d ∷ ds) = do
  _ ← decide_by whole (v.bool true)
  flow ← scoped vs (body (declared vs x d))
  then_on flow (λ us. turns whole x body us ds)

-- a for over a list; over another value, its step and then its fault
abbrev pub turns_of : (whole : Datum) → List ℕ → (Variables → Run Flow) → Variables → Result (List Datum) ScriptFault → Run Flow
turns_of whole x body vs (Ok ds) = turns whole x body vs ds
turns_of whole x body vs (Err f) = charge_for whole >> fails f

abbrev mutual
  -- what a statement does at a call depth, and how it goes on
  pub exec : Setting → Later → ℕ → Statement → Variables → Run Flow
  exec w later depth (let_ at x e) vs = do
    d ← eval w later depth vs e
    charge_for d
    give (on (declared vs x.text d))
  exec w later depth (set_ at x e) vs = do
    d ← eval w later depth vs e
    charge_for d
    give (on (assigned vs x.text d))
  exec w later depth (if_ at e body other) vs = do
    d ← eval w later depth vs e
    holds ← decide d
    scoped vs (if holds then block w later depth body vs else otherwise w later depth other vs)
  exec w later depth (while_ at e body) vs = do
    d ← eval w later depth vs e
    holds ← decide d
    if holds
        then (scoped vs (block w later depth body vs) >>= λ flow. then_on flow (later depth (statement (while_ at e body) no_statement)))
        else give (on vs)
  exec w later depth (for_ at x e body) vs = do
    d ← eval w later depth vs e
    turns_of d x.text (block w later depth body) vs (list_in d)
  exec w later depth (echo at e) vs = do
    d ← eval w later depth vs e
    charge_for d
    print_value d
    give (on vs)
  exec w later depth (status at e) vs = do
    d ← eval w later depth vs e
    charge_for d
    n ← unless_fault (status_in d)
    set_status n
    give (on vs)
  exec w later depth (return at e) vs = do
    d ← eval w later depth vs e
    charge_for d
    give (back d)
  exec w later depth (do_ at e) vs = do
    d ← eval w later depth vs e
    charge_for d
    give (on vs)

  -- what the else of an if does, where it has one
  pub otherwise : Setting → Later → ℕ → Else → Variables → Run Flow
  otherwise w later depth no_else vs = give (on vs)
  otherwise w later depth (else_ ss) vs = block w later depth ss vs

  -- what statements do in order, up to one that gives a value back
  pub block : Setting → Later → ℕ → Statements → Variables → Run Flow
  block w later depth no_statement vs = give (on vs)
  block w later depth (statement s ss) vs = exec w later depth s vs >>= λ flow. then_on flow (block w later depth ss)

-- Statements in which fewer than n turns of a while and calls lie within one another. Each of them spends a step, so that
-- one more than the steps that there are never run out.
abbrev pub run : Setting → ℕ → Later
run w zero depth ss vs = fails OutOfSteps
run w (suc n) depth ss vs = block w (run w n) depth ss vs
