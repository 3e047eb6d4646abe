-- What holds of every run of a page that is made of parts of which it holds.
use Rattle.std.proofs.Common.{ℕ, zero, suc, ◌+◌, Bool, true, false, cond, List, [], ◌∷◌, Result, Ok, Err}
use Rattle.std.specs.Prelude.{◌==◌}
use Rattle.script_tree.specs.Datum as v
use Rattle.script_tree.specs.Datum.{Datum}
use Rattle.script_tree.specs.Declarations.{NumberedTable, DeclaredFunction, Callee, own, built, unknown, callee_in, table_in}
use Rattle.script_tree.specs.Syntax.{Expression, number, text, truth, null, bracket, variable, call, list, transact, unary, binary, and_, or_, index, Expressions, no_expression, expression, Query, insert, select, update, delete, expect, Queries, no_query, query, Conditions, no_condition, condition, Assignments, no_assignment, assignment, Statement, let_, set_, if_, while_, for_, echo, status, return, do_, Else, no_else, else_, Statements, no_statement, statement}
use Rattle.script_tree.specs.Requests.{Request}
use Rattle.script_tree.specs.SyntaxLists.{statements_of}
use Rattle.script_tree.specs.declared.limits.TheConstants.{MOST_CALL_DEPTH}
use Rattle.script_tree.specs.declared.fault.ScriptFault.{ScriptFault}
use Rattle.script_tree.specs.declared.fault.ScriptFault.TheVariants.{OutOfSteps, TooDeep}
use Rattle.script_tree.specs.declared.operation.Op.{Op}
use Rattle.script_meaning.specs.BuiltinCalls.{Call, plain, of_request, operation, built_in}
use Rattle.script_meaning.specs.Evaluate.{Setting, Flow, on, back, Later, value_of, entered, call_node, called, names_store, store_name, print, print_value, set_status, eval, eval_all, eval_others, operands_of, operands_of_all, tests_of, changes_of, then_on, left_as, scoped, turns, turns_of, exec, otherwise, block, run, node, issue_unless_fault}
use Rattle.script_meaning.specs.Kinds.{bool_in, list_in}
use Rattle.script_meaning.specs.Operands.{OpAnswer, values_of_all, transact_op, status_in}
use Rattle.script_meaning.specs.Operators.{Answer, printed}
use Rattle.script_meaning.specs.Run.{taking, taking_request, note, Run, ◌>>=◌, ◌>>◌, give, fails, unless_fault, charge, charge_for, issue, decide, decide_by}
use Rattle.script_meaning.specs.declared.run.Mark.{Mark}
use Rattle.script_meaning.specs.declared.run.Mark.TheVariants.{Decided}
use Rattle.script_meaning.specs.Variables.{Variables, value_in, declared, bound}

module _ (Of : (A : Type 0) → Run A → Type 0)
    (of_bind : (A B : Type 0) (m : Run A) (f : A → Run B) → Of A m → ((a : A) → Of B (f a)) → Of B (m >>= f))
    (of_give : (A : Type 0) (a : A) → Of A (give a))
    (of_fails : (A : Type 0) (f : ScriptFault) → Of A (fails f))
    (charged : (ds : List Datum) → Of (Unit {0}) (charge (taking ds)))
    (charged_for_request : (q : Request) (ds : List Datum) → Of (Unit {0}) (charge (taking_request q ds)))
    (charged_for_operation : (ds : List Datum) (op : Op) → Of Datum (charge (taking ds) >> issue op))
    (noted : (m : Mark) → Of (Unit {0}) (note m))
    (prints : (bytes : List ℕ) → Of (Unit {0}) (print bytes))
    (sets_status : (n : ℕ) → Of (Unit {0}) (set_status n)) where
  abbrev Holds : {A : Type 0} → Run A → Type 0
  Holds {A} m = Of A m

  bind : {A B : Type 0} (m : Run A) (f : A → Run B) → Holds m → ((a : A) → Holds (f a)) → Holds (m >>= f)
  bind {A} {B} m f g h = of_bind A B m f g h

  gives : {A : Type 0} (a : A) → Holds (give a)
  gives {A} a = of_give A a

  failing : {A : Type 0} (f : ScriptFault) → Holds {A = A} (fails f)
  failing {A} f = of_fails A f

  then : {A B : Type 0} (m : Run A) (n : Run B) → Holds m → Holds n → Holds (m >> n)
  then m n g h = bind m (λ _. n) g (λ _. h)

  unless : {A : Type 0} (r : Result A ScriptFault) → Holds (unless_fault r)
  unless (Ok a) = gives a
  unless (Err f) = failing f

  either : {A : Type 0} (b : Bool) (m n : Run A) → Holds m → Holds n → Holds (cond b m n)
  either true m n g h = g
  either false m n g h = h

  issued_well : (ds : List Datum) (op : OpAnswer) → Holds (charge (taking ds) >> issue_unless_fault op)
  issued_well ds (Err f) = then (charge (taking ds)) (fails f) (charged ds) (failing f)
  issued_well ds (Ok op) = charged_for_operation ds op

  decided : (whole x : Datum) → Holds (decide_by whole x)
  decided whole x =
      bind (charge_for whole) _ (charged (whole ∷ []))
      (λ _. bind (unless_fault (bool_in x)) _ (unless (bool_in x))
      (λ b. bind (note (Decided b)) (λ _. give b) (noted (Decided b)) (λ _. gives b)))

  noded : (ds : List Datum) (a : Answer) → Holds (node ds a)
  noded ds a = then (charge (taking ds)) (unless_fault a) (charged ds) (unless a)

  -- ---- calls

  abbrev AllHold : Later → Type 0
  AllHold later = (depth : ℕ) (ss : Statements) (vs : Variables) → Holds (later depth ss vs)

  call_node_holds : (q : Request) (ds : List Datum) (c : Call) → Holds (call_node q ds c)
  call_node_holds q ds (plain a) = then (charge (taking ds)) (unless_fault a) (charged ds) (unless a)
  call_node_holds q ds (of_request a) = then (charge (taking_request q ds)) (unless_fault a) (charged_for_request q ds) (unless a)
  call_node_holds q ds (operation op) = issued_well ds op

  module _ (w : Setting) (later : Later) (so : AllHold later) where
    entered_holds : (depth : ℕ) (g : DeclaredFunction) (ds : List Datum) → Holds (entered later depth g ds)
    entered_holds depth g ds = either (depth == MOST_CALL_DEPTH) (fails TooDeep)
        (later (depth + 1) (statements_of g.body) (bound g.parameters ds) >>= λ flow. give (value_of flow))
        (failing TooDeep) (bind (later (depth + 1) (statements_of g.body) (bound g.parameters ds))
        (λ flow. give (value_of flow)) (so (depth + 1) (statements_of g.body) (bound g.parameters ds))
        (λ flow. gives (value_of flow)))

    called_holds : (depth : ℕ) (c : Callee) (store : List ℕ) (ds : List Datum) → Holds (called w later depth c store ds)
    called_holds depth (own g) store ds = then (charge (taking ds)) (entered later depth g ds) (charged ds) (entered_holds depth g ds)
    called_holds depth (built b) store ds = call_node_holds w.request ds (built_in w.request store b ds)
    called_holds depth unknown store ds = then (charge (taking ds)) (fails _) (charged ds) (failing _)

    module _ (depth : ℕ) (vs : Variables) where
      mutual
        eval_holds : (e : Expression) → Holds (eval w later depth vs e)
        eval_holds (number at n) = noded [] (Ok (v.number n))
        eval_holds (text at bytes) = noded [] (Ok (v.text bytes))
        eval_holds (truth at b) = noded [] (Ok (v.bool b))
        eval_holds (null at) = noded [] (Ok v.null)
        eval_holds (bracket at e) = eval_holds e
        eval_holds (variable at x) = noded (value_in vs x ∷ []) (Ok (value_in vs x))
        eval_holds (unary at op e) = bind (eval w later depth vs e) _ (eval_holds e) (λ a. noded _ _)
        eval_holds (binary at op a b) = bind (eval w later depth vs a) _ (eval_holds a) (λ x. bind (eval w later depth vs b) _ (eval_holds b) (λ y. noded _ _))
        eval_holds (and_ at a b) =
            bind (eval w later depth vs a) _ (eval_holds a) (λ x. bind (decide x) _ (decided x x) (λ holds. either holds (eval w later depth vs b) (give x) (eval_holds b) (gives x)))
        eval_holds (or_ at a b) =
            bind (eval w later depth vs a) _ (eval_holds a) (λ x. bind (decide x) _ (decided x x) (λ holds. either holds (give x) (eval w later depth vs b) (gives x) (eval_holds b)))
        eval_holds (index at a b) = bind (eval w later depth vs a) _ (eval_holds a) (λ x. bind (eval w later depth vs b) _ (eval_holds b) (λ y. noded _ _))
        eval_holds (list at es) = bind (eval_all w later depth vs es) _ (all_holds es) (λ ds. noded _ _)
        eval_holds (call at f es) =
            bind _ _ (arguments_holds (names_store (callee_in w.program f)) es) (λ ds. called_holds depth (callee_in w.program f) (store_name es) ds)
        eval_holds (transact at qs) =
            bind (operands_of_all w later depth vs qs) _ (queries_holds qs) (λ us. issued_well (values_of_all us) (transact_op us))

        all_holds : (es : Expressions) → Holds (eval_all w later depth vs es)
        all_holds no_expression = gives []
        all_holds (expression e es) = bind (eval w later depth vs e) _ (eval_holds e)
            (λ x. bind (eval_all w later depth vs es) _ (all_holds es) (λ ds. gives (x ∷ ds)))

        arguments_holds : (b : Bool) (es : Expressions) → Holds (cond b (eval_others w later depth vs es) (eval_all w later depth vs es))
        arguments_holds true no_expression = gives []
        arguments_holds true (expression e es) = all_holds es
        arguments_holds false no_expression = gives []
        arguments_holds false (expression e es) =
            bind (eval w later depth vs e) _ (eval_holds e)
            (λ x. bind (eval_all w later depth vs es) _ (all_holds es) (λ ds. gives (x ∷ ds)))

        query_holds : (q : Query) → Holds (operands_of w later depth vs q)
        query_holds (insert at t es) = bind (eval_all w later depth vs es) _ (all_holds es) (λ ds. gives _)
        query_holds (select at xs t cs) = bind (tests_of w later depth vs (table_in w.program t) cs) _
            (tests_holds (table_in w.program t) cs) (λ tests. gives _)
        query_holds (update at t sets cs) =
            bind (changes_of w later depth vs (table_in w.program t) sets) _ (changes_holds (table_in w.program t) sets) (λ changes.
            bind (tests_of w later depth vs (table_in w.program t) cs) _ (tests_holds (table_in w.program t) cs) (λ tests. gives _))
        query_holds (delete at t cs) = bind (tests_of w later depth vs (table_in w.program t) cs) _ (tests_holds (table_in w.program t) cs) (λ tests. gives _)
        query_holds (expect at e t cs) =
            bind (eval w later depth vs e) _ (eval_holds e)
            (λ n. bind (tests_of w later depth vs (table_in w.program t) cs) _
            (tests_holds (table_in w.program t) cs) (λ tests. gives _))

        queries_holds : (qs : Queries) → Holds (operands_of_all w later depth vs qs)
        queries_holds no_query = gives []
        queries_holds (query q qs) = bind (operands_of w later depth vs q) _ (query_holds q)
            (λ x. bind (operands_of_all w later depth vs qs) _ (queries_holds qs) (λ ds. gives (x ∷ ds)))

        tests_holds : (t : NumberedTable) (cs : Conditions) → Holds (tests_of w later depth vs t cs)
        tests_holds t no_condition = gives []
        tests_holds t (condition x c e cs) = bind (eval w later depth vs e) _ (eval_holds e)
            (λ y. bind (tests_of w later depth vs t cs) _ (tests_holds t cs) (λ tests. gives _))

        changes_holds : (t : NumberedTable) (sets : Assignments) → Holds (changes_of w later depth vs t sets)
        changes_holds t no_assignment = gives []
        changes_holds t (assignment x e sets) = bind (eval w later depth vs e) _ (eval_holds e)
            (λ y. bind (changes_of w later depth vs t sets) _ (changes_holds t sets) (λ changes. gives _))

    -- ---- statements

    then_on_holds : (flow : Flow) (next : Variables → Run Flow) → ((us : Variables) → Holds (next us)) → Holds (then_on flow next)
    then_on_holds (on us) next h = h us
    then_on_holds (back x) next h = gives (back x)

    scoped_holds : (vs : Variables) (m : Run Flow) → Holds m → Holds (scoped vs m)
    scoped_holds vs m h = bind m (λ flow. give (left_as vs flow)) h (λ flow. gives (left_as vs flow))

    turns_holds : (whole : Datum) (x : List ℕ) (body : Variables → Run Flow) → ((us : Variables) → Holds (body us))
        → (vs : Variables) (ds : List Datum) → Holds (turns whole x body vs ds)
    turns_holds whole x body h vs [] = bind (decide_by whole (v.bool false)) (λ _. give (on vs)) (decided whole (v.bool false)) (λ _. gives (on vs))
    turns_holds whole x body h vs (y ∷ ds) =
        bind (decide_by whole (v.bool true)) _ (decided whole (v.bool true)) (λ _.
        bind (scoped vs (body (declared vs x y))) (λ flow. then_on flow (λ us. turns whole x body us ds))
        (scoped_holds vs (body (declared vs x y)) (h (declared vs x y))) (λ flow.
        then_on_holds flow (λ us. turns whole x body us ds) (λ us. turns_holds whole x body h us ds)))

    turns_of_holds : (whole : Datum) (x : List ℕ) (body : Variables → Run Flow) → ((us : Variables) → Holds (body us))
        → (vs : Variables) (r : Result (List Datum) ScriptFault) → Holds (turns_of whole x body vs r)
    turns_of_holds whole x body h vs (Ok ds) = turns_holds whole x body h vs ds
    turns_of_holds whole x body h vs (Err f) = then (charge_for whole) (fails f) (charged (whole ∷ [])) (failing f)

    printed_holds : (x : Datum) → Holds (print_value x)
    printed_holds x = bind (unless_fault (printed x)) print (unless (printed x)) prints

    module _ (depth : ℕ) where
      spent : (vs : Variables) (e : Expression) (f : Datum → Run Flow) → ((x : Datum) → Holds (f x))
          → Holds (eval w later depth vs e >>= λ x. charge_for x >>= λ _. f x)
      spent vs e f h = bind (eval w later depth vs e) _ (eval_holds depth vs e) (λ x. bind (charge_for x) (λ _. f x) (charged (x ∷ [])) (λ _. h x))

      mutual
        exec_holds : (s : Statement) (vs : Variables) → Holds (exec w later depth s vs)
        exec_holds (let_ at x e) vs = spent vs e _ (λ y. gives _)
        exec_holds (set_ at x e) vs = spent vs e _ (λ y. gives _)
        exec_holds (if_ at e body other) vs =
            bind (eval w later depth vs e) _ (eval_holds depth vs e) (λ x. bind (decide x) _ (decided x x) (λ holds.
            scoped_holds vs _ (either holds (block w later depth body vs) (otherwise w later depth other vs) (block_holds body vs) (otherwise_holds other vs))))
        exec_holds (while_ at e body) vs =
            bind (eval w later depth vs e) _ (eval_holds depth vs e) (λ x. bind (decide x) _ (decided x x) (λ holds.
            either holds (scoped vs (block w later depth body vs)
            >>= λ flow. then_on flow (later depth (statement (while_ at e body) no_statement))) (give (on vs))
            (bind (scoped vs (block w later depth body vs)) (λ flow. then_on flow (later depth (statement (while_ at e body) no_statement)))
            (scoped_holds vs (block w later depth body vs) (block_holds body vs)) (λ flow.
            then_on_holds flow (later depth (statement (while_ at e body) no_statement)) (λ us. so depth (statement (while_ at e body) no_statement) us)))
            (gives (on vs))))
        exec_holds (for_ at x e body) vs =
            bind (eval w later depth vs e) _ (eval_holds depth vs e)
            (λ y. turns_of_holds y x.text (block w later depth body) (λ us. block_holds body us) vs (list_in y))
        exec_holds (echo at e) vs = spent vs e _ (λ y. bind (print_value y) (λ _. give (on vs)) (printed_holds y) (λ _. gives (on vs)))
        exec_holds (status at e) vs =
            spent vs e _ (λ y. bind (unless_fault (status_in y)) (λ n. set_status n >>= λ _. give (on vs))
            (unless (status_in y)) (λ n. bind (set_status n) (λ _. give (on vs)) (sets_status n)
            (λ _. gives (on vs))))
        exec_holds (return at e) vs = spent vs e _ (λ y. gives (back y))
        exec_holds (do_ at e) vs = spent vs e _ (λ y. gives (on vs))

        otherwise_holds : (other : Else) (vs : Variables) → Holds (otherwise w later depth other vs)
        otherwise_holds no_else vs = gives (on vs)
        otherwise_holds (else_ ss) vs = block_holds ss vs

        block_holds : (ss : Statements) (vs : Variables) → Holds (block w later depth ss vs)
        block_holds no_statement vs = gives (on vs)
        block_holds (statement x ss) vs =
            bind (exec w later depth x vs) (λ flow. then_on flow (block w later depth ss)) (exec_holds x vs)
            (λ flow. then_on_holds flow (block w later depth ss) (λ us. block_holds ss us))

  pub run_holds : (w : Setting) (n : ℕ) → AllHold (run w n)
  run_holds w zero depth ss vs = failing OutOfSteps
  run_holds w (suc n) depth ss vs = block_holds w (run w n) (run_holds w n) depth ss vs
