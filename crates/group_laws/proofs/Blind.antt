-- A run that keeps its costs is the same run but for them.
use Rattle.std.proofs.Common.{◌≡◌, ℕ, zero, suc, ◌+◌, Bool, true, false, cond, List, [], ◌∷◌, ◌++◌, length, Option, Result, Ok, Err, refl, sym, subst, ap}
use Rattle.std.specs.Prelude.{◌==◌, nat_lt}
use Rattle.script_tree.specs.Datum as v
use Rattle.script_tree.specs.Datum.{Datum, is_within_limits}
use Rattle.script_tree.specs.Declarations.{NumberedTable, DeclaredFunction, Callee, own, built, unknown, callee_in, table_in}
use Rattle.script_tree.specs.Syntax.{Expression, number, text, truth, null, bracket, variable, call, list, transact, unary, binary, and_, or_, index, Expressions, no_expression, expression, Query, insert, select, update, delete, expect, Queries, no_query, query, Conditions, no_condition, condition, Assignments, no_assignment, assignment, Statement, let_, set_, if_, while_, for_, echo, status, return, do_, Else, no_else, else_, Statements, no_statement, statement}
use Rattle.script_tree.specs.SyntaxLists.{statements_of}
use Rattle.script_tree.specs.declared.limits.TheConstants.{MOST_STEPS, MOST_OPERATIONS, MOST_BODY_BYTES, MOST_CALL_DEPTH}
use Rattle.script_tree.specs.declared.fault.ScriptFault.{ScriptFault}
use Rattle.script_tree.specs.declared.fault.ScriptFault.TheVariants.{OutOfSteps, TooManyOperations, TooLarge, TooDeep}
use Rattle.script_tree.specs.declared.operation.Op.{Op}
use Rattle.script_meaning.specs.BuiltinCalls.{Call, plain, of_request, operation, built_in}
use Rattle.script_meaning.specs.Conduct.{ended, start}
use Rattle.script_meaning.specs.Evaluate.{Setting, Flow, on, back, Later, value_of, entered, call_cost, call_made, called, names_store, store_name, print, print_value, set_status, eval, eval_all, eval_others, operands_of, operands_of_all, tests_of, changes_of, then_on, left_as, scoped, turns, turns_of, exec, otherwise, block, run, node, issue_unless_fault}
use Rattle.script_meaning.specs.Kinds.{bool_in, list_in}
use Rattle.script_meaning.specs.Operands.{OpAnswer, values_of_all, transact_op, status_in}
use Rattle.script_meaning.specs.Operators.{Answer, printed}
use Rattle.script_meaning.specs.Run.{Cost, taking, Run, Progress, Ran, goes, stops, ◌>>=◌, ◌>>◌, after, give, fails, unless_fault, charge, charge_for, answered, count_operation, decide, decide_by, and_cost, last_issuing}
use Rattle.script_meaning.specs.declared.run.Mark.TheVariants.{Issued as issued}
use Rattle.script_meaning.specs.declared.run.Stop.TheVariants.{Wants as wants, Fault as fault, AnswerFault as answer_fault}
use Rattle.script_meaning.specs.Variables.{Variables, value_in, declared, bound}
use Rattle.script_meaning.specs.Costs.{keeping, page_run}
use Rattle.group_laws.specs.Keeping.{KeepingChangesNothing}

-- the same, but for the costs
abbrev IsAlike : {A : Type 0} → Ran A → Ran A → Type 0
IsAlike (goes a p) o = (kept : Option (List Cost)) × (o ≡ goes a (keeping kept p))
IsAlike (stops e p) o = (kept : Option (List Cost)) × (o ≡ stops e (keeping kept p))

abbrev pub IsBlind : {A : Type 0} → Run A → Type 0
IsBlind m = (p : Progress) (kept : Option (List Cost)) → IsAlike (m p) (m (keeping kept p))

bind : {A B : Type 0} (m : Run A) (f : A → Run B) → IsBlind m → ((a : A) → IsBlind (f a)) → IsBlind (m >>= f)
bind {A} {B} m f g h p kept = by (m p) (m (keeping kept p)) (g p kept)
  where
    by : (r s : Ran A) → IsAlike r s → IsAlike (after r f) (after s f)
    by (goes a q) s e = subst (λ x. IsAlike (f a q) (after x f)) (sym e.1) (h a q e.0)
    by (stops x q) s e = (e.0, ap (λ y. after y f) e.1)

then : {A B : Type 0} (m : Run A) (n : Run B) → IsBlind m → IsBlind n → IsBlind (m >> n)
then m n g h = bind m (λ _. n) g (λ _. h)

gives : {A : Type 0} (a : A) → IsBlind (give a)
gives a p kept = (kept, refl)

failing : {A : Type 0} (f : ScriptFault) → IsBlind {A = A} (fails f)
failing f p kept = (kept, refl)

unless : {A : Type 0} (r : Result A ScriptFault) → IsBlind (unless_fault r)
unless (Ok a) = gives a
unless (Err f) = failing f

either : {A : Type 0} (b : Bool) (m n : Run A) → IsBlind m → IsBlind n → IsBlind (cond b m n)
either true m n g h = g
either false m n g h = h

abbrev charge_ran : Cost → Progress → Bool → Ran (Unit {0})
charge_ran c p b = cond b (stops (fault OutOfSteps) p) (goes tt (record p { steps = p.steps + 1; costs = and_cost c p.costs }))

charge_alike : (c : Cost) (p : Progress) (kept : Option (List Cost)) (b : Bool) → IsAlike (charge_ran c p b) (charge_ran c (keeping kept p) b)
charge_alike c p kept true = (kept, refl)
charge_alike c p kept false = (and_cost c kept, refl)

charged : (c : Cost) → IsBlind (charge c)
charged c p kept = charge_alike c p kept (p.steps == MOST_STEPS)

abbrev count_ran : Progress → Bool → Ran (Unit {0})
count_ran p b = cond b (stops (fault TooManyOperations) p) (goes tt (record p { operations = p.operations + 1; costs = last_issuing p.costs }))

count_alike : (p : Progress) (kept : Option (List Cost)) (b : Bool) → IsAlike (count_ran p b) (count_ran (keeping kept p) b)
count_alike p kept true = (kept, refl)
count_alike p kept false = (last_issuing kept, refl)

counted : IsBlind count_operation
counted p kept = count_alike p kept (p.operations == MOST_OPERATIONS)

abbrev taken : Op → Progress → Datum → List Datum → Bool → Ran Datum
taken op p x xs b = let q : Progress = record p { answers = xs; trail = p.trail ++ issued op ∷ [] } in cond b (goes x q) (stops answer_fault q)

taken_alike : (op : Op) (p : Progress) (x : Datum) (xs : List Datum) (kept : Option (List Cost)) (b : Bool)
    → IsAlike (taken op p x xs b) (taken op (keeping kept p) x xs b)
taken_alike op p x xs kept true = (kept, refl)
taken_alike op p x xs kept false = (kept, refl)

answer_alike : (op : Op) (xs : List Datum) (p : Progress) (kept : Option (List Cost)) → IsAlike (answered op xs p) (answered op xs (keeping kept p))
answer_alike op [] p kept = (kept, refl)
answer_alike op (x ∷ xs) p kept = taken_alike op p x xs kept (is_within_limits x)

takes_answer : (op : Op) → IsBlind (λ p. answered op p.answers p)
takes_answer op p kept = answer_alike op p.answers p kept

issued_well : (op : OpAnswer) → IsBlind (issue_unless_fault op)
issued_well (Err f) = failing f
issued_well (Ok op) = bind count_operation (λ _. λ p. answered op p.answers p) counted (λ _. takes_answer op)

decided : (whole x : Datum) → IsBlind (decide_by whole x)
decided whole x = bind (charge_for whole) _ (charged (taking (whole ∷ [])))
    (λ _. bind (unless_fault (bool_in x)) _ (unless (bool_in x)) (λ b p kept. (kept, refl)))

noded : (ds : List Datum) (a : Answer) → IsBlind (node ds a)
noded ds a = then (charge (taking ds)) (unless_fault a) (charged (taking ds)) (unless a)

-- ---- calls

abbrev AreBlind : Later → Type 0
AreBlind later = (depth : ℕ) (ss : Statements) (vs : Variables) → IsBlind (later depth ss vs)

call_made_blind : (c : Call) → IsBlind (call_made c)
call_made_blind (plain a) = unless a
call_made_blind (of_request a) = unless a
call_made_blind (operation op) = issued_well op

module _ (w : Setting) (later : Later) (blind : AreBlind later) where
  entered_blind : (depth : ℕ) (g : DeclaredFunction) (ds : List Datum) → IsBlind (entered later depth g ds)
  entered_blind depth g ds = either (depth == MOST_CALL_DEPTH) (fails TooDeep)
      (later (depth + 1) (statements_of g.body) (bound g.parameters ds) >>= λ flow. give (value_of flow))
      (failing TooDeep) (bind (later (depth + 1) (statements_of g.body) (bound g.parameters ds))
      (λ flow. give (value_of flow)) (blind (depth + 1) (statements_of g.body) (bound g.parameters ds))
      (λ flow. gives (value_of flow)))

  called_blind : (depth : ℕ) (c : Callee) (store : List ℕ) (ds : List Datum) → IsBlind (called w later depth c store ds)
  called_blind depth (own g) store ds = then (charge (taking ds)) (entered later depth g ds) (charged (taking ds)) (entered_blind depth g ds)
  called_blind depth (built b) store ds =
      then (charge (call_cost w.request ds (built_in w.request store b ds)))
      (call_made (built_in w.request store b ds))
      (charged (call_cost w.request ds (built_in w.request store b ds)))
      (call_made_blind (built_in w.request store b ds))
  called_blind depth unknown store ds = then (charge (taking ds)) (fails _) (charged (taking ds)) (failing _)

  module _ (depth : ℕ) (vs : Variables) where
    mutual
      eval_blind : (e : Expression) → IsBlind (eval w later depth vs e)
      eval_blind (number at n) = noded [] (Ok (v.number n))
      eval_blind (text at bytes) = noded [] (Ok (v.text bytes))
      eval_blind (truth at b) = noded [] (Ok (v.bool b))
      eval_blind (null at) = noded [] (Ok v.null)
      eval_blind (bracket at e) = eval_blind e
      eval_blind (variable at x) = noded (value_in vs x ∷ []) (Ok (value_in vs x))
      eval_blind (unary at op e) = bind (eval w later depth vs e) _ (eval_blind e) (λ a. noded _ _)
      eval_blind (binary at op a b) = bind (eval w later depth vs a) _ (eval_blind a) (λ x. bind (eval w later depth vs b) _ (eval_blind b) (λ y. noded _ _))
      eval_blind (and_ at a b) =
          bind (eval w later depth vs a) _ (eval_blind a) (λ x. bind (decide x) _ (decided x x) (λ holds. either holds (eval w later depth vs b) (give x) (eval_blind b) (gives x)))
      eval_blind (or_ at a b) =
          bind (eval w later depth vs a) _ (eval_blind a) (λ x. bind (decide x) _ (decided x x) (λ holds. either holds (give x) (eval w later depth vs b) (gives x) (eval_blind b)))
      eval_blind (index at a b) = bind (eval w later depth vs a) _ (eval_blind a) (λ x. bind (eval w later depth vs b) _ (eval_blind b) (λ y. noded _ _))
      eval_blind (list at es) = bind (eval_all w later depth vs es) _ (all_blind es) (λ ds. noded _ _)
      eval_blind (call at f es) =
          bind _ _ (arguments_blind (names_store (callee_in w.program f)) es) (λ ds. called_blind depth (callee_in w.program f) (store_name es) ds)
      eval_blind (transact at qs) =
          bind (operands_of_all w later depth vs qs) _ (queries_blind qs)
          (λ us. bind (charge (taking (values_of_all us))) _ (charged (taking (values_of_all us)))
          (λ _. issued_well (transact_op us)))

      all_blind : (es : Expressions) → IsBlind (eval_all w later depth vs es)
      all_blind no_expression = gives []
      all_blind (expression e es) = bind (eval w later depth vs e) _ (eval_blind e)
          (λ x. bind (eval_all w later depth vs es) _ (all_blind es) (λ ds. gives (x ∷ ds)))

      arguments_blind : (b : Bool) (es : Expressions) → IsBlind (cond b (eval_others w later depth vs es) (eval_all w later depth vs es))
      arguments_blind true no_expression = gives []
      arguments_blind true (expression e es) = all_blind es
      arguments_blind false no_expression = gives []
      arguments_blind false (expression e es) =
          bind (eval w later depth vs e) _ (eval_blind e)
          (λ x. bind (eval_all w later depth vs es) _ (all_blind es) (λ ds. gives (x ∷ ds)))

      query_blind : (q : Query) → IsBlind (operands_of w later depth vs q)
      query_blind (insert at t es) = bind (eval_all w later depth vs es) _ (all_blind es) (λ ds. gives _)
      query_blind (select at xs t cs) = bind (tests_of w later depth vs (table_in w.program t) cs) _ (tests_blind (table_in w.program t) cs) (λ tests. gives _)
      query_blind (update at t sets cs) =
          bind (changes_of w later depth vs (table_in w.program t) sets) _ (changes_blind (table_in w.program t) sets) (λ changes.
          bind (tests_of w later depth vs (table_in w.program t) cs) _ (tests_blind (table_in w.program t) cs) (λ tests. gives _))
      query_blind (delete at t cs) = bind (tests_of w later depth vs (table_in w.program t) cs) _ (tests_blind (table_in w.program t) cs) (λ tests. gives _)
      query_blind (expect at e t cs) =
          bind (eval w later depth vs e) _ (eval_blind e)
          (λ n. bind (tests_of w later depth vs (table_in w.program t) cs) _
          (tests_blind (table_in w.program t) cs) (λ tests. gives _))

      queries_blind : (qs : Queries) → IsBlind (operands_of_all w later depth vs qs)
      queries_blind no_query = gives []
      queries_blind (query q qs) = bind (operands_of w later depth vs q) _ (query_blind q)
          (λ x. bind (operands_of_all w later depth vs qs) _ (queries_blind qs) (λ ds. gives (x ∷ ds)))

      tests_blind : (t : NumberedTable) (cs : Conditions) → IsBlind (tests_of w later depth vs t cs)
      tests_blind t no_condition = gives []
      tests_blind t (condition x c e cs) = bind (eval w later depth vs e) _ (eval_blind e)
          (λ y. bind (tests_of w later depth vs t cs) _ (tests_blind t cs) (λ tests. gives _))

      changes_blind : (t : NumberedTable) (sets : Assignments) → IsBlind (changes_of w later depth vs t sets)
      changes_blind t no_assignment = gives []
      changes_blind t (assignment x e sets) = bind (eval w later depth vs e) _ (eval_blind e)
          (λ y. bind (changes_of w later depth vs t sets) _ (changes_blind t sets) (λ changes. gives _))

  -- ---- statements

  then_on_blind : (flow : Flow) (next : Variables → Run Flow) → ((us : Variables) → IsBlind (next us)) → IsBlind (then_on flow next)
  then_on_blind (on us) next h = h us
  then_on_blind (back x) next h = gives (back x)

  scoped_blind : (vs : Variables) (m : Run Flow) → IsBlind m → IsBlind (scoped vs m)
  scoped_blind vs m h = bind m (λ flow. give (left_as vs flow)) h (λ flow. gives (left_as vs flow))

  turns_blind : (whole : Datum) (x : List ℕ) (body : Variables → Run Flow) → ((us : Variables) → IsBlind (body us))
      → (vs : Variables) (ds : List Datum) → IsBlind (turns whole x body vs ds)
  turns_blind whole x body h vs [] = bind (decide_by whole (v.bool false)) (λ _. give (on vs)) (decided whole (v.bool false)) (λ _. gives (on vs))
  turns_blind whole x body h vs (y ∷ ds) =
      bind (decide_by whole (v.bool true)) _ (decided whole (v.bool true)) (λ _.
      bind (scoped vs (body (declared vs x y))) (λ flow. then_on flow (λ us. turns whole x body us ds))
      (scoped_blind vs (body (declared vs x y)) (h (declared vs x y))) (λ flow.
      then_on_blind flow (λ us. turns whole x body us ds) (λ us. turns_blind whole x body h us ds)))

  turns_of_blind : (whole : Datum) (x : List ℕ) (body : Variables → Run Flow) → ((us : Variables) → IsBlind (body us))
      → (vs : Variables) (r : Result (List Datum) ScriptFault) → IsBlind (turns_of whole x body vs r)
  turns_of_blind whole x body h vs (Ok ds) = turns_blind whole x body h vs ds
  turns_of_blind whole x body h vs (Err f) = then (charge_for whole) (fails f) (charged (taking (whole ∷ []))) (failing f)

  abbrev print_ran : List ℕ → Progress → Bool → Ran (Unit {0})
  print_ran bytes p b = cond b (stops (fault TooLarge) p) (goes tt (record p { body = p.body ++ bytes }))

  print_alike : (bytes : List ℕ) (p : Progress) (kept : Option (List Cost)) (b : Bool) → IsAlike (print_ran bytes p b) (print_ran bytes (keeping kept p) b)
  print_alike bytes p kept true = (kept, refl)
  print_alike bytes p kept false = (kept, refl)

  printed_blind : (x : Datum) → IsBlind (print_value x)
  printed_blind x = bind (unless_fault (printed x)) print (unless (printed x))
      (λ bytes p kept. print_alike bytes p kept (nat_lt MOST_BODY_BYTES (length (p.body ++ bytes))))

  module _ (depth : ℕ) where
    spent : (vs : Variables) (e : Expression) (f : Datum → Run Flow) → ((x : Datum) → IsBlind (f x))
        → IsBlind (eval w later depth vs e >>= λ x. charge_for x >>= λ _. f x)
    spent vs e f h = bind (eval w later depth vs e) _ (eval_blind depth vs e) (λ x. bind (charge_for x) (λ _. f x) (charged (taking (x ∷ []))) (λ _. h x))

    mutual
      exec_blind : (s : Statement) (vs : Variables) → IsBlind (exec w later depth s vs)
      exec_blind (let_ at x e) vs = spent vs e _ (λ y. gives _)
      exec_blind (set_ at x e) vs = spent vs e _ (λ y. gives _)
      exec_blind (if_ at e body other) vs =
          bind (eval w later depth vs e) _ (eval_blind depth vs e) (λ x. bind (decide x) _ (decided x x) (λ holds.
          scoped_blind vs _ (either holds (block w later depth body vs) (otherwise w later depth other vs) (block_blind body vs) (otherwise_blind other vs))))
      exec_blind (while_ at e body) vs =
          bind (eval w later depth vs e) _ (eval_blind depth vs e) (λ x. bind (decide x) _ (decided x x) (λ holds.
          either holds (scoped vs (block w later depth body vs)
          >>= λ flow. then_on flow (later depth (statement (while_ at e body) no_statement))) (give (on vs))
          (bind (scoped vs (block w later depth body vs)) (λ flow. then_on flow (later depth (statement (while_ at e body) no_statement)))
          (scoped_blind vs (block w later depth body vs) (block_blind body vs)) (λ flow.
          then_on_blind flow (later depth (statement (while_ at e body) no_statement)) (λ us. blind depth (statement (while_ at e body) no_statement) us)))
          (gives (on vs))))
      exec_blind (for_ at x e body) vs =
          bind (eval w later depth vs e) _ (eval_blind depth vs e)
          (λ y. turns_of_blind y x.text (block w later depth body) (λ us. block_blind body us) vs (list_in y))
      exec_blind (echo at e) vs = spent vs e _ (λ y. bind (print_value y) (λ _. give (on vs)) (printed_blind y) (λ _. gives (on vs)))
      exec_blind (status at e) vs =
          spent vs e _ (λ y. bind (unless_fault (status_in y)) (λ n. set_status n >>= λ _. give (on vs)) (unless (status_in y)) (λ n p kept. (kept, refl)))
      exec_blind (return at e) vs = spent vs e _ (λ y. gives (back y))
      exec_blind (do_ at e) vs = spent vs e _ (λ y. gives (on vs))

      otherwise_blind : (other : Else) (vs : Variables) → IsBlind (otherwise w later depth other vs)
      otherwise_blind no_else vs = gives (on vs)
      otherwise_blind (else_ ss) vs = block_blind ss vs

      block_blind : (ss : Statements) (vs : Variables) → IsBlind (block w later depth ss vs)
      block_blind no_statement vs = gives (on vs)
      block_blind (statement x ss) vs =
          bind (exec w later depth x vs) (λ flow. then_on flow (block w later depth ss)) (exec_blind x vs)
          (λ flow. then_on_blind flow (block w later depth ss) (λ us. block_blind ss us))

run_blind : (w : Setting) (n : ℕ) → AreBlind (run w n)
run_blind w zero depth ss vs = failing OutOfSteps
run_blind w (suc n) depth ss vs = block_blind w (run w n) (run_blind w n) depth ss vs

-- ---- conduct

seen : (page : ℕ) (r s : Ran Flow) → IsAlike r s → ended page s ≡ ended page r
seen page (goes flow p) s e = ap (ended page) e.1
seen page (stops (wants op) p) s e = ap (ended page) e.1
seen page (stops (fault f) p) s e = ap (ended page) e.1
seen page (stops answer_fault p) s e = ap (ended page) e.1

pub changes_nothing : KeepingChangesNothing
changes_nothing = record {
  same = λ program request answers page kept.
      let w : Setting = record { program = program; request = request } in
      seen page.number (page_run program request (start answers) page) (page_run program request (keeping kept (start answers)) page)
      (run_blind w (MOST_STEPS + 1) 0 (statements_of page.body) [] (start answers) kept);
}
