-- A run with one answer more goes as before up to where that answer is taken; without answers it takes none; and it counts each
-- operation that it asks for.
use Rattle.std.proofs.Common.{◌≡◌, ◌≢◌, ℕ, zero, suc, ◌+◌, ◌<◌, ◌≤◌, Bool, true, false, cond, List, [], ◌∷◌, ◌++◌, length, Option, Some, None, Result, Ok, Err, refl, sym, ap, ◌∙◌, subst, arith, append_assoc, append-nil}
use Rattle.std.specs.Prelude.{◌==◌, nat_lt}
use Rattle.std.proofs.lemmas.Bool.{eqb-false}
use Rattle.script_tree.specs.Datum as v
use Rattle.script_tree.specs.Datum.{Datum, is_within_limits}
use Rattle.script_tree.specs.Declarations.{NumberedPage, NumberedTable, DeclaredFunction, Callee, own, built, unknown, callee_in, page_in, table_in}
use Rattle.script_tree.specs.Programs.{Program}
use Rattle.script_tree.specs.Requests.{Request}
use Rattle.script_tree.specs.Syntax.{Expression, number, text, truth, null, bracket, variable, call, list, transact, unary, binary, and_, or_, index, Expressions, no_expression, expression, Query, insert, select, update, delete, expect, Queries, no_query, query, Conditions, no_condition, condition, Assignments, no_assignment, assignment, Statement, let_, set_, if_, while_, for_, echo, status, return, do_, Else, no_else, else_, Statements, no_statement, statement}
use Rattle.script_tree.specs.SyntaxLists.{statements_of}
use Rattle.script_tree.specs.declared.limits.TheConstants.{MOST_STEPS, MOST_OPERATIONS, MOST_BODY_BYTES, MOST_CALL_DEPTH}
use Rattle.script_tree.specs.declared.fault.ScriptFault.{ScriptFault}
use Rattle.script_tree.specs.declared.fault.ScriptFault.TheVariants.{OutOfSteps, TooManyOperations, TooLarge, TooDeep}
use Rattle.script_tree.specs.declared.operation.Op.{Op}
use Rattle.script_tree.specs.declared.request.Response.{Response}
use Rattle.script_tree.specs.declared.path.Path.{Path}
use Rattle.script_meaning.specs.BuiltinCalls.{Call, plain, of_request, operation, built_in}
use Rattle.script_meaning.specs.Conduct.{Ending, conduct, Wants, Ends, Undefined, unless_left, ended, on_page, start}
use Rattle.script_meaning.specs.Evaluate.{Setting, Flow, on, back, Later, value_of, entered, call_cost, call_made, called, names_store, store_name, print, print_value, set_status, eval, eval_all, eval_others, operands_of, operands_of_all, tests_of, changes_of, then_on, left_as, scoped, turns, turns_of, exec, otherwise, block, run, node, issue_unless_fault}
use Rattle.script_meaning.specs.Kinds.{bool_in, list_in}
use Rattle.script_meaning.specs.Operands.{OpAnswer, values_of_all, transact_op, status_in}
use Rattle.script_meaning.specs.Operators.{Answer, printed}
use Rattle.script_meaning.specs.Run.{Cost, taking, Run, Progress, Ran, goes, stops, ◌>>=◌, ◌>>◌, after, give, fails, unless_fault, charge, charge_for, answered, count_operation, decide, decide_by, and_cost, last_issuing}
use Rattle.script_meaning.specs.declared.run.Mark.{Mark}
use Rattle.script_meaning.specs.declared.run.Mark.TheVariants.{Decided as decided_mark, Issued as issued}
use Rattle.script_meaning.specs.declared.run.Stop.TheVariants.{Wants as wants, Fault as fault, AnswerFault as answer_fault}
use Rattle.script_meaning.specs.Variables.{Variables, value_in, declared, bound}

-- the same, with one answer more behind the others
abbrev with_answer : Datum → Progress → Progress
with_answer d p = record p { answers = p.answers ++ d ∷ [] }

abbrev left_of : {A : Type 0} → Ran A → List Datum
left_of (goes a p) = p.answers
left_of (stops e p) = p.answers

abbrev trail_in : {A : Type 0} → Ran A → List Mark
trail_in (goes a p) = p.trail
trail_in (stops e p) = p.trail

-- the trail goes on from there
abbrev Extends : {A : Type 0} → List Mark → Ran A → Type 0
Extends ts o = (ms : List Mark) × (trail_in o ≡ ts ++ ms)

-- what a run with an answer more came to, where the one without it came to this
abbrev GoesFurther : {A : Type 0} → Datum → Ran A → Ran A → Type 0
GoesFurther d (goes a p) o = o ≡ goes a (with_answer d p)
GoesFurther d (stops (wants op) p) o = (left_of o ≡ []) × Extends (p.trail ++ issued op ∷ []) o
GoesFurther d (stops (fault f) p) o = o ≡ stops (fault f) (with_answer d p)
GoesFurther d (stops answer_fault p) o = o ≡ stops answer_fault (with_answer d p)

-- the operations that are counted and the answers that are left, together
abbrev both : Progress → ℕ
both p = p.operations + length p.answers

-- where the two came to so many before: each operation takes an answer, but the one that is wanted
abbrev Counts : {A : Type 0} → ℕ → Ran A → Type 0
Counts n (goes a p) = (both p ≡ n) × (p.operations ≤ MOST_OPERATIONS)
Counts n (stops (wants op) p) = n < MOST_OPERATIONS
Counts n (stops (fault f) p) = Unit {0}
Counts n (stops answer_fault p) = Unit {0}

abbrev IsCounted : {A : Type 0} → Run A → Type 0
IsCounted m = (p : Progress) → p.operations ≤ MOST_OPERATIONS → Counts (both p) (m p)

counts_on : {A B : Type 0} (n : ℕ) (f : A → Run B) → ((a : A) → IsCounted (f a)) → (r : Ran A) → Counts n r → Counts n (after r f)
counts_on n f h (goes a p) c = subst (λ k. Counts k (f a p)) c.0 (h a p c.1)
counts_on n f h (stops (wants op) p) c = c
counts_on n f h (stops (fault x) p) c = tt
counts_on n f h (stops answer_fault p) c = tt

answer_counts : (op : Op) (as' : List Datum) (p : Progress) → suc (p.operations) ≤ MOST_OPERATIONS → p.answers ≡ as'
    → Counts (both p) (answered op as' (record p { operations = p.operations + 1; costs = last_issuing p.costs }))
answer_counts op [] p l e = subst (λ xs. p.operations + length xs < MOST_OPERATIONS) (sym e) (omega (arith, l))
answer_counts op (x ∷ xs) p l e = by (is_within_limits x)
  where
    q : Progress
    q = record p { operations = p.operations + 1; costs = last_issuing p.costs; answers = xs; trail = p.trail ++ issued op ∷ [] }

    by : (b : Bool) → Counts (both p) (cond b (goes x q) (stops answer_fault q))
    by true = (subst (λ ys. p.operations + 1 + length xs ≡ p.operations + length ys) (sym e) (omega arith), omega (arith, l))
    by false = tt

abbrev count_ran : Progress → Bool → Ran (Unit {0})
count_ran p b = cond b (stops (fault TooManyOperations) p) (goes tt (record p { operations = p.operations + 1; costs = last_issuing p.costs }))

issue_ran : (op : Op) (p : Progress) → p.operations ≤ MOST_OPERATIONS → (b : Bool) → (p.operations == MOST_OPERATIONS) ≡ b
    → Counts (both p) (after (count_ran p b) (λ _. λ q. answered op q.answers q))
issue_ran op p l true e = tt
issue_ran op p l false e = answer_counts op p.answers p (below (eqb-false p.operations MOST_OPERATIONS e)) refl
  where
    below : (p.operations ≡ MOST_OPERATIONS → ⊥) → suc p.operations ≤ MOST_OPERATIONS
    below apart = omega (arith, l, apart)

issue_counts : (op : Op) → IsCounted (count_operation >> λ p. answered op p.answers p)
issue_counts op p l = issue_ran op p l (p.operations == MOST_OPERATIONS) refl

module _ (d : Datum) where
  pub record IsFurther {A : Type 0} (m : Run A) : Type 0 where
    pub further : (p : Progress) → GoesFurther d (m p) (m (with_answer d p))
    pub none_left : (p : Progress) → p.answers ≡ [] → left_of (m p) ≡ []
    pub grows : (p : Progress) → Extends p.trail (m p)

  pub record IsSteady {A : Type 0} (m : Run A) : Type 0 where
    pub on : IsFurther m
    pub counts : IsCounted m

  on_further : {A B : Type 0} (m : Run A) (f : A → Run B) → IsFurther m → ((a : A) → IsFurther (f a)) → IsFurther (m >>= f)
  on_further {A} {B} m f g h = record {
    further = λ p. by (m p) (m (with_answer d p)) (g.further p);
    none_left = λ p e. no (m p) (g.none_left p e);
    grows = λ p. more p.trail (m p) (g.grows p);
  }
    where
      no : (r : Ran A) → left_of r ≡ [] → left_of (after r f) ≡ []
      no (goes a q) e = (h a).none_left q e
      no (stops x q) e = e

      more : (ts : List Mark) (r : Ran A) → Extends ts r → Extends ts (after r f)
      more ts (goes a q) e = let k = (h a).grows q in (e.0 ++ k.0, k.1 ∙ ap (λ us. us ++ k.0) e.1 ∙ append_assoc ts e.0 k.0)
      more ts (stops x q) e = e

      by : (r s : Ran A) → GoesFurther d r s → GoesFurther d (after r f) (after s f)
      by (goes a q) s e = subst (λ x. GoesFurther d (f a q) (after x f)) (sym e) ((h a).further q)
      by (stops (wants op) q) s e = (no s e.0, more (q.trail ++ issued op ∷ []) s e.1)
      by (stops (fault x) q) s e = subst (λ y. GoesFurther d (stops (fault x) q) (after y f)) (sym e) refl
      by (stops answer_fault q) s e = subst (λ y. GoesFurther d (stops answer_fault q) (after y f)) (sym e) refl

  bind : {A B : Type 0} (m : Run A) (f : A → Run B) → IsSteady m → ((a : A) → IsSteady (f a)) → IsSteady (m >>= f)
  bind m f g h = record { on = on_further m f g.on (λ a. (h a).on); counts = λ p l. counts_on (both p) f (λ a. (h a).counts) (m p) (g.counts p l) }

  then : {A B : Type 0} (m : Run A) (n : Run B) → IsSteady m → IsSteady n → IsSteady (m >> n)
  then m n g h = bind m (λ _. n) g (λ _. h)

  gives : {A : Type 0} (a : A) → IsSteady (give a)
  gives a = record { on = record { further = λ p. refl; none_left = λ p e. e; grows = λ p. ([], sym (append-nil p.trail)) }; counts = λ p l. (refl, l) }

  failing : {A : Type 0} (f : ScriptFault) → IsSteady {A = A} (fails f)
  failing f = record { on = record { further = λ p. refl; none_left = λ p e. e; grows = λ p. ([], sym (append-nil p.trail)) }; counts = λ p l. tt }

  unless : {A : Type 0} (r : Result A ScriptFault) → IsSteady (unless_fault r)
  unless (Ok a) = gives a
  unless (Err f) = failing f

  either : {A : Type 0} (b : Bool) (m n : Run A) → IsSteady m → IsSteady n → IsSteady (cond b m n)
  either true m n g h = g
  either false m n g h = h

  abbrev charge_ran : Cost → Progress → Bool → Ran (Unit {0})
  charge_ran c p b = cond b (stops (fault OutOfSteps) p) (goes tt (record p { steps = p.steps + 1; costs = and_cost c p.costs }))

  charge_further : (c : Cost) (p : Progress) (b : Bool) → GoesFurther d (charge_ran c p b) (charge_ran c (with_answer d p) b)
  charge_further c p true = refl
  charge_further c p false = refl

  charge_none : (c : Cost) (p : Progress) → p.answers ≡ [] → (b : Bool) → left_of (charge_ran c p b) ≡ []
  charge_none c p e true = e
  charge_none c p e false = e

  charge_counts : (c : Cost) (p : Progress) → p.operations ≤ MOST_OPERATIONS → (b : Bool) → Counts (both p) (charge_ran c p b)
  charge_counts c p l true = tt
  charge_counts c p l false = (refl, l)

  charge_grows : (c : Cost) (p : Progress) (b : Bool) → Extends p.trail (charge_ran c p b)
  charge_grows c p true = ([], sym (append-nil p.trail))
  charge_grows c p false = ([], sym (append-nil p.trail))

  charged : (c : Cost) → IsSteady (charge c)
  charged c = record {
    on = record {
      further = λ p. charge_further c p (p.steps == MOST_STEPS);
      none_left = λ p e. charge_none c p e
          (p.steps == MOST_STEPS);
      grows = λ p. charge_grows c p (p.steps == MOST_STEPS);
    };
    counts = λ p l. charge_counts c p l (p.steps == MOST_STEPS);
  }

  count_further : (p : Progress) (b : Bool) → GoesFurther d (count_ran p b) (count_ran (with_answer d p) b)
  count_further p true = refl
  count_further p false = refl

  count_none : (p : Progress) → p.answers ≡ [] → (b : Bool) → left_of (count_ran p b) ≡ []
  count_none p e true = e
  count_none p e false = e

  count_grows : (p : Progress) (b : Bool) → Extends p.trail (count_ran p b)
  count_grows p true = ([], sym (append-nil p.trail))
  count_grows p false = ([], sym (append-nil p.trail))

  counted : IsFurther count_operation
  counted = record {
    further = λ p. count_further p
        (p.operations == MOST_OPERATIONS);
    none_left = λ p e. count_none p e (p.operations == MOST_OPERATIONS);
    grows =
        λ p. count_grows p (p.operations == MOST_OPERATIONS);
  }

  -- an answer that is taken
  abbrev taken : Op → Progress → Datum → List Datum → Bool → Ran Datum
  taken op p x xs b = let q : Progress = record p { answers = xs; trail = p.trail ++ issued op ∷ [] } in cond b (goes x q) (stops answer_fault q)

  taken_further : (op : Op) (p : Progress) (x : Datum) (xs : List Datum) (b : Bool)
      → GoesFurther d (taken op p x xs b) (taken op (with_answer d p) x (xs ++ d ∷ []) b)
  taken_further op p x xs true = refl
  taken_further op p x xs false = refl

  taken_none : (op : Op) (p : Progress) (x : Datum) (b : Bool) → left_of (taken op p x [] b) ≡ []
  taken_none op p x true = refl
  taken_none op p x false = refl

  taken_grows : (op : Op) (p : Progress) (x : Datum) (xs : List Datum) (b : Bool) → Extends (p.trail ++ issued op ∷ []) (taken op p x xs b)
  taken_grows op p x xs true = ([], sym (append-nil (p.trail ++ issued op ∷ [])))
  taken_grows op p x xs false = ([], sym (append-nil (p.trail ++ issued op ∷ [])))

  taken_on : (op : Op) (p : Progress) (x : Datum) (xs : List Datum) (b : Bool) → Extends p.trail (taken op p x xs b)
  taken_on op p x xs true = (issued op ∷ [], refl)
  taken_on op p x xs false = (issued op ∷ [], refl)

  answer_grows : (op : Op) (as' : List Datum) (p : Progress) → Extends p.trail (answered op as' p)
  answer_grows op [] p = ([], sym (append-nil p.trail))
  answer_grows op (x ∷ xs) p = taken_on op p x xs (is_within_limits x)

  answer_further : (op : Op) (as' : List Datum) (p : Progress) → p.answers ≡ as'
      → GoesFurther d (answered op as' p) (answered op (as' ++ d ∷ []) (with_answer d p))
  answer_further op [] p e = (taken_none op (with_answer d p) d (is_within_limits d), taken_grows op (with_answer d p) d [] (is_within_limits d))
  answer_further op (x ∷ xs) p e = taken_further op p x xs (is_within_limits x)

  answer_none : (op : Op) (as' : List Datum) (p : Progress) → p.answers ≡ as' → as' ≡ [] → left_of (answered op as' p) ≡ []
  answer_none op [] p e f = e
  answer_none op (x ∷ xs) p e f = absurd cc

  takes_answer : (op : Op) → IsFurther (λ p. answered op p.answers p)
  takes_answer op = record { further = λ p. answer_further op p.answers p refl; none_left = λ p e. answer_none op p.answers p refl e; grows = λ p. answer_grows op p.answers p }

  issued_well : (op : OpAnswer) → IsSteady (issue_unless_fault op)
  issued_well (Err f) = failing f
  issued_well (Ok op) = record {
    on = on_further count_operation (λ _. λ p. answered op p.answers p) counted (λ _. takes_answer op);
    counts = issue_counts op;
  }

  decided : (whole x : Datum) → IsSteady (decide_by whole x)
  decided whole x = bind (charge_for whole) _ (charged (taking (whole ∷ []))) (λ _. bind (unless_fault (bool_in x)) _ (unless (bool_in x)) (λ b. record { on = record { further = λ p. refl; none_left = λ p e. e; grows = λ p. (decided_mark b ∷ [], refl) }; counts = λ p l. (refl, l) }))

  noded : (ds : List Datum) (a : Answer) → IsSteady (node ds a)
  noded ds a = then (charge (taking ds)) (unless_fault a) (charged (taking ds)) (unless a)

  -- ---- calls

  abbrev pub AreSteady : Later → Type 0
  AreSteady later = (depth : ℕ) (ss : Statements) (vs : Variables) → IsSteady (later depth ss vs)

  call_made_steady : (c : Call) → IsSteady (call_made c)
  call_made_steady (plain a) = unless a
  call_made_steady (of_request a) = unless a
  call_made_steady (operation op) = issued_well op

  module _ (w : Setting) (later : Later) (steady : AreSteady later) where
    entered_steady : (depth : ℕ) (g : DeclaredFunction) (ds : List Datum) → IsSteady (entered later depth g ds)
    entered_steady depth g ds = either (depth == MOST_CALL_DEPTH) (fails TooDeep)
        (later (depth + 1) (statements_of g.body) (bound g.parameters ds) >>= λ flow. give (value_of flow))
        (failing TooDeep) (bind (later (depth + 1) (statements_of g.body) (bound g.parameters ds))
        (λ flow. give (value_of flow)) (steady (depth + 1) (statements_of g.body) (bound g.parameters ds))
        (λ flow. gives (value_of flow)))

    called_steady : (depth : ℕ) (c : Callee) (store : List ℕ) (ds : List Datum) → IsSteady (called w later depth c store ds)
    called_steady depth (own g) store ds = then (charge (taking ds)) (entered later depth g ds) (charged (taking ds)) (entered_steady depth g ds)
    called_steady depth (built b) store ds =
        then (charge (call_cost w.request ds (built_in w.request store b ds)))
        (call_made (built_in w.request store b ds))
        (charged (call_cost w.request ds (built_in w.request store b ds)))
        (call_made_steady (built_in w.request store b ds))
    called_steady depth unknown store ds = then (charge (taking ds)) (fails _) (charged (taking ds)) (failing _)

    module _ (depth : ℕ) (vs : Variables) where
      mutual
        eval_steady : (e : Expression) → IsSteady (eval w later depth vs e)
        eval_steady (number at n) = noded [] (Ok (v.number n))
        eval_steady (text at bytes) = noded [] (Ok (v.text bytes))
        eval_steady (truth at b) = noded [] (Ok (v.bool b))
        eval_steady (null at) = noded [] (Ok v.null)
        eval_steady (bracket at e) = eval_steady e
        eval_steady (variable at x) = noded (value_in vs x ∷ []) (Ok (value_in vs x))
        eval_steady (unary at op e) = bind (eval w later depth vs e) _ (eval_steady e) (λ a. noded _ _)
        eval_steady (binary at op a b) = bind (eval w later depth vs a) _ (eval_steady a)
            (λ x. bind (eval w later depth vs b) _ (eval_steady b) (λ y. noded _ _))
        eval_steady (and_ at a b) =
            bind (eval w later depth vs a) _ (eval_steady a) (λ x. bind (decide x) _ (decided x x) (λ holds. either holds (eval w later depth vs b) (give x) (eval_steady b) (gives x)))
        eval_steady (or_ at a b) =
            bind (eval w later depth vs a) _ (eval_steady a) (λ x. bind (decide x) _ (decided x x) (λ holds. either holds (give x) (eval w later depth vs b) (gives x) (eval_steady b)))
        eval_steady (index at a b) = bind (eval w later depth vs a) _ (eval_steady a) (λ x. bind (eval w later depth vs b) _ (eval_steady b) (λ y. noded _ _))
        eval_steady (list at es) = bind (eval_all w later depth vs es) _ (all_steady es) (λ ds. noded _ _)
        eval_steady (call at f es) =
            bind _ _ (arguments_steady (names_store (callee_in w.program f)) es) (λ ds. called_steady depth (callee_in w.program f) (store_name es) ds)
        eval_steady (transact at qs) =
            bind (operands_of_all w later depth vs qs) _ (queries_steady qs)
            (λ us. bind (charge (taking (values_of_all us))) _ (charged (taking (values_of_all us)))
            (λ _. issued_well (transact_op us)))

        all_steady : (es : Expressions) → IsSteady (eval_all w later depth vs es)
        all_steady no_expression = gives []
        all_steady (expression e es) = bind (eval w later depth vs e) _ (eval_steady e)
            (λ x. bind (eval_all w later depth vs es) _ (all_steady es) (λ ds. gives (x ∷ ds)))

        arguments_steady : (b : Bool) (es : Expressions) → IsSteady (cond b (eval_others w later depth vs es) (eval_all w later depth vs es))
        arguments_steady true no_expression = gives []
        arguments_steady true (expression e es) = all_steady es
        arguments_steady false no_expression = gives []
        arguments_steady false (expression e es) =
            bind (eval w later depth vs e) _ (eval_steady e)
            (λ x. bind (eval_all w later depth vs es) _ (all_steady es) (λ ds. gives (x ∷ ds)))

        query_steady : (q : Query) → IsSteady (operands_of w later depth vs q)
        query_steady (insert at t es) = bind (eval_all w later depth vs es) _ (all_steady es) (λ ds. gives _)
        query_steady (select at xs t cs) = bind (tests_of w later depth vs (table_in w.program t) cs) _
            (tests_steady (table_in w.program t) cs) (λ tests. gives _)
        query_steady (update at t sets cs) =
            bind (changes_of w later depth vs (table_in w.program t) sets) _ (changes_steady (table_in w.program t) sets) (λ changes.
            bind (tests_of w later depth vs (table_in w.program t) cs) _ (tests_steady (table_in w.program t) cs) (λ tests. gives _))
        query_steady (delete at t cs) = bind (tests_of w later depth vs (table_in w.program t) cs) _ (tests_steady (table_in w.program t) cs) (λ tests. gives _)
        query_steady (expect at e t cs) =
            bind (eval w later depth vs e) _ (eval_steady e)
            (λ n. bind (tests_of w later depth vs (table_in w.program t) cs) _
            (tests_steady (table_in w.program t) cs) (λ tests. gives _))

        queries_steady : (qs : Queries) → IsSteady (operands_of_all w later depth vs qs)
        queries_steady no_query = gives []
        queries_steady (query q qs) = bind (operands_of w later depth vs q) _ (query_steady q)
            (λ x. bind (operands_of_all w later depth vs qs) _ (queries_steady qs) (λ ds. gives (x ∷ ds)))

        tests_steady : (t : NumberedTable) (cs : Conditions) → IsSteady (tests_of w later depth vs t cs)
        tests_steady t no_condition = gives []
        tests_steady t (condition x c e cs) = bind (eval w later depth vs e) _ (eval_steady e)
            (λ y. bind (tests_of w later depth vs t cs) _ (tests_steady t cs) (λ tests. gives _))

        changes_steady : (t : NumberedTable) (sets : Assignments) → IsSteady (changes_of w later depth vs t sets)
        changes_steady t no_assignment = gives []
        changes_steady t (assignment x e sets) =
            bind (eval w later depth vs e) _ (eval_steady e)
            (λ y. bind (changes_of w later depth vs t sets) _ (changes_steady t sets) (λ changes. gives _))

    -- ---- statements

    then_on_steady : (flow : Flow) (next : Variables → Run Flow) → ((us : Variables) → IsSteady (next us)) → IsSteady (then_on flow next)
    then_on_steady (on us) next h = h us
    then_on_steady (back x) next h = gives (back x)

    scoped_steady : (vs : Variables) (m : Run Flow) → IsSteady m → IsSteady (scoped vs m)
    scoped_steady vs m h = bind m (λ flow. give (left_as vs flow)) h (λ flow. gives (left_as vs flow))

    turns_steady : (whole : Datum) (x : List ℕ) (body : Variables → Run Flow)
        → ((us : Variables) → IsSteady (body us)) → (vs : Variables) (ds : List Datum)
        → IsSteady (turns whole x body vs ds)
    turns_steady whole x body h vs [] = bind (decide_by whole (v.bool false)) (λ _. give (on vs)) (decided whole (v.bool false)) (λ _. gives (on vs))
    turns_steady whole x body h vs (y ∷ ds) =
        bind (decide_by whole (v.bool true)) _ (decided whole (v.bool true)) (λ _.
        bind (scoped vs (body (declared vs x y))) (λ flow. then_on flow (λ us. turns whole x body us ds))
        (scoped_steady vs (body (declared vs x y)) (h (declared vs x y))) (λ flow.
        then_on_steady flow (λ us. turns whole x body us ds) (λ us. turns_steady whole x body h us ds)))

    turns_of_steady : (whole : Datum) (x : List ℕ) (body : Variables → Run Flow)
        → ((us : Variables) → IsSteady (body us)) → (vs : Variables) (r : Result (List Datum) ScriptFault)
        → IsSteady (turns_of whole x body vs r)
    turns_of_steady whole x body h vs (Ok ds) = turns_steady whole x body h vs ds
    turns_of_steady whole x body h vs (Err f) = then (charge_for whole) (fails f) (charged (taking (whole ∷ []))) (failing f)

    abbrev print_ran : List ℕ → Progress → Bool → Ran (Unit {0})
    print_ran bytes p b = cond b (stops (fault TooLarge) p) (goes tt (record p { body = p.body ++ bytes }))

    print_further : (bytes : List ℕ) (p : Progress) (b : Bool) → GoesFurther d (print_ran bytes p b) (print_ran bytes (with_answer d p) b)
    print_further bytes p true = refl
    print_further bytes p false = refl

    print_none : (bytes : List ℕ) (p : Progress) → p.answers ≡ [] → (b : Bool) → left_of (print_ran bytes p b) ≡ []
    print_none bytes p e true = e
    print_none bytes p e false = e

    print_grows : (bytes : List ℕ) (p : Progress) (b : Bool) → Extends p.trail (print_ran bytes p b)
    print_grows bytes p true = ([], sym (append-nil p.trail))
    print_grows bytes p false = ([], sym (append-nil p.trail))

    print_counts : (bytes : List ℕ) (p : Progress) → p.operations ≤ MOST_OPERATIONS → (b : Bool) → Counts (both p) (print_ran bytes p b)
    print_counts bytes p l true = tt
    print_counts bytes p l false = (refl, l)

    printed_steady : (x : Datum) → IsSteady (print_value x)
    printed_steady x = bind (unless_fault (printed x)) print (unless (printed x)) (λ bytes. record {
      on = record {
        further = λ p. print_further bytes p (nat_lt MOST_BODY_BYTES (length (p.body ++ bytes)));
        none_left = λ p e. print_none bytes p e (nat_lt MOST_BODY_BYTES (length (p.body ++ bytes)));
        grows = λ p. print_grows bytes p (nat_lt MOST_BODY_BYTES (length (p.body ++ bytes)));
      };
      counts = λ p l. print_counts bytes p l (nat_lt MOST_BODY_BYTES (length (p.body ++ bytes)));
    })

    module _ (depth : ℕ) where
      spent : (vs : Variables) (e : Expression) (f : Datum → Run Flow) → ((x : Datum) → IsSteady (f x))
          → IsSteady (eval w later depth vs e >>= λ x. charge_for x >>= λ _. f x)
      spent vs e f h = bind (eval w later depth vs e) _ (eval_steady depth vs e) (λ x. bind (charge_for x) (λ _. f x) (charged (taking (x ∷ []))) (λ _. h x))

      mutual
        exec_steady : (s : Statement) (vs : Variables) → IsSteady (exec w later depth s vs)
        exec_steady (let_ at x e) vs = spent vs e _ (λ y. gives _)
        exec_steady (set_ at x e) vs = spent vs e _ (λ y. gives _)
        exec_steady (if_ at e body other) vs =
            bind (eval w later depth vs e) _ (eval_steady depth vs e) (λ x. bind (decide x) _ (decided x x) (λ holds.
            scoped_steady vs _ (either holds (block w later depth body vs) (otherwise w later depth other vs)
            (block_steady body vs) (otherwise_steady other vs))))
        exec_steady (while_ at e body) vs =
            bind (eval w later depth vs e) _ (eval_steady depth vs e) (λ x. bind (decide x) _ (decided x x) (λ holds.
            either holds (scoped vs (block w later depth body vs)
            >>= λ flow. then_on flow (later depth (statement (while_ at e body) no_statement))) (give (on vs))
            (bind (scoped vs (block w later depth body vs)) (λ flow. then_on flow (later depth (statement (while_ at e body) no_statement)))
            (scoped_steady vs (block w later depth body vs) (block_steady body vs)) (λ flow.
            then_on_steady flow (later depth (statement (while_ at e body) no_statement)) (λ us. steady depth (statement (while_ at e body) no_statement) us)))
            (gives (on vs))))
        exec_steady (for_ at x e body) vs =
            bind (eval w later depth vs e) _ (eval_steady depth vs e)
            (λ y. turns_of_steady y x.text (block w later depth body) (λ us. block_steady body us) vs (list_in y))
        exec_steady (echo at e) vs = spent vs e _ (λ y. bind (print_value y) (λ _. give (on vs)) (printed_steady y) (λ _. gives (on vs)))
        exec_steady (status at e) vs =
            spent vs e _ (λ y. bind (unless_fault (status_in y)) (λ n. set_status n >>= λ _. give (on vs)) (unless (status_in y)) (λ n. record { on = record { further = λ p. refl; none_left = λ p h. h; grows = λ p. ([], sym (append-nil p.trail)) }; counts = λ p l. (refl, l) }))
        exec_steady (return at e) vs = spent vs e _ (λ y. gives (back y))
        exec_steady (do_ at e) vs = spent vs e _ (λ y. gives (on vs))

        otherwise_steady : (other : Else) (vs : Variables) → IsSteady (otherwise w later depth other vs)
        otherwise_steady no_else vs = gives (on vs)
        otherwise_steady (else_ ss) vs = block_steady ss vs

        block_steady : (ss : Statements) (vs : Variables) → IsSteady (block w later depth ss vs)
        block_steady no_statement vs = gives (on vs)
        block_steady (statement x ss) vs =
            bind (exec w later depth x vs) (λ flow. then_on flow (block w later depth ss)) (exec_steady x vs)
            (λ flow. then_on_steady flow (block w later depth ss) (λ us. block_steady ss us))

  run_steady : (w : Setting) (n : ℕ) → AreSteady (run w n)
  run_steady w zero depth ss vs = failing OutOfSteps
  run_steady w (suc n) depth ss vs = block_steady w (run w n) (run_steady w n) depth ss vs

-- ---- conduct

defined_where_none : (answers : List Datum) (response : Response) (path : Path) → answers ≡ [] → unless_left answers (Ends response path) ≢ Undefined
defined_where_none [] response path e = λ h. cc
defined_where_none (x ∷ xs) response path e = absurd cc

ended_defined : (page : ℕ) (r : Ran Flow) → left_of r ≡ [] → (ended page r).ending ≢ Undefined
ended_defined page (goes flow p) e = defined_where_none p.answers _ _ e
ended_defined page (stops (wants op) p) e = λ h. cc
ended_defined page (stops (fault f) p) e = defined_where_none p.answers _ _ e
ended_defined page (stops answer_fault p) e = defined_where_none p.answers _ _ e

-- an ending for which answers are left isn't a wish
wish_is : (answers : List Datum) (response : Response) (path : Path) (op : Op) → unless_left answers (Ends response path) ≡ Wants op → ⊥
wish_is [] response path op e = cc
wish_is (x ∷ xs) response path op e = cc

further_defined : (d : Datum) (page : ℕ) (op : Op) (r s : Ran Flow) → GoesFurther d r s → (ended page r).ending ≡ Wants op → (ended page s).ending ≢ Undefined
further_defined d page op (goes flow p) s g e = absurd (wish_is p.answers _ _ op e)
further_defined d page op (stops (wants x) p) s g e = ended_defined page s g.0
further_defined d page op (stops (fault f) p) s g e = absurd (wish_is p.answers _ _ op e)
further_defined d page op (stops answer_fault p) s g e = absurd (wish_is p.answers _ _ op e)

-- the trail of a run with one answer more

ended_trail : (page : ℕ) (r : Ran Flow) → (ended page r).trail ≡ trail_in r
ended_trail page (goes flow p) = refl
ended_trail page (stops (wants op) p) = refl
ended_trail page (stops (fault f) p) = refl
ended_trail page (stops answer_fault p) = refl

wanted_in : Op → Ending → Op
wanted_in op (Wants x) = x
wanted_in op (Ends response path) = op
wanted_in op Undefined = op

further_extends : (d : Datum) (page : ℕ) (op : Op) (r s : Ran Flow) → GoesFurther d r s → (ended page r).ending ≡ Wants op
    → (ms : List Mark) × ((ended page s).trail ≡ (ended page r).trail ++ issued op ∷ ms)
unfolding wanted_in
further_extends d page op (goes flow p) s g e = absurd (wish_is p.answers _ _ op e)
further_extends d page op (stops (wants x) p) s g e =
    let same : x ≡ op = ap (wanted_in op) e in
    (g.1.0, ended_trail page s ∙ g.1.1 ∙ append_assoc p.trail (issued x ∷ []) g.1.0 ∙ ap (λ o. p.trail ++ issued o ∷ g.1.0) same)
further_extends d page op (stops (fault f) p) s g e = absurd (wish_is p.answers _ _ op e)
further_extends d page op (stops answer_fault p) s g e = absurd (wish_is p.answers _ _ op e)

module _ (program : Program) (request : Request) where
  abbrev setting : Setting
  setting = record { program = program; request = request }

  first_on : (o : Option NumberedPage) → (on_page program request [] o).ending ≢ Undefined
  first_on None = λ h. cc
  first_on (Some page) = ended_defined page.number (run setting (MOST_STEPS + 1) 0 (statements_of page.body) [] (start []))
      ((run_steady v.null setting (MOST_STEPS + 1) 0 (statements_of page.body) []).on.none_left (start []) refl)

  pub defined_first : (conduct program request []).ending ≢ Undefined
  defined_first = first_on (page_in program request.path)

  next_on : (answers : List Datum) (d : Datum) (op : Op) (o : Option NumberedPage) → (on_page program request answers o).ending ≡ Wants op
      → (on_page program request (answers ++ d ∷ []) o).ending ≢ Undefined
  next_on answers d op None e = absurd (wish_is answers _ _ op e)
  next_on answers d op (Some page) e = further_defined d page.number op (run setting (MOST_STEPS + 1) 0 (statements_of page.body) [] (start answers)) _
      ((run_steady d setting (MOST_STEPS + 1) 0 (statements_of page.body) []).on.further (start answers)) e

  pub defined_next : (answers : List Datum) (d : Datum) (op : Op)
      → (conduct program request answers).ending ≡ Wants op
      → (conduct program request (answers ++ d ∷ [])).ending ≢ Undefined
  defined_next answers d op e = next_on answers d op (page_in program request.path) e

  extends_on : (answers : List Datum) (d : Datum) (op : Op) (o : Option NumberedPage) → (on_page program request answers o).ending ≡ Wants op
      → (ms : List Mark) × ((on_page program request (answers ++ d ∷ []) o).trail ≡ (on_page program request answers o).trail ++ issued op ∷ ms)
  extends_on answers d op None e = absurd (wish_is answers _ _ op e)
  extends_on answers d op (Some page) e = further_extends d page.number op (run setting (MOST_STEPS + 1) 0 (statements_of page.body) [] (start answers)) _
      ((run_steady d setting (MOST_STEPS + 1) 0 (statements_of page.body) []).on.further (start answers)) e

  pub trail_extends : (answers : List Datum) (d : Datum) (op : Op) → (conduct program request answers).ending ≡ Wants op
      → (ms : List Mark) × ((conduct program request (answers ++ d ∷ [])).trail ≡ (conduct program request answers).trail ++ issued op ∷ ms)
  trail_extends answers d op e = extends_on answers d op (page_in program request.path) e

  counted_in : (n : ℕ) (op : Op) (page : ℕ) (r : Ran Flow) → Counts n r → (ended page r).ending ≡ Wants op → n < MOST_OPERATIONS
  counted_in n op page (goes flow p) c e = absurd (wish_is p.answers _ _ op e)
  counted_in n op page (stops (wants x) p) c e = c
  counted_in n op page (stops (fault f) p) c e = absurd (wish_is p.answers _ _ op e)
  counted_in n op page (stops answer_fault p) c e = absurd (wish_is p.answers _ _ op e)

  counted_on : (answers : List Datum) (op : Op) (o : Option NumberedPage)
      → (on_page program request answers o).ending ≡ Wants op → 0 + length answers < MOST_OPERATIONS
  counted_on answers op None e = absurd (wish_is answers _ _ op e)
  counted_on answers op (Some page) e = counted_in (both (start answers)) op page.number
      (run setting (MOST_STEPS + 1) 0 (statements_of page.body) [] (start answers))
      ((run_steady v.null setting (MOST_STEPS + 1) 0 (statements_of page.body) []).counts (start answers) (omega arith)) e

  pub counted_asks : (answers : List Datum) (op : Op) → (conduct program request answers).ending ≡ Wants op → length answers < MOST_OPERATIONS
  counted_asks answers op e = omega (arith, counted_on answers op (page_in program request.path) e)
