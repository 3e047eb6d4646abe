-- A run of sound statements asks only for operations that fit, and its values are within the limits.
use Rattle.std.proofs.Common.{◌≡◌, ◌≢◌, ℕ, zero, suc, ◌<◌, ◌+◌, Bool, true, false, cond, List, [], ◌∷◌, ◌++◌, length, take, Option, Some, None, Result, Ok, Err, refl, sym, ap, subst, ◌∙◌, arith}
use Rattle.std.specs.Prelude.{◌==◌, nat_lt, slice_get}
use Rattle.std.specs.Str.{bytes_eq}
use Rattle.basis.specs.Lists.{nth}
use Rattle.script_tree.specs.ActLimits.{AreWithinLimits}
use Rattle.script_tree.specs.Datum as v
use Rattle.script_tree.specs.Datum.{Datum, Data, IsWithinLimits, is_within_limits}
use Rattle.script_tree.specs.Declarations.{NumberedTable, DeclaredFunction, Callee, own, built, unknown, callee, callee_in, function_in, or_empty, table_in}
use Rattle.script_tree.specs.Fit.{table_widths}
use Rattle.script_tree.specs.Requests.{IsRequestWithinLimits}
use Rattle.script_tree.specs.Syntax.{Expression, number, text, truth, null, bracket, variable, call, list, transact, unary, binary, and_, or_, index, Expressions, no_expression, expression, Query, insert, select, update, delete, expect, Queries, no_query, query, Conditions, no_condition, condition, Assignments, no_assignment, assignment, Statement, let_, set_, if_, while_, for_, echo, status, return, do_, Else, no_else, else_, Statements, no_statement, statement}
use Rattle.script_tree.specs.SyntaxLists.{statements_of}
use Rattle.script_tree.specs.declared.limits.TheConstants.{MOST_STEPS, MOST_OPERATIONS, MOST_BODY_BYTES, MOST_CALL_DEPTH}
use Rattle.script_tree.specs.declared.fault.ScriptFault.{ScriptFault}
use Rattle.script_tree.specs.declared.fault.ScriptFault.TheVariants.{OutOfSteps, TooManyOperations, TooLarge, TooDeep}
use Rattle.script_tree.specs.declared.syntax.name.Name.{Name}
use Rattle.script_tree.specs.declared.syntax.builtin.Builtin.{Builtin}
use Rattle.script_check.specs.Validity.{how_many}
use Rattle.script_meaning.specs.BuiltinCalls.{Call, plain, of_request, operation, built_in}
use Rattle.script_meaning.specs.Evaluate.{Setting, Flow, on, back, Later, value_of, entered, call_cost, call_made, called, names_store, store_name, print, print_value, set_status, eval, eval_all, eval_others, operands_of, operands_of_all, tests_of, changes_of, then_on, left_as, scoped, turns, turns_of, exec, otherwise, block, run, node, issue_unless_fault}
use Rattle.script_meaning.specs.Kinds.{bool_in, list_in}
use Rattle.script_meaning.specs.Operands.{OpAnswer, Unchecked, values_of_all, transact_op, status_in}
use Rattle.script_meaning.specs.Operations as o
use Rattle.script_meaning.specs.Operators.{Answer, printed}
use Rattle.script_meaning.specs.Run.{Cost, taking, Run, Progress, Ran, goes, stops, ◌>>=◌, ◌>>◌, after, give, fails, unless_fault, charge, charge_for, answered, count_operation, decide, decide_by, and_cost, last_issuing}
use Rattle.script_meaning.specs.declared.run.Stop.TheVariants.{Wants as wants, Fault as fault, AnswerFault as answer_fault}
use Rattle.script_meaning.specs.declared.run.Mark.TheVariants.{Issued as issued}
use Rattle.script_meaning.specs.Variables.{Variables, value_in, declared, assigned, bound}
use Rattle.script_fit.specs.FitsOperation.{FitsOperation}
use Rattle.script_fit.specs.FitsTransaction.{FitTests, FitChanges}
use Rattle.script_asks.proofs.Values.{IsFine, text_within, member_within, checked_fine, binary_fine, unary_fine, indexed_fine}
use Rattle.script_asks.proofs.Operations.{Fitting, IsFineCall, HasStore, built_in_fine, FitsUnchecked, FitUnchecked, transacts}
use Rattle.script_asks.proofs.Tables.{width_at, column_there, not_the_key, some_columns, columns_there}
use Rattle.script_asks.proofs.Sound.{AreColumns, IsKnown, IsSound, AreSound, AreArguments, IsSoundQuery, AreSoundQueries, AreSoundTests, AreSoundSets, IsSoundStatement, IsSoundElse, AreSoundStatements, AreSoundBodies}

-- each variable holds a value within the limits
abbrev pub AreKept : Variables → Type 0
AreKept [] = Unit {0}
AreKept (x ∷ xs) = IsWithinLimits x.value × AreKept xs

abbrev pub IsKeptFlow : Flow → Type 0
IsKeptFlow (on vs) = AreKept vs
IsKeptFlow (back d) = IsWithinLimits d

abbrev Anything : {A : Type 0} → A → Type 0
Anything x = Unit {0}

value_kept : (vs : Variables) (x : List ℕ) → AreKept vs → IsWithinLimits (value_in vs x)
value_kept [] x h = refl
value_kept (y ∷ vs) x h = by (value_kept vs x h.1) (bytes_eq x y.name)
  where
    by : IsWithinLimits (value_in vs x) → (b : Bool) → IsWithinLimits (cond b y.value (value_in vs x))
    by ih true = h.0
    by ih false = ih

declared_kept : (vs : Variables) (x : List ℕ) (d : Datum) → AreKept vs → IsWithinLimits d → AreKept (declared vs x d)
declared_kept [] x d h l = (l, tt)
declared_kept (y ∷ vs) x d h l = (h.0, declared_kept vs x d h.1 l)

assigned_kept : (vs : Variables) (x : List ℕ) (d : Datum) → AreKept vs → IsWithinLimits d → AreKept (assigned vs x d)
assigned_kept [] x d h l = tt
assigned_kept (y ∷ vs) x d h l = by (assigned_kept vs x d h.1 l) (bytes_eq x y.name)
  where
    by : AreKept (assigned vs x d) → (b : Bool) → AreKept (cond b (record y { value = d } ∷ vs) (y ∷ assigned vs x d))
    by ih true = (l, h.1)
    by ih false = (h.0, ih)

bound_kept : (xs : List Name) (ds : List Datum) → AreWithinLimits ds → AreKept (bound xs ds)
bound_kept [] ds h = tt
bound_kept (x ∷ xs) [] h = tt
bound_kept (x ∷ xs) (d ∷ ds) h = (h.0, bound_kept xs ds h.1)

taken_kept : (n : ℕ) (vs : Variables) → AreKept vs → AreKept (take n vs)
taken_kept zero vs h = tt
taken_kept (suc n) [] h = tt
taken_kept (suc n) (y ∷ vs) h = (h.0, taken_kept n vs h.1)

module _ (w : Setting) (short : IsRequestWithinLimits w.request) (bodies : AreSoundBodies w.program) where
  -- a run came to a value of which this holds, or to a wish that fits
  abbrev pub IsRanOf : {A : Type 0} → (A → Type 0) → Ran A → Type 0
  IsRanOf P (goes a p) = P a
  IsRanOf P (stops (wants op) p) = FitsOperation w.program op
  IsRanOf P (stops (fault f) p) = Unit {0}
  IsRanOf P (stops answer_fault p) = Unit {0}

  abbrev pub AlwaysGives : {A : Type 0} → (A → Type 0) → Run A → Type 0
  AlwaysGives P m = (p : Progress) → IsRanOf P (m p)

  bind : {A B : Type 0} (P : A → Type 0) (Q : B → Type 0) (m : Run A) (f : A → Run B) → AlwaysGives P m
      → ((a : A) → P a → AlwaysGives Q (f a)) → AlwaysGives Q (m >>= f)
  bind {A} {B} P Q m f g h p = by (m p) (g p)
    where
      by : (r : Ran A) → IsRanOf P r → IsRanOf Q (after r f)
      by (goes a q) k = h a k q
      by (stops (wants op) q) k = k
      by (stops (fault e) q) k = tt
      by (stops answer_fault q) k = tt

  then : {A B : Type 0} (Q : B → Type 0) (m : Run A) (n : Run B) → AlwaysGives {A = A} Anything m → AlwaysGives Q n → AlwaysGives Q (m >> n)
  then {A} {B} Q m n g h p = by (m p) (g p)
    where
      by : (r : Ran A) → IsRanOf {A = A} Anything r → IsRanOf Q (after r (λ _. n))
      by (goes a q) k = h q
      by (stops (wants op) q) k = k
      by (stops (fault e) q) k = tt
      by (stops answer_fault q) k = tt

  charged : (c : Cost) → AlwaysGives {A = Unit {0}} Anything (charge c)
  charged c p = by (p.steps == MOST_STEPS)
    where
      by : (b : Bool) → IsRanOf {A = Unit {0}} Anything (cond b (stops (fault OutOfSteps) p) (goes tt (record p { steps = p.steps + 1; costs = and_cost c p.costs })))
      by true = tt
      by false = tt

  unless : (a : Answer) → IsFine a → AlwaysGives IsWithinLimits (unless_fault a)
  unless (Ok d) h p = h
  unless (Err f) h p = tt

  unless_any : {A : Type 0} (r : Result A ScriptFault) → AlwaysGives {A = A} Anything (unless_fault r)
  unless_any (Ok a) p = tt
  unless_any (Err f) p = tt

  noded : (ds : List Datum) (a : Answer) → IsFine a → AlwaysGives IsWithinLimits (node ds a)
  noded ds a h = then IsWithinLimits (charge (taking ds)) (unless_fault a) (charged (taking ds)) (unless a h)

  decided : (whole d : Datum) → AlwaysGives {A = Bool} Anything (decide_by whole d)
  decided whole d = bind {A = Unit {0}} {B = Bool} Anything Anything (charge_for whole) _ (charged (taking (whole ∷ []))) (λ _ _.
      bind {A = Bool} {B = Bool} Anything Anything (unless_fault (bool_in d)) _ (unless_any (bool_in d)) (λ b _ p. tt))

  -- ---- operations

  counted : AlwaysGives {A = Unit {0}} Anything count_operation
  counted p = by (p.operations == MOST_OPERATIONS)
    where
      by : (b : Bool) → IsRanOf {A = Unit {0}} Anything
          (cond b (stops (fault TooManyOperations) p)
          (goes tt (record p { operations = p.operations + 1; costs = last_issuing p.costs })))
      by true = tt
      by false = tt

  answer_taken : (op : o.Op) → FitsOperation w.program op → (ds : List Datum) (p : Progress) → IsRanOf IsWithinLimits (answered op ds p)
  answer_taken op h [] p = h
  answer_taken op h (d ∷ ds) p = by (is_within_limits d) refl
    where
      q : Progress
      q = record p { answers = ds; trail = p.trail ++ issued op ∷ [] }

      by : (b : Bool) → is_within_limits d ≡ b → IsRanOf IsWithinLimits (cond b (goes d q) (stops answer_fault q))
      by true e = e
      by false e = tt

  issued_well : (op : OpAnswer) → Fitting w.program op → AlwaysGives IsWithinLimits (issue_unless_fault op)
  issued_well (Err f) h = λ p. tt
  issued_well (Ok op) h = then IsWithinLimits count_operation (λ p. answered op p.answers p) counted (λ p. answer_taken op h p.answers p)

  weaker : {A : Type 0} (P Q : A → Type 0) (m : Run A) → ((a : A) → P a → Q a) → AlwaysGives P m → AlwaysGives Q m
  weaker {A} P Q m f g p = by (m p) (g p)
    where
      by : (r : Ran A) → IsRanOf P r → IsRanOf Q r
      by (goes a q) k = f a k
      by (stops (wants op) q) k = k
      by (stops (fault e) q) k = tt
      by (stops answer_fault q) k = tt

  -- what runs statements later does so as well
  abbrev pub IsWell : Later → Type 0
  IsWell later = (depth : ℕ) (ss : Statements) (vs : Variables) → AreSoundStatements w.program ss → AreKept vs → AlwaysGives IsKeptFlow (later depth ss vs)

  either : {A : Type 0} (P : A → Type 0) (b : Bool) (m n : Run A) → AlwaysGives P m → AlwaysGives P n → AlwaysGives P (cond b m n)
  either P true m n g h = g
  either P false m n g h = h

  -- ---- calls

  call_made_well : (c : Call) → IsFineCall w.program c → AlwaysGives IsWithinLimits (call_made c)
  call_made_well (plain a) h = unless a h
  call_made_well (of_request a) h = unless a h
  call_made_well (operation op) h = issued_well op h

  flow_value : (flow : Flow) → IsKeptFlow flow → IsWithinLimits (value_of flow)
  flow_value (on vs) h = refl
  flow_value (back d) h = h

  entered_well : (later : Later) → IsWell later → (depth : ℕ) (g : DeclaredFunction)
      → AreSoundStatements w.program (statements_of g.body) → (ds : List Datum) → AreWithinLimits ds
      → AlwaysGives IsWithinLimits (entered later depth g ds)
  entered_well later well depth g s ds h = by (depth == MOST_CALL_DEPTH)
    where
      by : (b : Bool) → AlwaysGives IsWithinLimits (cond b (fails TooDeep)
          (later (depth + 1) (statements_of g.body) (bound g.parameters ds) >>= λ flow. give (value_of flow)))
      by true = λ p. tt
      by false = bind IsKeptFlow IsWithinLimits (later (depth + 1) (statements_of g.body) (bound g.parameters ds)) (λ flow. give (value_of flow))
          (well (depth + 1) (statements_of g.body) (bound g.parameters ds) s (bound_kept g.parameters ds h)) (λ flow k p. flow_value flow k)

  own_is : (f : Option DeclaredFunction) (b : Option Builtin) (g : DeclaredFunction) → callee f b ≡ own g → f ≡ Some g
  own_is (Some x) b g e = cc
  own_is None (Some b) g e = absurd cc
  own_is None None g e = absurd cc

  called_well : (later : Later) → IsWell later → (depth : ℕ) (f : List ℕ) (c : Callee) → callee_in w.program f ≡ c
      → (store : List ℕ) → HasStore w.program (names_store c) store
      → (ds : List Datum) → AreWithinLimits ds → AlwaysGives IsWithinLimits (called w later depth c store ds)
  called_well later well depth f (own g) e store s ds h =
      then IsWithinLimits (charge (taking ds)) (entered later depth g ds) (charged (taking ds))
      (entered_well later well depth g (bodies f g (own_is (function_in w.program f) _ g e)) ds h)
  called_well later well depth f (built b) e store s ds h =
      then IsWithinLimits (charge (call_cost w.request ds (built_in w.request store b ds)))
      (call_made (built_in w.request store b ds))
      (charged (call_cost w.request ds (built_in w.request store b ds)))
      (call_made_well (built_in w.request store b ds) (built_in_fine w.program w.request store b ds short s h))
  called_well later well depth f unknown e store s ds h = then IsWithinLimits (charge (taking ds)) (fails _) (charged (taking ds)) (λ p. tt)

  store_there : (b : Bool) (es : Expressions) → AreArguments w.program b es → HasStore w.program b (store_name es)
  store_there false es a = tt
  store_there true no_expression a = absurd a
  store_there true (expression (variable at x) es) a = a.0
  store_there true (expression e es) a = absurd a.0

  -- ---- tables

  -- what is known of a table holds of the one that is found
  known_at : (t : Name) (Holds : List Name → Type 0) → IsKnown w.program t Holds
      → (nth (table_widths w.program.declarations) (table_in w.program t).number
      ≡ Some (length (table_in w.program t).columns)) × Holds (table_in w.program t).columns
  known_at t Holds k =
      let e : table_in w.program t ≡ k.0 = ap or_empty k.1 in (
        subst (λ n. nth (table_widths w.program.declarations) n.number ≡ Some (length n.columns)) (sym e) (width_at t.text w.program.declarations k.0 k.1),
        subst (λ n. Holds n.columns) (sym e) k.2,
      )

  abbrev AreAll : Expressions → List Datum → Type 0
  AreAll es ds = AreWithinLimits ds × (length ds ≡ how_many es)

  abbrev AreQueries : Queries → List Unchecked → Type 0
  AreQueries qs us = FitUnchecked w.program us × (qs ≢ no_query → us ≢ [])

  abbrev AreTests : NumberedTable → List o.Test → Type 0
  AreTests t tests = FitTests (length t.columns) tests

  abbrev AreChanges : NumberedTable → Assignments → List o.Change → Type 0
  AreChanges t sets changes = FitChanges (length t.columns) changes × (sets ≢ no_assignment → 0 < length changes)

  module _ (later : Later) (well : IsWell later) (depth : ℕ) (vs : Variables) (kept : AreKept vs) where
    mutual
      eval_well : (e : Expression) → IsSound w.program e → AlwaysGives IsWithinLimits (eval w later depth vs e)
      eval_well (number at n) s = noded [] (Ok (v.number n)) refl
      eval_well (text at bytes) s = noded [] (Ok (v.text bytes)) (text_within bytes s)
      eval_well (truth at b) s = noded [] (Ok (v.bool b)) refl
      eval_well (null at) s = noded [] (Ok v.null) refl
      eval_well (bracket at e) s = eval_well e s
      eval_well (variable at x) s = noded (value_in vs x ∷ []) (Ok (value_in vs x)) (value_kept vs x kept)
      eval_well (unary at op e) s = bind IsWithinLimits IsWithinLimits (eval w later depth vs e) _ (eval_well e s) (λ a k. noded (a ∷ []) _ (unary_fine op a))
      eval_well (binary at op a b) s =
          bind IsWithinLimits IsWithinLimits (eval w later depth vs a) _ (eval_well a s.0) (λ x k.
          bind IsWithinLimits IsWithinLimits (eval w later depth vs b) _ (eval_well b s.1) (λ y l. noded (x ∷ y ∷ []) _ (binary_fine op x y)))
      eval_well (and_ at a b) s =
          bind IsWithinLimits IsWithinLimits (eval w later depth vs a) _ (eval_well a s.0) (λ x k.
          bind Anything IsWithinLimits (decide x) _ (decided x x)
          (λ holds _. either IsWithinLimits holds (eval w later depth vs b) (give x) (eval_well b s.1) (λ p. k)))
      eval_well (or_ at a b) s =
          bind IsWithinLimits IsWithinLimits (eval w later depth vs a) _ (eval_well a s.0) (λ x k.
          bind Anything IsWithinLimits (decide x) _ (decided x x)
          (λ holds _. either IsWithinLimits holds (give x) (eval w later depth vs b) (λ p. k) (eval_well b s.1)))
      eval_well (index at a b) s =
          bind IsWithinLimits IsWithinLimits (eval w later depth vs a) _ (eval_well a s.0) (λ x k.
          bind IsWithinLimits IsWithinLimits (eval w later depth vs b) _ (eval_well b s.1) (λ y l. noded (x ∷ y ∷ []) _ (indexed_fine x y k)))
      eval_well (list at es) s = bind (AreAll es) IsWithinLimits (eval_all w later depth vs es) _ (all_well es s)
          (λ ds k. noded ds _ (checked_fine (v.list (v.data_of ds))))
      eval_well (call at f es) s =
          bind AreWithinLimits IsWithinLimits _ _ (arguments_well (names_store (callee_in w.program f)) es s.1)
          (λ ds k. called_well later well depth f (callee_in w.program f) refl (store_name es) (store_there (names_store (callee_in w.program f)) es s.1) ds k)
      eval_well (transact at qs) s =
          bind (AreQueries qs) IsWithinLimits (operands_of_all w later depth vs qs) _ (queries_well qs s.1) (λ us k.
          bind Anything IsWithinLimits (charge (taking (values_of_all us))) _ (charged (taking (values_of_all us))) (λ _ _.
          issued_well (transact_op us) (transacts w.program us (k.1 s.0) k.0)))

      all_well : (es : Expressions) → AreSound w.program es → AlwaysGives (AreAll es) (eval_all w later depth vs es)
      all_well no_expression s = λ p. (tt, refl)
      all_well (expression e es) s =
          bind IsWithinLimits (AreAll (expression e es)) (eval w later depth vs e) _ (eval_well e s.0) (λ d k.
          bind (AreAll es) (AreAll (expression e es)) (eval_all w later depth vs es) _ (all_well es s.1) (λ ds l p. ((k, l.0), ap suc l.1)))

      arguments_well : (b : Bool) (es : Expressions) → AreArguments w.program b es
          → AlwaysGives AreWithinLimits (cond b (eval_others w later depth vs es) (eval_all w later depth vs es))
      arguments_well true no_expression s = absurd s
      arguments_well true (expression e es) s = weaker (AreAll es) AreWithinLimits (eval_all w later depth vs es) (λ ds k. k.0) (all_well es s.1)
      arguments_well false no_expression s = λ p. tt
      arguments_well false (expression e es) s =
          bind IsWithinLimits AreWithinLimits (eval w later depth vs e) _ (eval_well e s.0) (λ d k.
          bind (AreAll es) AreWithinLimits (eval_all w later depth vs es) _ (all_well es s.1) (λ ds l p. (k, l.0)))

      query_well : (q : Query) → IsSoundQuery w.program q → AlwaysGives (FitsUnchecked w.program) (operands_of w later depth vs q)
      query_well (insert at t es) s =
          let at_table = known_at t (λ columns. how_many es ≡ length columns) s.0 in
          bind (AreAll es) (FitsUnchecked w.program) (eval_all w later depth vs es) _ (all_well es s.1)
          (λ ds k p. ((length (table_in w.program t).columns, at_table.0, k.1 ∙ at_table.1), k.0))
      query_well (select at xs t cs) s =
          let at_table = known_at t (λ columns. AreColumns columns xs × AreSoundTests w.program columns cs) s.1 in
          bind (AreTests (table_in w.program t)) (FitsUnchecked w.program)
          (tests_of w later depth vs (table_in w.program t) cs) _
          (tests_well (table_in w.program t) cs at_table.1.1) (λ tests k p. (
            length (table_in w.program t).columns,
            at_table.0,
            (some_columns (table_in w.program t) xs s.0, columns_there (table_in w.program t) xs at_table.1.0, k),
          ))
      query_well (update at t sets cs) s =
          let at_table = known_at t (λ columns. AreSoundSets w.program columns sets × AreSoundTests w.program columns cs) s.1 in
          bind (AreChanges (table_in w.program t) sets) (FitsUnchecked w.program)
          (changes_of w later depth vs (table_in w.program t) sets) _
          (changes_well (table_in w.program t) sets at_table.1.0) (λ changes l.
          bind (AreTests (table_in w.program t)) (FitsUnchecked w.program)
          (tests_of w later depth vs (table_in w.program t) cs) _
          (tests_well (table_in w.program t) cs at_table.1.1) (λ tests k p.
          (length (table_in w.program t).columns, at_table.0, (l.1 s.0, l.0, k))))
      query_well (delete at t cs) s =
          let at_table = known_at t (λ columns. AreSoundTests w.program columns cs) s in
          bind (AreTests (table_in w.program t)) (FitsUnchecked w.program)
          (tests_of w later depth vs (table_in w.program t) cs) _
          (tests_well (table_in w.program t) cs at_table.1) (λ tests k p.
          (length (table_in w.program t).columns, at_table.0, k))
      query_well (expect at e t cs) s =
          let at_table = known_at t (λ columns. AreSoundTests w.program columns cs) s.1 in
          bind IsWithinLimits (FitsUnchecked w.program) (eval w later depth vs e) _ (eval_well e s.0) (λ n l.
          bind (AreTests (table_in w.program t)) (FitsUnchecked w.program)
          (tests_of w later depth vs (table_in w.program t) cs) _
          (tests_well (table_in w.program t) cs at_table.1) (λ tests k p.
          (length (table_in w.program t).columns, at_table.0, k)))

      queries_well : (qs : Queries) → AreSoundQueries w.program qs → AlwaysGives (AreQueries qs) (operands_of_all w later depth vs qs)
      queries_well no_query s = λ p. (tt, λ n. absurd (n refl))
      queries_well (query q qs) s =
          bind (FitsUnchecked w.program) (AreQueries (query q qs)) (operands_of w later depth vs q) _ (query_well q s.0) (λ d k.
          bind (AreQueries qs) (AreQueries (query q qs)) (operands_of_all w later depth vs qs) _ (queries_well qs s.1) (λ ds l p. ((k, l.0), λ n e. absurd cc)))

      tests_well : (t : NumberedTable) (cs : Conditions) → AreSoundTests w.program t.columns cs → AlwaysGives (AreTests t) (tests_of w later depth vs t cs)
      tests_well t no_condition s = λ p. tt
      tests_well t (condition x c e cs) s =
          bind IsWithinLimits (AreTests t) (eval w later depth vs e) _ (eval_well e s.1) (λ d k.
          bind (AreTests t) (AreTests t) (tests_of w later depth vs t cs) _ (tests_well t cs s.2) (λ tests l p.
          (column_there x.text t.columns s.0, k, l)))

      changes_well : (t : NumberedTable) (sets : Assignments) → AreSoundSets w.program t.columns sets
          → AlwaysGives (AreChanges t sets) (changes_of w later depth vs t sets)
      changes_well t no_assignment s = λ p. (tt, λ n. absurd (n refl))
      changes_well t (assignment x e sets) s =
          bind IsWithinLimits (AreChanges t (assignment x e sets)) (eval w later depth vs e) _ (eval_well e s.2) (λ d k.
          bind (AreChanges t sets) (AreChanges t (assignment x e sets)) (changes_of w later depth vs t sets) _ (changes_well t sets s.3) (λ changes l p.
          ((not_the_key x.text t.columns s.1 s.0, column_there x.text t.columns s.0, k, l.0), λ n. omega arith)))

  -- ---- statements

  then_on_well : (flow : Flow) (next : Variables → Run Flow) → IsKeptFlow flow
      → ((us : Variables) → AreKept us → AlwaysGives IsKeptFlow (next us)) → AlwaysGives IsKeptFlow (then_on flow next)
  then_on_well (on us) next k h = h us k
  then_on_well (back d) next k h = λ p. k

  left_kept : (vs : Variables) (flow : Flow) → IsKeptFlow flow → IsKeptFlow (left_as vs flow)
  left_kept vs (on us) k = taken_kept (length vs) us k
  left_kept vs (back d) k = k

  scoped_well : (vs : Variables) (m : Run Flow) → AlwaysGives IsKeptFlow m → AlwaysGives IsKeptFlow (scoped vs m)
  scoped_well vs m h = bind IsKeptFlow IsKeptFlow m (λ flow. give (left_as vs flow)) h (λ flow k p. left_kept vs flow k)

  turns_well : (whole : Datum) (x : List ℕ) (body : Variables → Run Flow)
      → ((us : Variables) → AreKept us → AlwaysGives IsKeptFlow (body us)) → (vs : Variables) → AreKept vs
      → (ds : List Datum) → AreWithinLimits ds → AlwaysGives IsKeptFlow (turns whole x body vs ds)
  turns_well whole x body h vs kept [] a =
      bind Anything IsKeptFlow (decide_by whole (v.bool false)) (λ _. give (on vs)) (decided whole (v.bool false)) (λ _ _ p. kept)
  turns_well whole x body h vs kept (d ∷ ds) a =
      bind Anything IsKeptFlow (decide_by whole (v.bool true)) _ (decided whole (v.bool true)) (λ _ _.
      bind IsKeptFlow IsKeptFlow (scoped vs (body (declared vs x d))) (λ flow. then_on flow (λ us. turns whole x body us ds))
      (scoped_well vs (body (declared vs x d)) (h (declared vs x d) (declared_kept vs x d kept a.0))) (λ flow k.
      then_on_well flow (λ us. turns whole x body us ds) k (λ us l. turns_well whole x body h us l ds a.1)))

  each_within : (ds : Data) → IsWithinLimits (v.list ds) → AreWithinLimits (v.members ds)
  each_within ds h = by (v.members ds) (λ i d e. member_within ds i d h e)
    where
      by : (xs : List Datum) → ((i : ℕ) (d : Datum) → slice_get xs i ≡ Some d → IsWithinLimits d) → AreWithinLimits xs
      by [] g = tt
      by (x ∷ xs) g = (g 0 x refl, by xs (λ i d e. g (suc i) d e))

  turns_of_well : (d : Datum) (x : List ℕ) (body : Variables → Run Flow)
      → ((us : Variables) → AreKept us → AlwaysGives IsKeptFlow (body us)) → (vs : Variables) → AreKept vs
      → IsWithinLimits d → AlwaysGives IsKeptFlow (turns_of d x body vs (list_in d))
  turns_of_well v.null x body h vs kept l = then IsKeptFlow (charge_for v.null) (fails _) (charged (taking (v.null ∷ []))) (λ p. tt)
  turns_of_well (v.bool b) x body h vs kept l = then IsKeptFlow (charge_for (v.bool b)) (fails _) (charged (taking (v.bool b ∷ []))) (λ p. tt)
  turns_of_well (v.number n) x body h vs kept l = then IsKeptFlow (charge_for (v.number n)) (fails _) (charged (taking (v.number n ∷ []))) (λ p. tt)
  turns_of_well (v.text bs) x body h vs kept l = then IsKeptFlow (charge_for (v.text bs)) (fails _) (charged (taking (v.text bs ∷ []))) (λ p. tt)
  turns_of_well (v.list ds) x body h vs kept l = turns_well (v.list ds) x body h vs kept (v.members ds) (each_within ds l)

  printed_well : (d : Datum) → AlwaysGives {A = Unit {0}} Anything (print_value d)
  printed_well d = bind {A = List ℕ} {B = Unit {0}} Anything Anything (unless_fault (printed d)) print
      (unless_any (printed d)) (λ bytes _ p. by p bytes (nat_lt MOST_BODY_BYTES (length (p.body ++ bytes))))
    where
      by : (p : Progress) (bytes : List ℕ) (b : Bool)
          → IsRanOf {A = Unit {0}} Anything (cond b (stops (fault TooLarge) p)
          (goes tt (record p { body = p.body ++ bytes })))
      by p bytes true = tt
      by p bytes false = tt

  module _ (later : Later) (well : IsWell later) (depth : ℕ) where
    -- a value, whose step is spent, and what comes then
    spent : (vs : Variables) → AreKept vs → (e : Expression) → IsSound w.program e → (f : Datum → Run Flow)
        → ((d : Datum) → IsWithinLimits d → AlwaysGives IsKeptFlow (f d))
        → AlwaysGives IsKeptFlow (eval w later depth vs e >>= λ d. charge_for d >>= λ _. f d)
    spent vs kept e s f h =
        bind IsWithinLimits IsKeptFlow (eval w later depth vs e) _ (eval_well later well depth vs kept e s) (λ d k.
        bind Anything IsKeptFlow (charge_for d) (λ _. f d) (charged (taking (d ∷ []))) (λ _ _. h d k))

    mutual
      exec_well : (s : Statement) → IsSoundStatement w.program s → (vs : Variables) → AreKept vs → AlwaysGives IsKeptFlow (exec w later depth s vs)
      exec_well (let_ at x e) s vs kept = spent vs kept e s _ (λ d k p. declared_kept vs x.text d kept k)
      exec_well (set_ at x e) s vs kept = spent vs kept e s _ (λ d k p. assigned_kept vs x.text d kept k)
      exec_well (if_ at e body other) s vs kept =
          bind IsWithinLimits IsKeptFlow (eval w later depth vs e) _ (eval_well later well depth vs kept e s.0) (λ d k.
          bind Anything IsKeptFlow (decide d) _ (decided d d) (λ holds _.
          scoped_well vs _ (either IsKeptFlow holds (block w later depth body vs) (otherwise w later depth other vs)
          (block_well body s.1 vs kept) (otherwise_well other s.2 vs kept))))
      exec_well (while_ at e body) s vs kept =
          bind IsWithinLimits IsKeptFlow (eval w later depth vs e) _ (eval_well later well depth vs kept e s.0) (λ d k.
          bind Anything IsKeptFlow (decide d) _ (decided d d) (λ holds _.
          either IsKeptFlow holds (scoped vs (block w later depth body vs)
          >>= λ flow. then_on flow (later depth (statement (while_ at e body) no_statement))) (give (on vs))
          (bind IsKeptFlow IsKeptFlow (scoped vs (block w later depth body vs)) (λ flow. then_on flow (later depth (statement (while_ at e body) no_statement)))
          (scoped_well vs (block w later depth body vs) (block_well body s.1 vs kept)) (λ flow l.
          then_on_well flow (later depth (statement (while_ at e body) no_statement)) l
          (λ us m. well depth (statement (while_ at e body) no_statement) us (s, tt) m)))
          (λ p. kept)))
      exec_well (for_ at x e body) s vs kept =
          bind IsWithinLimits IsKeptFlow (eval w later depth vs e) _ (eval_well later well depth vs kept e s.0) (λ d k.
          turns_of_well d x.text (block w later depth body) (λ us l. block_well body s.1 us l) vs kept k)
      exec_well (echo at e) s vs kept = spent vs kept e s _
          (λ d k. bind Anything IsKeptFlow (print_value d) (λ _. give (on vs)) (printed_well d) (λ _ _ p. kept))
      exec_well (status at e) s vs kept =
          spent vs kept e s _ (λ d k. bind Anything IsKeptFlow (unless_fault (status_in d))
          (λ n. set_status n >>= λ _. give (on vs)) (unless_any (status_in d)) (λ n _ p. kept))
      exec_well (return at e) s vs kept = spent vs kept e s _ (λ d k p. k)
      exec_well (do_ at e) s vs kept = spent vs kept e s _ (λ d k p. kept)

      otherwise_well : (other : Else) → IsSoundElse w.program other → (vs : Variables) → AreKept vs → AlwaysGives IsKeptFlow (otherwise w later depth other vs)
      otherwise_well no_else s vs kept = λ p. kept
      otherwise_well (else_ ss) s vs kept = block_well ss s vs kept

      block_well : (ss : Statements) → AreSoundStatements w.program ss → (vs : Variables) → AreKept vs → AlwaysGives IsKeptFlow (block w later depth ss vs)
      block_well no_statement s vs kept = λ p. kept
      block_well (statement x ss) s vs kept =
          bind IsKeptFlow IsKeptFlow (exec w later depth x vs) (λ flow. then_on flow (block w later depth ss)) (exec_well x s.0 vs kept) (λ flow k.
          then_on_well flow (block w later depth ss) k (λ us l. block_well ss s.1 us l))

  pub run_well : (n : ℕ) → IsWell (run w n)
  run_well zero depth ss vs s kept = λ p. tt
  run_well (suc n) depth ss vs s kept = block_well (run w n) (run_well n) depth ss s vs kept
