-- The code of an expression, with calls and transactions in it.
use Rattle.std.proofs.Common.{◌≡◌, ◌≤◌, ◌<◌, ◌+◌, ◌-◌, ◌==◌, ℕ, suc, Bool, true, false, if◌then◌else◌, List, [], ◌∷◌, ◌++◌, length, map, Option, Some, None, refl, sym, ap, ◌∙◌, subst, arith, length-append}
use Rattle.std.specs.Prelude.{slice_get}
use Rattle.script_tree.specs.Builtins.{builtin_of, takes_store}
use Rattle.script_tree.specs.Datum as v
use Rattle.script_tree.specs.Datum.{Datum}
use Rattle.script_tree.specs.Declarations.{DeclaredFunction, NumberedTable, Callee, own, built, unknown, callee, callee_in, function_in, table_in, column_in}
use Rattle.script_tree.specs.Requests.{Request}
use Rattle.script_tree.specs.Syntax.{Expression, number, text, truth, null, bracket, variable, call, list, transact, unary, binary, and_, or_, index, Expressions, no_expression, expression, Query, insert, select, update, delete, expect, Queries, no_query, query, Conditions, no_condition, condition, Assignments, no_assignment, assignment}
use Rattle.script_tree.specs.SyntaxLists.{statements_of}
use Rattle.script_tree.specs.declared.fault.ScriptFault.TheVariants.{TooDeep}
use Rattle.script_tree.specs.declared.limits.TheConstants.{MOST_STEPS, MOST_CALL_DEPTH}
use Rattle.script_tree.specs.declared.comparison.Comparison.{Comparison}
use Rattle.script_tree.specs.declared.syntax.name.Name.{Name}
use Rattle.script_tree.specs.declared.syntax.builtin.Builtin.{Builtin}
use Rattle.script_tree.specs.declared.syntax.builtin.Builtin.TheVariants.{Len, Str, Escape, Num, Slice, Append, Kind, Param, Method, Path, Body, Read, Write, Get, Put, Remove, Clock, Random}
use Rattle.script_check.specs.Validity.{how_many as argument_count}
use Rattle.script_asks.proofs.Sound.{TakesSoMany, IsSound, AreSound, AreArguments, IsSoundQuery, AreSoundQueries, AreSoundTests, AreSoundSets}
use Rattle.script_meaning.specs.BuiltinCalls.{built_in}
use Rattle.script_meaning.specs.Evaluate.{Setting, Flow, Later, value_of, entered, called, call_node, node, names_store, store_name, issue_unless_fault, eval, eval_all, eval_others, operands_of, operands_of_all, tests_of, changes_of}
use Rattle.script_meaning.specs.Operands as u
use Rattle.script_meaning.specs.Operands.{Unchecked, tested, values_of, values_of_all, transact_op}
use Rattle.script_meaning.specs.Operators.{listed, indexed, unary_answer, binary_answer}
use Rattle.script_meaning.specs.Run.{taking, Run, Progress, ◌>>=◌, ◌>>◌, give, fails, charge}
use Rattle.script_meaning.specs.Variables.{Variables, bound}
use Rattle.script_code.specs.Code.{Instructions, texts, function_number, how_many, builtin_code, call_code, tests_in, changes_in, shape_of, shapes_of, expression_code, expressions_code, arguments_code, query_code, queries_code, conditions_code, assignments_code}
use Rattle.script_code.specs.CodeRun.{Frame, exec, back_to, enter, all_taken, all_filled}
use Rattle.script_code.specs.declared.instruction.Instruction.TheVariants.{Unary, Binary, Index, List as Listed, CallBuiltin, CallStore, Call, Transact}
use Rattle.script_code.proofs.Spends.{spends_node, spends_call, spends_charge, spends_charged, spends_operation}
use Rattle.script_code.proofs.Leads.{leads_same, Does, does_then, does_to, does_from, has_front, has_back, Fine, lower, at, prim, same_place}
use Rattle.script_code.proofs.Slots.{values, names, names_bound, values_bound, onto}
use Rattle.script_code.proofs.Nodes.{taken, left_over, Exec, here, Puts, push_does, load_does, one_does, two_does, and_does, or_does, PutsAll, none_do, both_do, map_does, alone, Anything, alone_does, many_does}
use Rattle.script_code.proofs.Transactions.{changed, AreTests, AreChanges, IsFilled, AreFilled, no_tests, more_tests, no_changes, more_changes, inserts, selects, deletes, expects, updates, none_filled, more_filled}

-- a built-in function that takes no store doesn't look at its name
no_store : (q : Request) (store : List ℕ) (b : Builtin) (ds : List Datum) → takes_store b ≡ false → built_in q [] b ds ≡ built_in q store b ds
no_store q store Len ds h = refl
no_store q store Str ds h = refl
no_store q store Escape ds h = refl
no_store q store Num ds h = refl
no_store q store Slice ds h = refl
no_store q store Append ds h = refl
no_store q store Kind ds h = refl
no_store q store Param ds h = refl
no_store q store Method ds h = refl
no_store q store Path ds h = refl
no_store q store Body ds h = refl
no_store q store Read ds h = refl
no_store q store Write ds h = refl
no_store q store Get ds h = absurd (cc)
no_store q store Put ds h = absurd (cc)
no_store q store Remove ds h = absurd (cc)
no_store q store Clock ds h = refl
no_store q store Random ds h = refl

same_count : (es : Expressions) → argument_count es ≡ how_many es
same_count no_expression = refl
same_count (expression e es) = ap (λ n. suc n) (same_count es)

module _ (w : Setting) (functions : List ℕ) (code : Instructions) where
  -- where each function's code begins
  abbrev pub Placed : Type 0
  Placed = (f : List ℕ) (g : DeclaredFunction) → function_in w.program f ≡ Some g
      → (place : ℕ) × (slice_get functions (function_number w.program f) ≡ Some place)

  abbrev pub Within : ℕ → Flow → Progress → Type 0
  Within low flow q = Fine low q

  -- from there it does what the function's body does later, and goes back to where the call was
  abbrev pub Bodies : ℕ → Later → Placed → Type 0
  Bodies n later placed = (f : List ℕ) (g : DeclaredFunction) (is : function_in w.program f ≡ Some g)
      (fs : List Frame) (vs : Variables) → names vs ≡ texts g.parameters
      → (p : Progress) → p.steps ≤ MOST_STEPS → MOST_STEPS < n + p.steps
      → Does (at w.request functions code fs (placed f g is).0 [] (values vs) p) (Within p.steps)
      (λ flow q k. back_to (exec w.request functions code k) fs (value_of flow) q)
      (later (length fs) (statements_of g.body) vs p)

  module _ (n : ℕ) (later : Later) (placed : Placed) (bodies : Bodies n later placed) (fs : List Frame) (vs : Variables) where
    abbrev Puts' : Instructions → Run Datum → Type 0
    Puts' = Puts w functions code fs n vs

    abbrev PutsAll' : {A : Type 0} → (A → List Datum) → (A → Type 0) → Instructions → Run A → Type 0
    PutsAll' = PutsAll w functions code fs n vs

    -- ---- calls, where the arguments are on the stack

    abbrev itself : List Datum → List Datum
    itself ds = ds

    abbrev HasCount : ℕ → List Datum → Type 0
    HasCount count ds = length ds ≡ count

    list_does : (count : ℕ) (ce : Instructions) (me : Run (List Datum)) → PutsAll' itself (HasCount count) ce me
        → Puts' (ce ++ Listed count ∷ []) (me >>= λ ds. node ds (listed ds))
    list_does count = many_does w functions code fs n vs itself (HasCount count) (Listed count)
        (λ ds. node ds (listed ds)) (λ ds. spends_node ds (listed ds)) (λ k pc ds st p h.
        (λ i. (node (taken ds st count (sym h) i) (listed (taken ds st count (sym h) i)) >>= λ d. Exec w functions code fs n vs k (pc + 1) (d ∷ left_over ds st count (sym h) i)) p))

    builtin_does : (b : Builtin) (count : ℕ) (ce : Instructions) (me : Run (List Datum)) → PutsAll' itself (HasCount count) ce me
        → Puts' (ce ++ CallBuiltin b count ∷ []) (me >>= λ ds. call_node w.request ds (built_in w.request [] b ds))
    builtin_does b count = many_does w functions code fs n vs itself (HasCount count) (CallBuiltin b count)
        (λ ds. call_node w.request ds (built_in w.request [] b ds))
        (λ ds. spends_call w.request ds (built_in w.request [] b ds)) (λ k pc ds st p h.
        (λ i. (call_node w.request (taken ds st count (sym h) i) (built_in w.request [] b (taken ds st count (sym h) i)) >>= λ d. Exec w functions code fs n vs k (pc + 1) (d ∷ left_over ds st count (sym h) i)) p))

    store_does : (b : Builtin) (store : List ℕ) (count : ℕ) (ce : Instructions) (me : Run (List Datum)) → PutsAll' itself (HasCount count) ce me
        → Puts' (ce ++ CallStore b store count ∷ []) (me >>= λ ds. call_node w.request ds (built_in w.request store b ds))
    store_does b store count = many_does w functions code fs n vs itself (HasCount count) (CallStore b store count)
        (λ ds. call_node w.request ds (built_in w.request store b ds))
        (λ ds. spends_call w.request ds (built_in w.request store b ds)) (λ k pc ds st p h.
        (λ i. (call_node w.request (taken ds st count (sym h) i) (built_in w.request store b (taken ds st count (sym h) i)) >>= λ d. Exec w functions code fs n vs k (pc + 1) (d ∷ left_over ds st count (sym h) i)) p))

    transact_does : (shapes : List _) (ce : Instructions) (me : Run (List Unchecked)) → PutsAll' values_of_all (AreFilled shapes) ce me
        → Puts' (ce ++ Transact shapes ∷ []) (me >>= λ us. charge (taking (values_of_all us)) >> issue_unless_fault (transact_op us))
    transact_does shapes = many_does w functions code fs n vs values_of_all (AreFilled shapes) (Transact shapes)
        (λ us. charge (taking (values_of_all us)) >> issue_unless_fault (transact_op us))
        (λ us. spends_charged (taking (values_of_all us)) (issue_unless_fault (transact_op us)) (spends_operation (transact_op us))) (λ k pc us st p h.
        let ds = values_of_all us in
        let top = taken ds st (all_taken shapes) h.count in
        (λ i. ((charge (taking (top i)) >> issue_unless_fault (transact_op (all_filled shapes (top i)))) >>= λ d. Exec w functions code fs n vs k (pc + 1) (d ∷ left_over ds st (all_taken shapes) h.count i)) p)
        ∙ ap (λ ss. ((charge (taking ds) >> issue_unless_fault (transact_op ss)) >>= λ d. Exec w functions code fs n vs k (pc + 1) (d ∷ st)) p) h.with)

    -- into a function of the program, and back
    enters : (f : List ℕ) (g : DeclaredFunction) (is : function_in w.program f ≡ Some g) (pc low : ℕ)
        (st ds : List Datum) → length ds ≡ length g.parameters → (deep : Bool) → (length fs == MOST_CALL_DEPTH) ≡ deep
        → (q : Progress) → Fine low q → MOST_STEPS < n + q.steps
        → Does (λ k. (if deep then fails TooDeep else exec w.request functions code k (record { place = pc; stack = st; slots = values vs } ∷ fs) (placed f g is).0 [] ds) q) (λ d r. Fine low r) (λ d r. here w functions code fs n vs pc (d ∷ st) r)
        ((if deep then fails TooDeep else (later (length fs + 1) (statements_of g.body) (bound g.parameters ds) >>= λ flow. give (value_of flow))) q)
    enters f g is pc low st ds long true h q fine left = leads_same _ _ (λ k. refl)
    enters f g is pc low st ds long false h q fine left =
        let frame : Frame = record { place = pc; stack = st; slots = values vs } in
        let us = bound g.parameters ds in
        let deeper : length (frame ∷ fs) ≡ length fs + 1 = omega arith in
        let body = bodies f g is (frame ∷ fs) us (names_bound g.parameters ds long) q fine.most left in
        does_then _ _ _ _ _ (later (length fs + 1) (statements_of g.body) us q) _
        (subst (λ o. Does (λ k. exec w.request functions code k (frame ∷ fs) (placed f g is).0 [] ds q) (Within q.steps) (λ flow r k. exec w.request functions code k fs pc (value_of flow ∷ st) (values vs) r) o) (ap (λ m. later m (statements_of g.body) us q) deeper)
        (does_from _ _ _ _ (later (length (frame ∷ fs)) (statements_of g.body) us q) (leads_same _ _ (λ k. ap (λ l. exec w.request functions code k (frame ∷ fs) (placed f g is).0 [] l q) (sym (values_bound g.parameters ds long)))) body))
        (λ flow r k. (lower q.steps low r fine.least k, leads_same _ _ (λ j. refl)))

    own_does : (f : List ℕ) (g : DeclaredFunction) (is : function_in w.program f ≡ Some g) (depth count : ℕ)
        → depth ≡ length fs → count ≡ length g.parameters
        → (store : List ℕ) (ce : Instructions) (me : Run (List Datum))
        → PutsAll' itself (HasCount count) ce me → Puts' (ce ++ Call (function_number w.program f) count ∷ []) (me >>= called w later depth (own g) store)
    own_does f g is depth count deep long store ce me ra pc st p has most left =
        let i = Call (function_number w.program f) count in
        let end : pc + length ce + 1 ≡ pc + length (ce ++ i ∷ []) = omega (arith, length-append ce (i ∷ [])) in
        does_then _ _ _ _ _ (me p) _ (ra pc st p (has_front code pc ce _ has) most left) (λ ds q f'.
        let frame : List Datum → Frame = λ rest. record { place = pc + length ce + 1; stack = rest; slots = values vs } in
        does_then _ _ _ _ _ (charge (taking ds) q) _
        (prim w.request functions code fs (pc + length ce) (onto ds st) (values vs) q 1 i
        (has_back code pc ce _ has).0 f'.0.most (charge (taking ds)) (spends_charge (taking ds))
        (λ _ r k. enter (exec w.request functions code k) fs (Some (placed f g is).0) (frame st) ds r)
        (λ k. (λ z. (charge (taking (taken ds st count (sym f'.1) z)) >> enter (exec w.request functions code k) fs ((placed f g is).1 z) (frame (left_over ds st count (sym f'.1) z)) (taken ds st count (sym f'.1) z)) q)))
        (λ _ r k. does_to _ _ _ _ _ (entered later depth g ds r)
        (subst (λ m. Does (λ k. enter (exec w.request functions code k) fs (Some (placed f g is).0) (frame st) ds r) (λ d s. Fine (1 + p.steps) s) (λ d s. here w functions code fs n vs (pc + length ce + 1) (d ∷ st) s) (entered later m g ds r)) (sym deep)
        (enters f g is (pc + length ce + 1) (1 + p.steps) st ds (f'.1 ∙ long) (length fs == MOST_CALL_DEPTH) refl r
        (lower _ _ r (omega (arith, f'.0.least)) k) (omega (arith, left, f'.0.least, k.least))))
        (λ d s h. (h, same_place w.request functions code fs (pc + length ce + 1) _ (d ∷ st) (values vs) s end))))

    -- ---- the whole of an expression

    module _ (depth : ℕ) (deep : depth ≡ length fs) where
      abbrev code_of : Expression → Instructions
      code_of = expression_code w.program (names vs)

      abbrev codes_of : Expressions → Instructions
      codes_of = expressions_code w.program (names vs)

      abbrev value : Expression → Run Datum
      value = eval w later depth vs

      abbrev all : Expressions → Run (List Datum)
      all = eval_all w later depth vs

      builtin_ways : (takes : Bool) (b : Builtin) → takes_store b ≡ takes → (es : Expressions) → PutsAll' itself (HasCount (how_many es)) (codes_of es) (all es)
          → ((e : Expression) (rest : Expressions) → es ≡ expression e rest
          → PutsAll' itself (HasCount (how_many rest)) (codes_of rest) (all rest)) → AreArguments w.program takes es
          → Puts' (arguments_code w.program (names vs) takes es ++ builtin_code takes b (store_name es) (how_many es) ∷ [])
          ((if takes then eval_others w later depth vs es else all es) >>= λ ds. call_node w.request ds (built_in w.request (store_name es) b ds))
      builtin_ways true b t no_expression ra rest s = absurd s
      builtin_ways true b t (expression e es) ra rest s =
          let others : how_many es ≡ how_many (expression e es) - 1 = omega arith in
          subst (λ k. Puts' (codes_of es ++ CallStore b (store_name (expression e es)) k ∷ [])
          (all es >>= λ ds. call_node w.request ds
          (built_in w.request (store_name (expression e es)) b ds))) others
          (store_does b (store_name (expression e es)) (how_many es) (codes_of es) (all es) (rest e es refl))
      builtin_ways false b t no_expression ra rest s =
          subst (λ m. Puts' (CallBuiltin b 0 ∷ []) m)
          (λ i. all no_expression >>= λ ds. call_node w.request ds (no_store w.request [] b ds t i))
          (builtin_does b 0 [] (all no_expression) ra)
      builtin_ways false b t (expression e es) ra rest s =
          subst (λ m. Puts' (codes_of (expression e es) ++ CallBuiltin b (how_many (expression e es)) ∷ []) m)
          (λ i. all (expression e es) >>= λ ds. call_node w.request ds
          (no_store w.request (store_name (expression e es)) b ds t i))
          (builtin_does b (how_many (expression e es)) (codes_of (expression e es)) (all (expression e es)) ra)

      -- arguments of a function of the program are all evaluated
      own_ways : (f : List ℕ) (g : DeclaredFunction) → function_in w.program f ≡ Some g → (es : Expressions)
          → how_many es ≡ length g.parameters → PutsAll' itself (HasCount (how_many es)) (codes_of es) (all es)
          → Puts' (arguments_code w.program (names vs) false es
          ++ Call (function_number w.program f) (how_many es) ∷ [])
          (all es >>= called w later depth (own g) (store_name es))
      own_ways f g is no_expression long ra = own_does f g is depth 0 deep long [] [] (all no_expression) ra
      own_ways f g is (expression e es) long ra =
          own_does f g is depth (how_many (expression e es)) deep long (store_name (expression e es))
          (codes_of (expression e es)) (all (expression e es)) ra

      call_ways : (f : List ℕ) (es : Expressions) (c : Callee) → TakesSoMany c (how_many es)
          → AreArguments w.program (names_store c) es
          → ((g : DeclaredFunction) → c ≡ own g → function_in w.program f ≡ Some g)
          → PutsAll' itself (HasCount (how_many es)) (codes_of es) (all es)
          → ((e : Expression) (rest : Expressions) → es ≡ expression e rest
          → PutsAll' itself (HasCount (how_many rest)) (codes_of rest) (all rest))
          → Puts' (arguments_code w.program (names vs) (names_store c) es ++ call_code w.program f (store_name es) (how_many es) c ∷ [])
          ((if names_store c then eval_others w later depth vs es else all es) >>= called w later depth c (store_name es))
      call_ways f es (own g) long s is ra rest = own_ways f g (is g refl) es long ra
      call_ways f es (built x) long s is ra rest = builtin_ways (takes_store x) x refl es ra rest s
      call_ways f es unknown long s is ra rest = absurd long

      -- a store's name is a variable's
      sound_arguments : (b : Bool) (e : Expression) (es : Expressions) → AreArguments w.program b (expression e es)
          → IsSound w.program e × AreSound w.program es
      sound_arguments false e es s = s
      sound_arguments true (variable at x) es s = (tt, s.1)
      sound_arguments true e es s = absurd s.0

      own_is : (o : Option DeclaredFunction) (b : Option Builtin) (g : DeclaredFunction) → callee o b ≡ own g → o ≡ Some g
      own_is (Some h) b g e = let same : h ≡ g = cc in ap Some same
      own_is None (Some b) g e = absurd cc
      own_is None None g e = absurd cc

      abbrev tests_code : Conditions → Instructions
      tests_code = conditions_code w.program (names vs)

      abbrev sets_code : Assignments → Instructions
      sets_code = assignments_code w.program (names vs)

      no_arguments : PutsAll' itself (HasCount 0) [] (give [])
      no_arguments = none_do w functions code fs n vs itself (HasCount 0) [] refl refl

      arguments : (e : Expression) (es : Expressions) → Puts' (code_of e) (value e) → PutsAll' itself (HasCount (how_many es)) (codes_of es) (all es)
          → PutsAll' itself (HasCount (how_many (expression e es))) (codes_of (expression e es)) (all (expression e es))
      arguments e es r rs =
          both_do w functions code fs n vs alone itself itself Anything (HasCount (how_many es))
          (HasCount (how_many (expression e es))) (code_of e) (codes_of es) (value e) (all es) (λ d ds. d ∷ ds)
          (λ d ds. refl) (λ d ds h k. ap (λ i. suc i) k)
          (alone_does w functions code fs n vs (code_of e) (value e) r) rs

      tests : (t : NumberedTable) (x : Name) (c : Comparison) (e : Expression) (cs : Conditions)
          → Puts' (code_of e) (value e) → PutsAll' tested (AreTests (tests_in t cs)) (tests_code cs)
          (tests_of w later depth vs t cs)
          → PutsAll' tested (AreTests (tests_in t (condition x c e cs))) (tests_code (condition x c e cs)) (tests_of w later depth vs t (condition x c e cs))
      tests t x c e cs r rs =
          both_do w functions code fs n vs alone tested tested Anything (AreTests (tests_in t cs))
          (AreTests (tests_in t (condition x c e cs))) (code_of e) (tests_code cs) (value e)
          (tests_of w later depth vs t cs)
          (λ d ts. record { column = column_in t x; comparison = c; value = d } ∷ ts) (λ d ts. refl)
          (λ d ts h k. more_tests (record { column = column_in t x; comparison = c }) (tests_in t cs) d ts k)
          (alone_does w functions code fs n vs (code_of e) (value e) r) rs

      sets : (t : NumberedTable) (x : Name) (e : Expression) (as' : Assignments) → Puts' (code_of e) (value e)
          → PutsAll' changed (AreChanges (changes_in t as')) (sets_code as') (changes_of w later depth vs t as')
          → PutsAll' changed (AreChanges (changes_in t (assignment x e as'))) (sets_code (assignment x e as'))
          (changes_of w later depth vs t (assignment x e as'))
      sets t x e as' r rs =
          both_do w functions code fs n vs alone changed changed Anything (AreChanges (changes_in t as'))
          (AreChanges (changes_in t (assignment x e as'))) (code_of e) (sets_code as') (value e)
          (changes_of w later depth vs t as')
          (λ d cs. record { column = column_in t x; value = d } ∷ cs) (λ d cs. refl) (λ d cs h k. more_changes (column_in t x) (changes_in t as') d cs k)
          (alone_does w functions code fs n vs (code_of e) (value e) r) rs

      mutual
        pub expression_does : (e : Expression) → IsSound w.program e → Puts' (code_of e) (value e)
        expression_does (number at z) s = push_does w functions code fs n vs (v.number z)
        expression_does (text at bytes) s = push_does w functions code fs n vs (v.text bytes)
        expression_does (truth at b) s = push_does w functions code fs n vs (v.bool b)
        expression_does (null at) s = push_does w functions code fs n vs v.null
        expression_does (bracket at e) s = expression_does e s
        expression_does (variable at x) s = load_does w functions code fs n vs x
        expression_does (unary at op e) s =
            one_does w functions code fs n vs (Unary op) (λ x. node (x ∷ []) (unary_answer op x))
            (λ x. spends_node (x ∷ []) (unary_answer op x)) (λ k pc x st p. refl) (code_of e) (value e)
            (expression_does e s)
        expression_does (binary at op a b) s =
            two_does w functions code fs n vs (Binary op) (λ x y. node (x ∷ y ∷ []) (binary_answer op x y))
            (λ x y. spends_node (x ∷ y ∷ []) (binary_answer op x y)) (λ k pc x y st p. refl) (code_of a)
            (code_of b) (value a) (value b)
            (expression_does a s.0) (expression_does b s.1)
        expression_does (and_ at a b) s = and_does w functions code fs n vs (code_of a) (code_of b) (value a)
            (value b) (expression_does a s.0) (expression_does b s.1)
        expression_does (or_ at a b) s = or_does w functions code fs n vs (code_of a) (code_of b) (value a) (value b)
            (expression_does a s.0) (expression_does b s.1)
        expression_does (index at a b) s =
            two_does w functions code fs n vs Index (λ x y. node (x ∷ y ∷ []) (indexed x y))
            (λ x y. spends_node (x ∷ y ∷ []) (indexed x y)) (λ k pc x y st p. refl) (code_of a) (code_of b)
            (value a) (value b)
            (expression_does a s.0) (expression_does b s.1)
        expression_does (list at es) s = list_does (how_many es) (codes_of es) (all es) (all_do es s)
        expression_does (call at f no_expression) s =
            call_ways f no_expression (callee_in w.program f) s.0 s.1
            (λ g e. own_is (function_in w.program f) (builtin_of w.program.version f) g e) no_arguments
            (λ e rest h. absurd cc)
        expression_does (call at f (expression e es)) s =
            let sound = sound_arguments (names_store (callee_in w.program f)) e es s.1 in
            let others = all_do es sound.1 in
            call_ways f (expression e es) (callee_in w.program f)
            (subst (λ k. TakesSoMany (callee_in w.program f) k) (same_count (expression e es)) s.0) s.1
            (λ g h. own_is (function_in w.program f) (builtin_of w.program.version f) g h)
            (arguments e es (expression_does e sound.0) others) (λ x rest h. let same : es ≡ rest = cc in subst (λ r. PutsAll' itself (HasCount (how_many r)) (codes_of r) (all r)) same others)
        expression_does (transact at qs) s = transact_does (shapes_of w.program qs)
            (queries_code w.program (names vs) qs) (operands_of_all w later depth vs qs) (queries_do qs s.1)

        all_do : (es : Expressions) → AreSound w.program es → PutsAll' itself (HasCount (how_many es)) (codes_of es) (all es)
        all_do no_expression s = no_arguments
        all_do (expression e es) s = arguments e es (expression_does e s.0) (all_do es s.1)

        tests_do : (t : NumberedTable) (columns : List Name) (cs : Conditions) → AreSoundTests w.program columns cs
            → PutsAll' tested (AreTests (tests_in t cs)) (tests_code cs) (tests_of w later depth vs t cs)
        tests_do t columns no_condition s = none_do w functions code fs n vs tested (AreTests []) [] refl no_tests
        tests_do t columns (condition x c e cs) s = tests t x c e cs (expression_does e s.1) (tests_do t columns cs s.2)

        sets_do : (t : NumberedTable) (columns : List Name) (as' : Assignments) → AreSoundSets w.program columns as'
            → PutsAll' changed (AreChanges (changes_in t as')) (sets_code as') (changes_of w later depth vs t as')
        sets_do t columns no_assignment s = none_do w functions code fs n vs changed (AreChanges []) [] refl no_changes
        sets_do t columns (assignment x e as') s = sets t x e as' (expression_does e s.2) (sets_do t columns as' s.3)

        query_does : (q : Query) → IsSoundQuery w.program q
            → PutsAll' values_of (IsFilled (shape_of w.program q)) (query_code w.program (names vs) q)
            (operands_of w later depth vs q)
        query_does (insert at t es) s =
            map_does w functions code fs n vs itself values_of (HasCount (how_many es))
            (IsFilled (shape_of w.program (insert at t es))) (codes_of es) (all es)
            (u.insert (table_in w.program t).number) (λ ds. refl)
            (λ ds h. inserts (table_in w.program t).number (how_many es) ds h) (all_do es s.1)
        query_does (select at columns t cs) s =
            let table = table_in w.program t in
            map_does w functions code fs n vs tested values_of (AreTests (tests_in table cs))
            (IsFilled (shape_of w.program (select at columns t cs))) (tests_code cs)
            (tests_of w later depth vs table cs)
            (u.select table.number (map (column_in table) columns)) (λ ts. refl)
            (λ ts h. selects table.number (map (column_in table) columns) (tests_in table cs) ts h)
            (tests_do table s.1.0.columns cs s.1.2.1)
        query_does (update at t as' cs) s =
            let table = table_in w.program t in
            both_do w functions code fs n vs changed tested values_of (AreChanges (changes_in table as'))
            (AreTests (tests_in table cs)) (IsFilled (shape_of w.program (update at t as' cs))) (sets_code as')
            (tests_code cs)
            (changes_of w later depth vs table as') (tests_of w later depth vs table cs) (λ changes ts. u.update table.number changes ts) (λ changes ts. refl)
            (λ changes ts h k. updates table.number (changes_in table as') (tests_in table cs) changes ts h k)
            (sets_do table s.1.0.columns as' s.1.2.0) (tests_do table s.1.0.columns cs s.1.2.1)
        query_does (delete at t cs) s =
            let table = table_in w.program t in
            map_does w functions code fs n vs tested values_of (AreTests (tests_in table cs))
            (IsFilled (shape_of w.program (delete at t cs))) (tests_code cs) (tests_of w later depth vs table cs)
            (u.delete table.number) (λ ts. refl)
            (λ ts h. deletes table.number (tests_in table cs) ts h) (tests_do table s.0.columns cs s.2)
        query_does (expect at e t cs) s =
            let table = table_in w.program t in
            both_do w functions code fs n vs alone tested values_of Anything (AreTests (tests_in table cs))
            (IsFilled (shape_of w.program (expect at e t cs))) (code_of e) (tests_code cs) (value e)
            (tests_of w later depth vs table cs)
            (λ d ts. u.expect d table.number ts) (λ d ts. refl)
            (λ d ts h k. expects table.number (tests_in table cs) d ts k)
            (alone_does w functions code fs n vs (code_of e) (value e) (expression_does e s.0))
            (tests_do table s.1.0.columns cs s.1.2)

        queries_do : (qs : Queries) → AreSoundQueries w.program qs
            → PutsAll' values_of_all (AreFilled (shapes_of w.program qs)) (queries_code w.program (names vs) qs)
            (operands_of_all w later depth vs qs)
        queries_do no_query s = none_do w functions code fs n vs values_of_all (AreFilled []) [] refl none_filled
        queries_do (query q qs) s =
            both_do w functions code fs n vs values_of values_of_all values_of_all (IsFilled (shape_of w.program q))
            (AreFilled (shapes_of w.program qs)) (AreFilled (shapes_of w.program (query q qs)))
            (query_code w.program (names vs) q) (queries_code w.program (names vs) qs)
            (operands_of w later depth vs q) (operands_of_all w later depth vs qs) (λ d ds. d ∷ ds) (λ d ds. refl)
            (λ d ds h k. more_filled (shape_of w.program q) (shapes_of w.program qs) d ds h k) (query_does q s.0)
            (queries_do qs s.1)
