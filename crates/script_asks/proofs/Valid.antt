-- A tree without faults is sound.
use Rattle.std.proofs.Common.{◌≡◌, ℕ, ◌+◌, Bool, true, false, cond, List, [], ◌∷◌, ◌++◌, length, Option, Some, None, refl, sym, ap, subst, ◌∙◌, arith, ◌≢◌, ◌≤◌}
use Rattle.std.specs.Prelude.{nat_le, not, is_some, ◌||◌, ◌==◌}
use Rattle.std.specs.Option.{option_map}
use Rattle.std.specs.Str.{bytes_eq}
use Rattle.std.proofs.lemmas.Slice.Eq.{bytes_eq-Decides}
use Rattle.basis.proofs.Options.{some_is, none_is_not}
use Rattle.script_tree.specs.Builtins.{builtin_of}
use Rattle.script_tree.specs.Declarations.{NumberedTable, NumberedPage, DeclaredFunction, table_from, function_from, page_from, callee}
use Rattle.script_tree.specs.Fit.{declares_store}
use Rattle.script_tree.specs.Programs.{Program}
use Rattle.script_tree.specs.Syntax.{Expression, number, text, truth, null, bracket, variable, call, list, transact, unary, binary, and_, or_, index, Expressions, no_expression, expression, Query, insert, select, update, delete, expect, Queries, no_query, query, Conditions, no_condition, condition, Assignments, no_assignment, assignment, Statement, let_, set_, if_, while_, for_, echo, status, return, do_, Else, no_else, else_, Statements, no_statement, statement}
use Rattle.script_tree.specs.SyntaxLists.{statements_of}
use Rattle.script_tree.specs.declared.limits.TheConstants.{MOST_LITERAL_BYTES}
use Rattle.script_tree.specs.declared.syntax.name.Name.{Name}
use Rattle.script_tree.specs.declared.syntax.builtin.Builtin.{Builtin}
use Rattle.script_tree.specs.declared.syntax.builtin.Builtin.TheVariants.{Get, Put, Remove}
use Rattle.script_tree.specs.declared.syntax.declaration.Declaration.{Declaration}
use Rattle.script_tree.specs.declared.syntax.tree.Version.{Version}
use Rattle.script_tree.specs.declared.syntax.declaration.Declaration.TheVariants.{Store, Table, Function, Page}
use Rattle.script_check.specs.declared.fault.CheckFaultKind.{CheckFaultKind}
use Rattle.script_check.specs.declared.fault.CheckFaultKind.TheVariants.{Undeclared, DeclaredTwice, WrongCount, Unknown, KeyWritten, PageTwice}
use Rattle.script_check.specs.Validity.{fault, fault_unless, has, texts, how_many, call_faults, names_store as store_first, store_faults, columns_in, is_key, table_faults, row_faults, column_faults, columns_faults, set_faults, expression_faults, expressions_faults, arguments_faults, query_faults, queries_faults, conditions_faults, assignments_faults, known_after, statement_faults, else_faults, statements_faults, block_faults, with_name, with_names, are_some, is_some_name, is_some_set, names_function, declaration_faults, declared_in_turn, in_turn, IsValid}
use Rattle.script_meaning.specs.Evaluate.{names_store}
use Rattle.script_asks.proofs.Sound.{AreColumns, TakesSoMany, IsKnown, IsStoreName, IsSound, AreSound, AreArguments, IsSoundQuery, AreSoundQueries, AreSoundTests, AreSoundSets, IsSoundStatement, IsSoundElse, AreSoundStatements, AreSoundBodies}

no_first : {A : Type 0} (xs ys : List A) → xs ++ ys ≡ [] → xs ≡ []
no_first [] ys e = refl
no_first (x ∷ xs) ys e = absurd cc

no_second : {A : Type 0} (xs ys : List A) → xs ++ ys ≡ [] → ys ≡ []
no_second [] ys e = e
no_second (x ∷ xs) ys e = absurd cc

none_of_three : {A : Type 0} (xs ys zs : List A) → xs ++ ys ++ zs ≡ [] → (xs ≡ []) × (ys ≡ []) × (zs ≡ [])
none_of_three xs ys zs e =
    let f : xs ++ ys ≡ [] = no_first (xs ++ ys) zs e in
    (no_first xs ys f, no_second xs ys f, no_second (xs ++ ys) zs e)

none_of_four : {A : Type 0} (ws xs ys zs : List A) → ws ++ xs ++ ys ++ zs ≡ [] → (ws ≡ []) × (xs ≡ []) × (ys ≡ []) × (zs ≡ [])
none_of_four ws xs ys zs e =
    let f = none_of_three ws xs ys (no_first (ws ++ xs ++ ys) zs e) in
    (f.0, f.1, f.2, no_second (ws ++ xs ++ ys) zs e)

holds : (b : Bool) (at : ℕ) (kind : CheckFaultKind) → fault_unless b at kind ≡ [] → b ≡ true
holds true at kind e = refl
holds false at kind e = absurd cc

no_fault : (at : ℕ) (kind : CheckFaultKind) → fault at kind ≡ [] → ⊥
no_fault at kind e = cc

not_false : (b : Bool) → not b ≡ true → b ≡ false
not_false true e = absurd cc
not_false false e = refl

eq_count : (a b : ℕ) → (a == b) ≡ true → a ≡ b
eq_count a b e = grind arith

le_of : (a b : ℕ) → nat_le a b ≡ true → a ≤ b
le_of a b e = grind arith

some_of_queries : (qs : Queries) (at : ℕ) → fault_unless (are_some qs) at WrongCount ≡ [] → qs ≢ no_query
some_of_queries no_query at e = absurd cc
some_of_queries (query q qs) at e = λ h. cc

some_of_names : (xs : List Name) (at : ℕ) → fault_unless (is_some_name xs) at WrongCount ≡ [] → xs ≢ []
some_of_names [] at e = absurd cc
some_of_names (x ∷ xs) at e = λ h. cc

some_of_sets : (sets : Assignments) (at : ℕ) → fault_unless (is_some_set sets) at WrongCount ≡ [] → sets ≢ no_assignment
some_of_sets no_assignment at e = absurd cc
some_of_sets (assignment x v sets) at e = λ h. cc

-- no function of the program has the name of a built-in one
abbrev KeepsNames : Version → List Declaration → Type 0
KeepsNames version ds = (f : List ℕ) (b : Builtin) → builtin_of version f ≡ Some b → function_from f ds ≡ None

module _ (program : Program) (names : KeepsNames program.version program.declarations) where
  abbrev ds : List Declaration
  ds = program.declarations

  same_first : (f : List ℕ) (b : Option Builtin) → builtin_of program.version f ≡ b → names_store (callee (function_from f ds) b) ≡ store_first b
  same_first f (Some b) e = ap (λ o. names_store (callee o (Some b))) (names f b e)
  same_first f None e = by (function_from f ds)
    where
      by : (o : Option DeclaredFunction) → names_store (callee o None) ≡ false
      by None = refl
      by (Some g) = refl

  -- a function that takes a store has arguments
  first_there : (f : List ℕ) (at : ℕ) (b : Option Builtin) (o : Option DeclaredFunction) → call_faults at 0 b o ≡ [] → store_first b ≡ true → ⊥
  first_there f at None o e s = cc
  first_there f at (Some Get) o e s = absurd cc
  first_there f at (Some Put) o e s = absurd cc
  first_there f at (Some Remove) o e s = absurd cc
  first_there f at (Some b) o e s = cc

  called_right : (f : List ℕ) (count at : ℕ) (b : Option Builtin) → builtin_of program.version f ≡ b
      → (o : Option DeclaredFunction) → function_from f ds ≡ o → call_faults at count b o ≡ []
      → TakesSoMany (callee o b) count
  called_right f count at (Some b) e None there a = tt
  called_right f count at (Some b) e (Some g) there a = absurd (none_is_not (sym (names f b e) ∙ there))
  called_right f count at None e (Some g) there a = eq_count count (length g.parameters) (holds (count == length g.parameters) at WrongCount a)
  called_right f count at None e None there a = absurd (no_fault at Undeclared a)

  store_named : (e : Expression) → store_faults program e ≡ [] → IsStoreName program e
  store_named (variable at x) f = holds (declares_store ds x) at Unknown f
  store_named e f = absurd cc

  -- ---- tables

  -- what the columns of an undeclared table are looked at for
  columns_of : (t : List ℕ) → Option (List Name)
  columns_of t = columns_in ds t

  known : (t : Name) (Holds : List Name → Type 0) → table_faults (columns_in ds t.text) t ≡ []
      → ((columns : List Name) → columns_in ds t.text ≡ Some columns → Holds columns)
      → IsKnown program t Holds
  known t Holds f h = by (table_from 0 t.text ds) refl
    where
      by : (o : Option NumberedTable) → table_from 0 t.text ds ≡ o → IsKnown program t Holds
      by (Some n) e = (n, e, h n.columns (ap (option_map (λ table. table.columns)) e))
      by None e = absurd (no_fault t.at Unknown (subst (λ o. table_faults (option_map (λ table. table.columns) o) t ≡ []) e f))

  row_right : (columns : List Name) (t : Name) (count : ℕ) (o : Option (List Name)) → o ≡ Some columns → row_faults o t count ≡ [] → count ≡ length columns
  row_right columns t count (Some cs) e f = eq_count count (length cs) (holds (count == length cs) t.at WrongCount f) ∙ ap length (some_is e)
  row_right columns t count None e f = absurd (none_is_not e)

  column_right : (columns : List Name) (x : Name) (o : Option (List Name)) → o ≡ Some columns → column_faults o x ≡ [] → has (texts columns) x.text ≡ true
  column_right columns x (Some cs) e f = ap (λ c. has (texts c) x.text) (sym (some_is e)) ∙ holds (has (texts cs) x.text) x.at Unknown f
  column_right columns x None e f = absurd (none_is_not e)

  columns_right : (columns : List Name) (xs : List Name) (o : Option (List Name)) → o ≡ Some columns → columns_faults o xs ≡ [] → AreColumns columns xs
  columns_right columns [] o e f = tt
  columns_right columns (x ∷ xs) o e f = (
    column_right columns x o e (no_first (column_faults o x) (columns_faults o xs) f),
    columns_right columns xs o e (no_second (column_faults o x) (columns_faults o xs) f),
  )

  set_right : (columns : List Name) (x : Name) (o : Option (List Name)) → o ≡ Some columns → set_faults o x ≡ []
      → (has (texts columns) x.text ≡ true) × (is_key columns x.text ≡ false)
  set_right columns x (Some cs) e f =
      let a = no_first (fault_unless (has (texts cs) x.text) x.at Unknown) (fault_unless (not (is_key cs x.text)) x.at KeyWritten) f in
      let b = no_second (fault_unless (has (texts cs) x.text) x.at Unknown) (fault_unless (not (is_key cs x.text)) x.at KeyWritten) f in (
        ap (λ c. has (texts c) x.text) (sym (some_is e)) ∙ holds (has (texts cs) x.text) x.at Unknown a,
        ap (λ c. is_key c x.text) (sym (some_is e)) ∙ not_false (is_key cs x.text) (holds (not (is_key cs x.text)) x.at KeyWritten b),
      )
  set_right columns x None e f = absurd (none_is_not e)

  -- ---- expressions

  mutual
    sound : (vs : List (List ℕ)) (e : Expression) → expression_faults program vs e ≡ [] → IsSound program e
    sound vs (number at n) f = tt
    sound vs (text at bytes) f = le_of (length bytes) MOST_LITERAL_BYTES (holds (nat_le (length bytes) MOST_LITERAL_BYTES) at WrongCount f)
    sound vs (truth at b) f = tt
    sound vs (null at) f = tt
    sound vs (bracket at e) f = sound vs e f
    sound vs (variable at x) f = tt
    sound vs (call at g es) f =
        let a = no_first (call_faults at (how_many es) (builtin_of program.version g) (function_from g ds)) (arguments_faults program vs (store_first (builtin_of program.version g)) es) f in
        let b = no_second (call_faults at (how_many es) (builtin_of program.version g) (function_from g ds)) (arguments_faults program vs (store_first (builtin_of program.version g)) es) f in (
          called_right g (how_many es) at (builtin_of program.version g) refl (function_from g ds) refl a,
          subst (λ c. AreArguments program c es) (sym (same_first g (builtin_of program.version g) refl))
              (sound_arguments vs g at (store_first (builtin_of program.version g)) refl es a b),
        )
    sound vs (list at es) f = sound_all vs es f
    sound vs (transact at qs) f = (
      some_of_queries qs at
          (no_first (fault_unless (are_some qs) at WrongCount) (queries_faults program vs qs) f),
      sound_queries vs qs (no_second (fault_unless (are_some qs) at WrongCount) (queries_faults program vs qs) f),
    )
    sound vs (unary at op e) f = sound vs e f
    sound vs (binary at op a b) f = (sound vs a (no_first (expression_faults program vs a) _ f), sound vs b (no_second (expression_faults program vs a) _ f))
    sound vs (and_ at a b) f = (sound vs a (no_first (expression_faults program vs a) _ f), sound vs b (no_second (expression_faults program vs a) _ f))
    sound vs (or_ at a b) f = (sound vs a (no_first (expression_faults program vs a) _ f), sound vs b (no_second (expression_faults program vs a) _ f))
    sound vs (index at a b) f = (sound vs a (no_first (expression_faults program vs a) _ f), sound vs b (no_second (expression_faults program vs a) _ f))

    sound_all : (vs : List (List ℕ)) (es : Expressions) → expressions_faults program vs es ≡ [] → AreSound program es
    sound_all vs no_expression f = tt
    sound_all vs (expression e es) f = (
      sound vs e (no_first (expression_faults program vs e) _ f),
      sound_all vs es (no_second (expression_faults program vs e) _ f),
    )

    sound_arguments : (vs : List (List ℕ)) (g : List ℕ) (at : ℕ) (b : Bool) → store_first (builtin_of program.version g) ≡ b → (es : Expressions)
        → call_faults at (how_many es) (builtin_of program.version g) (function_from g ds) ≡ []
        → arguments_faults program vs b es ≡ [] → AreArguments program b es
    sound_arguments vs g at true s no_expression a f = first_there g at (builtin_of program.version g) (function_from g ds) a s
    sound_arguments vs g at false s no_expression a f = tt
    sound_arguments vs g at true s (expression e es) a f = (
      store_named e (no_first (store_faults program e) _ f),
      sound_all vs es (no_second (store_faults program e) _ f),
    )
    sound_arguments vs g at false s (expression e es) a f = (
      sound vs e (no_first (expression_faults program vs e) _ f),
      sound_all vs es (no_second (expression_faults program vs e) _ f),
    )

    sound_query : (vs : List (List ℕ)) (q : Query) → query_faults program vs q ≡ [] → IsSoundQuery program q
    sound_query vs (insert at t es) f =
        let table = columns_in ds t.text in
        let no = none_of_three (table_faults table t) (row_faults table t (how_many es)) (expressions_faults program vs es) f in
        (known t (λ columns. how_many es ≡ length columns) no.0 (λ columns e. row_right columns t (how_many es) table e no.1), sound_all vs es no.2)
    sound_query vs (select at xs t cs) f =
        let table = columns_in ds t.text in
        let no = none_of_four (fault_unless (is_some_name xs) at WrongCount) (columns_faults table xs) (table_faults table t) (conditions_faults program vs table cs) f in (
          some_of_names xs at no.0,
          known t (λ columns. AreColumns columns xs × AreSoundTests program columns cs) no.2 (λ columns e.
              (columns_right columns xs table e no.1, sound_tests vs columns table e cs no.3)),
        )
    sound_query vs (update at t sets cs) f =
        let table = columns_in ds t.text in
        let no = none_of_four (fault_unless (is_some_set sets) at WrongCount) (table_faults table t) (assignments_faults program vs table sets) (conditions_faults program vs table cs) f in (
          some_of_sets sets at no.0,
          known t (λ columns. AreSoundSets program columns sets × AreSoundTests program columns cs) no.1 (λ columns e.
              (sound_sets vs columns table e sets no.2, sound_tests vs columns table e cs no.3)),
        )
    sound_query vs (delete at t cs) f =
        let table = columns_in ds t.text in
        known t (λ columns. AreSoundTests program columns cs) (no_first (table_faults table t) _ f)
        (λ columns e. sound_tests vs columns table e cs (no_second (table_faults table t) _ f))
    sound_query vs (expect at n t cs) f =
        let table = columns_in ds t.text in
        let no = none_of_three (expression_faults program vs n) (table_faults table t) (conditions_faults program vs table cs) f in
        (sound vs n no.0, known t (λ columns. AreSoundTests program columns cs) no.1 (λ columns e. sound_tests vs columns table e cs no.2))

    sound_queries : (vs : List (List ℕ)) (qs : Queries) → queries_faults program vs qs ≡ [] → AreSoundQueries program qs
    sound_queries vs no_query f = tt
    sound_queries vs (query q qs) f = (
      sound_query vs q (no_first (query_faults program vs q) _ f),
      sound_queries vs qs (no_second (query_faults program vs q) _ f),
    )

    sound_tests : (vs : List (List ℕ)) (columns : List Name) (o : Option (List Name)) → o ≡ Some columns
        → (cs : Conditions) → conditions_faults program vs o cs ≡ []
        → AreSoundTests program columns cs
    sound_tests vs columns o e no_condition f = tt
    sound_tests vs columns o e (condition x c v cs) f =
        let no = none_of_three (column_faults o x) (expression_faults program vs v) (conditions_faults program vs o cs) f in
        (column_right columns x o e no.0, sound vs v no.1, sound_tests vs columns o e cs no.2)

    sound_sets : (vs : List (List ℕ)) (columns : List Name) (o : Option (List Name)) → o ≡ Some columns
        → (sets : Assignments) → assignments_faults program vs o sets ≡ []
        → AreSoundSets program columns sets
    sound_sets vs columns o e no_assignment f = tt
    sound_sets vs columns o e (assignment x v sets) f =
        let no = none_of_three (set_faults o x) (expression_faults program vs v) (assignments_faults program vs o sets) f in
        let here = set_right columns x o e no.0 in
        (here.0, here.1, sound vs v no.1, sound_sets vs columns o e sets no.2)

  -- ---- statements

  mutual
    sound_statement : (vs : List (List ℕ)) (s : Statement) → statement_faults program vs s ≡ [] → IsSoundStatement program s
    sound_statement vs (let_ at x e) f = sound vs e (no_second (fault_unless _ _ _) (expression_faults program vs e) f)
    sound_statement vs (set_ at x e) f = sound vs e (no_second (fault_unless _ _ _) (expression_faults program vs e) f)
    sound_statement vs (if_ at e body other) f =
        let no = none_of_three (expression_faults program vs e) (statements_faults program vs body) (else_faults program vs other) f in
        (sound vs e no.0, sound_statements vs body no.1, sound_else vs other no.2)
    sound_statement vs (while_ at e body) f = (
      sound vs e (no_first (expression_faults program vs e) _ f),
      sound_statements vs body (no_second (expression_faults program vs e) _ f),
    )
    sound_statement vs (for_ at x e body) f =
        let no = none_of_three (fault_unless _ _ _) (expression_faults program vs e) (statements_faults program (with_name vs x.text) body) f in
        (sound vs e no.1, sound_statements (with_name vs x.text) body no.2)
    sound_statement vs (echo at e) f = sound vs e f
    sound_statement vs (status at e) f = sound vs e f
    sound_statement vs (return at e) f = sound vs e f
    sound_statement vs (do_ at e) f = sound vs e f

    sound_else : (vs : List (List ℕ)) (other : Else) → else_faults program vs other ≡ [] → IsSoundElse program other
    sound_else vs no_else f = tt
    sound_else vs (else_ body) f = sound_statements vs body f

    sound_statements : (vs : List (List ℕ)) (ss : Statements) → statements_faults program vs ss ≡ [] → AreSoundStatements program ss
    sound_statements vs no_statement f = tt
    sound_statements vs (statement s ss) f = (
      sound_statement vs s (no_first (statement_faults program vs s) _ f),
      sound_statements (known_after vs s) ss (no_second (statement_faults program vs s) _ f),
    )

-- ---- declarations

-- each later declaration has no fault after those before it
abbrev HaveNone : (program : Program) (earlier later : List Declaration) → Type 0
HaveNone program earlier [] = Unit {0}
HaveNone program earlier (d ∷ ds) = (declaration_faults program earlier d ≡ []) × HaveNone program (earlier ++ d ∷ []) ds

have_none : (program : Program) (earlier later : List Declaration) → in_turn (declaration_faults program) earlier later ≡ [] → HaveNone program earlier later
have_none program earlier [] f = tt
have_none program earlier (d ∷ ds) f = (
  no_first (declaration_faults program earlier d) _ f,
  have_none program (earlier ++ d ∷ []) ds (no_second (declaration_faults program earlier d) _ f),
)

same_text : (a b : List ℕ) → bytes_eq a b ≡ true → a ≡ b
same_text a b e = (bytes_eq-Decides a b).0 e

no_builtin : (version : Version) (earlier : List Declaration) (f : List ℕ) → names_function version earlier f ≡ false → builtin_of version f ≡ None
no_builtin version earlier f e = by (builtin_of version f) e
  where
    by : (o : Option Builtin) → (is_some o || is_some (function_from f earlier)) ≡ false → o ≡ None
    by None h = refl
    by (Some b) h = absurd cc

names_kept : (program : Program) (earlier later : List Declaration) → HaveNone program earlier later → KeepsNames program.version later
names_kept program earlier [] h f b e = refl
names_kept program earlier (Store at name ∷ ds) h f b e = names_kept program (earlier ++ Store at name ∷ []) ds h.1 f b e
names_kept program earlier (Table at name columns ∷ ds) h f b e = names_kept program (earlier ++ Table at name columns ∷ []) ds h.1 f b e
names_kept program earlier (Page at path body ∷ ds) h f b e = names_kept program (earlier ++ Page at path body ∷ []) ds h.1 f b e
names_kept program earlier (Function at name parameters body ∷ ds) h f b e =
    by (bytes_eq f name.text) refl (names_kept program (earlier ++ Function at name parameters body ∷ []) ds h.1 f b e)
  where
    other : builtin_of program.version name.text ≡ None
    other = no_builtin program.version earlier name.text
        (not_false (names_function program.version earlier name.text)
        (holds (not (names_function program.version earlier name.text)) name.at DeclaredTwice
        (none_of_three (fault_unless (not (names_function program.version earlier name.text)) name.at DeclaredTwice)
        (declared_in_turn [] parameters) (block_faults program (with_names [] parameters) body) h.0).0))

    by : (c : Bool) → bytes_eq f name.text ≡ c → function_from f ds ≡ None
        → cond c (Some (record { parameters = parameters; body = body })) (function_from f ds) ≡ None
    by true p ih = absurd (none_is_not (sym other ∙ ap (builtin_of program.version) (sym (same_text f name.text p)) ∙ e))
    by false p ih = ih

module _ (program : Program) (names : KeepsNames program.version program.declarations) where
  bodies_from : (earlier later : List Declaration) → HaveNone program earlier later
      → (f : List ℕ) (g : DeclaredFunction) → function_from f later ≡ Some g → AreSoundStatements program (statements_of g.body)
  bodies_from earlier [] h f g e = absurd (none_is_not e)
  bodies_from earlier (Store at name ∷ ds) h f g e = bodies_from (earlier ++ Store at name ∷ []) ds h.1 f g e
  bodies_from earlier (Table at name columns ∷ ds) h f g e = bodies_from (earlier ++ Table at name columns ∷ []) ds h.1 f g e
  bodies_from earlier (Page at path body ∷ ds) h f g e = bodies_from (earlier ++ Page at path body ∷ []) ds h.1 f g e
  bodies_from earlier (Function at name parameters body ∷ ds) h f g e =
      by (bytes_eq f name.text) e (λ r. bodies_from (earlier ++ Function at name parameters body ∷ []) ds h.1 f g r)
    where
      here : AreSoundStatements program (statements_of body)
      here = sound_statements program names (with_names [] parameters) (statements_of body)
          (none_of_three (fault_unless (not (names_function program.version earlier name.text)) name.at DeclaredTwice)
          (declared_in_turn [] parameters) (block_faults program (with_names [] parameters) body) h.0).2

      by : (c : Bool) → cond c (Some (record { parameters = parameters; body = body })) (function_from f ds) ≡ Some g
          → (function_from f ds ≡ Some g → AreSoundStatements program (statements_of g.body)) → AreSoundStatements program (statements_of g.body)
      by true r more = subst (λ x. AreSoundStatements program (statements_of x.body)) (some_is r) here
      by false r more = more r

  pages_from : (k : ℕ) (earlier later : List Declaration) → HaveNone program earlier later
      → (path : List ℕ) (page : NumberedPage) → page_from k path later ≡ Some page → AreSoundStatements program (statements_of page.body)
  pages_from k earlier [] h path page e = absurd (none_is_not e)
  pages_from k earlier (Store at name ∷ ds) h path page e = pages_from k (earlier ++ Store at name ∷ []) ds h.1 path page e
  pages_from k earlier (Table at name columns ∷ ds) h path page e = pages_from k (earlier ++ Table at name columns ∷ []) ds h.1 path page e
  pages_from k earlier (Function at name parameters body ∷ ds) h path page e =
      pages_from k (earlier ++ Function at name parameters body ∷ []) ds h.1 path page e
  pages_from k earlier (Page at name body ∷ ds) h path page e =
      by (bytes_eq path name.text) e (λ r. pages_from (k + 1) (earlier ++ Page at name body ∷ []) ds h.1 path page r)
    where
      here : AreSoundStatements program (statements_of body)
      here = sound_statements program names [] (statements_of body)
          (no_second (fault_unless (not (is_some (page_from 0 name.text earlier))) name.at PageTwice) _ h.0)

      by : (c : Bool) → cond c (Some (record { number = k; body = body })) (page_from (k + 1) path ds) ≡ Some page
          → (page_from (k + 1) path ds ≡ Some page → AreSoundStatements program (statements_of page.body))
          → AreSoundStatements program (statements_of page.body)
      by true r more = subst (λ x. AreSoundStatements program (statements_of x.body)) (some_is r) here
      by false r more = more r

module _ (program : Program) (valid : IsValid program) where
  none_has : HaveNone program [] program.declarations
  none_has = have_none program [] program.declarations valid

  keeps : KeepsNames program.version program.declarations
  keeps = names_kept program [] program.declarations none_has

  pub bodies_sound : AreSoundBodies program
  bodies_sound = bodies_from program keeps [] program.declarations none_has

  pub page_sound : (path : List ℕ) (page : NumberedPage) → page_from 0 path program.declarations ≡ Some page
      → AreSoundStatements program (statements_of page.body)
  page_sound = pages_from program keeps 0 [] program.declarations none_has
