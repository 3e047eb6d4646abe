-- Facts on the lists of a tree.
use Rattle.std.proofs.Common.{◌≡◌, ℕ, zero, suc, ◌<◌, ◌≤◌, ◌-◌, List, [], ◌∷◌, ◌++◌, length, take, drop, get_or, map, true, Option, refl, sym, ap, ◌∙◌, arith, take_all}
use Rattle.std.specs.Option.{option_copied}
use denote.Ref.{Bor}
use Rattle.script_tree.specs.declared.syntax.name.Name.{Name}
use Rattle.script_tree.specs.ExpressionView.{condition_of, assignment_of}
use Rattle.script_tree.specs.ExpressionWeight.{expression_weight, expressions_weight, query_weight, queries_weight, conditions_weight, assignments_weight}
use Rattle.script_tree.specs.Builtins.{builtin_of}
use Rattle.script_tree.specs.Programs.{Program}
use Rattle.script_tree.specs.Syntax.{Expression, call, Query, insert}
use Rattle.script_tree.specs.declared.syntax.builtin.Builtin.{Builtin}
use Rattle.script_tree.specs.SyntaxLists.{expressions_of, queries_of, conditions_of, assignments_of}
use Rattle.script_tree.specs.declared.syntax.expression.Condition.{Condition}
use Rattle.script_tree.specs.declared.syntax.expression.Assignment.{Assignment}
use Rattle.script_check.specs.Validity.{how_many, called_faults, arguments_faults, store_faults, columns_in, table_faults, row_faults, column_faults, set_faults, expression_faults, query_faults}
use Rattle.script_check.specs.Least.{lower}
use Rattle.script_check.proofs.Lists.{then_next}
use Rattle.script_check.specs.Members.{in_arguments, in_expressions, in_tests, in_sets}
use Rattle.script_check.specs.declared.fault.CheckFault.{CheckFault}

pub how_many_of : (es : List Expression) → how_many (expressions_of es) ≡ length es
how_many_of [] = refl
how_many_of (e ∷ es) = ap suc (how_many_of es)

-- ---- a member weighs less than its list

pub lighter_expression : (es : List Expression) (i : ℕ) (e : Expression) → i < length es → e ≡ get_or es i e
    → expression_weight e < expressions_weight (expressions_of es)
lighter_expression [] i e h q = absurd (omega arith)
lighter_expression (f ∷ es) zero e h q = rw q (omega arith)
lighter_expression (f ∷ es) (suc i) e h q = omega (arith, lighter_expression es i e (omega arith) q)

pub lighter_query : (qs : List Query) (i : ℕ) (e : Query) → i < length qs → e ≡ get_or qs i e → query_weight e < queries_weight (queries_of qs)
lighter_query [] i e h q = absurd (omega arith)
lighter_query (f ∷ qs) zero e h q = rw q (omega arith)
lighter_query (f ∷ qs) (suc i) e h q = omega (arith, lighter_query qs i e (omega arith) q)

pub lighter_condition : (cs : List Condition) (i : ℕ) (c : Condition) → i < length cs → c ≡ get_or cs i c
    → expression_weight c.value < conditions_weight (conditions_of (map condition_of cs))
lighter_condition [] i c h q = absurd (omega arith)
lighter_condition (f ∷ cs) zero c h q = rw q (omega arith)
lighter_condition (f ∷ cs) (suc i) c h q = omega (arith, lighter_condition cs i c (omega arith) q)

pub lighter_assignment : (sets : List Assignment) (i : ℕ) (a : Assignment) → i < length sets → a ≡ get_or sets i a
    → expression_weight a.value < assignments_weight (assignments_of (map assignment_of sets))
lighter_assignment [] i a h q = absurd (omega arith)
lighter_assignment (f ∷ sets) zero a h q = rw q (omega arith)
lighter_assignment (f ∷ sets) (suc i) a h q = omega (arith, lighter_assignment sets i a (omega arith) q)

-- ---- what is wrong with one member of a list, and with the others

abbrev pub faults_of_condition : Program → List (List ℕ) → Option (Bor (List Name)) → Condition → List CheckFault
faults_of_condition program known table c = column_faults (option_copied table) c.column ++ expression_faults program known c.value

pub conditions_step : (program : Program) (known : List (List ℕ)) (table : Option (Bor (List Name))) (c : Condition)
    (cs : List Condition) → in_tests program known table (c ∷ cs) ≡ faults_of_condition program known table c
    ++ in_tests program known table cs
conditions_step program known table c cs = refl

abbrev pub faults_of_assignment : Program → List (List ℕ) → Option (Bor (List Name)) → Assignment → List CheckFault
faults_of_assignment program known table a = set_faults (option_copied table) a.column ++ expression_faults program known a.value

pub assignments_step : (program : Program) (known : List (List ℕ)) (table : Option (Bor (List Name))) (a : Assignment)
    (sets : List Assignment) → in_sets program known table (a ∷ sets) ≡ faults_of_assignment program known table a
    ++ in_sets program known table sets
assignments_step program known table a sets = refl

-- ---- calls and rows

others : {A : Type 0} (xs : List A) → take (suc (length xs) - 1) xs ≡ xs
others xs = let e : suc (length xs) - 1 ≡ length xs = omega arith in rw e (take_all (length xs) xs (omega arith))

pub store_and_others : (program : Program) (known : List (List ℕ)) (es : List Expression) (store : Expression) → 1 ≤ length es → store ≡ get_or es 0 store
    → store_faults program store ++ in_expressions program known (take (length es - 1) (drop 1 es)) ≡ arguments_faults program known true (expressions_of es)
store_and_others program known [] store h e = absurd (omega arith)
store_and_others program known (x ∷ es) store h e =
    ap (λ s. store_faults program s ++ in_expressions program known (take (suc (length es) - 1) es)) e
    ∙ ap (λ ys. store_faults program x ++ in_expressions program known ys) (others es)

pub call_found : (program : Program) (known : List (List ℕ)) (at : ℕ) (f : List ℕ) (es : List Expression)
    (l m n : Option CheckFault) (b : Option Builtin) (count : ℕ) (name : List ℕ) (arguments : List Expression)
    → count ≡ length es → b ≡ builtin_of program.version f → name ≡ f → arguments ≡ es
    → m ≡ lower l (called_faults program at count b name) → n ≡ lower m (in_arguments program known b arguments)
    → n ≡ lower l (expression_faults program known (call at f (expressions_of es)))
call_found program known at f es l m n b count name arguments many built named same p q =
    then_next l m n (called_faults program at (how_many (expressions_of es)) (builtin_of program.version f) f)
    (in_arguments program known (builtin_of program.version f) es)
    (p
    ∙ ap (λ k. lower l (called_faults program at k b name)) (many ∙ sym (how_many_of es))
    ∙ ap (λ o. lower l (called_faults program at (how_many (expressions_of es)) o name)) built
    ∙ ap (λ x. lower l (called_faults program at (how_many (expressions_of es)) (builtin_of program.version f) x)) named)
    (q
    ∙ ap (λ o. lower m (in_arguments program known o arguments)) built
    ∙ ap (λ xs. lower m (in_arguments program known (builtin_of program.version f) xs)) same)

pub row_found : (program : Program) (known : List (List ℕ)) (at : ℕ) (t : Name) (es : List Expression)
    (l m n o : Option CheckFault) (table : Option (List Name)) (count : ℕ) (values : List Expression)
    → table ≡ columns_in program.declarations t.text → count ≡ length es → values ≡ es
    → m ≡ lower l (table_faults table t) → n ≡ lower m (row_faults table t count)
    → o ≡ lower n (in_expressions program known values)
    → o ≡ lower l (query_faults program known (insert at t (expressions_of es)))
row_found program known at t es l m n o table count values is many same p q r =
    let columns = columns_in program.declarations t.text in
    let width = how_many (expressions_of es) in
    then_next l n o (table_faults columns t ++ row_faults columns t width) (in_expressions program known es)
    (then_next l m n (table_faults columns t) (row_faults columns t width)
    (p ∙ ap (λ c. lower l (table_faults c t)) is)
    (q ∙ ap (λ c. lower m (row_faults c t count)) is ∙ ap (λ k. lower m (row_faults columns t k)) (many ∙ sym (how_many_of es))))
    (r ∙ ap (λ xs. lower n (in_expressions program known xs)) same)
