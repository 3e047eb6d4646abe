-- Lists that are read member by member.
use Rattle.std.proofs.Common.{◌≡◌, List, [], ◌∷◌, ◌++◌, refl, sym, ap, ◌∙◌, append_assoc, append-nil}
use Rattle.script_tree.specs.Syntax.{Expression, Expressions, no_expression, expression, Query, Queries, no_query, query, Condition, Conditions, no_condition, condition, Assignment, Assignments, no_assignment, assignment, Statement, Statements, no_statement, statement}
use Rattle.script_tree.specs.SyntaxLists.{expressions_of, queries_of, conditions_of, assignments_of, statements_of}
use Rattle.script_tree.specs.declared.syntax.name.Name.{Name}
use Rattle.script_tree.specs.declared.syntax.declaration.Declaration.{Declaration}
use Rattle.script_grammar.specs.Machine.{Val, of_name, of_names, of_expression, of_expressions, of_comparison, of_tests, of_sets, of_query, of_queries, of_statement, of_statements, of_declaration, of_declarations, adds_name, adds_expression, adds_test, adds_set, adds_query, adds_statement, adds_declaration, apply}

-- ---- the lists of a tree as lists

abbrev pub expressions_in : Expressions → List Expression
expressions_in no_expression = []
expressions_in (expression e es) = e ∷ expressions_in es

abbrev pub queries_in : Queries → List Query
queries_in no_query = []
queries_in (query q qs) = q ∷ queries_in qs

abbrev pub conditions_in : Conditions → List Condition
conditions_in no_condition = []
conditions_in (condition x c e cs) = record { column = x; comparison = c; value = e } ∷ conditions_in cs

abbrev pub assignments_in : Assignments → List Assignment
assignments_in no_assignment = []
assignments_in (assignment x e ss) = record { column = x; value = e } ∷ assignments_in ss

abbrev pub statements_in : Statements → List Statement
statements_in no_statement = []
statements_in (statement s ss) = s ∷ statements_in ss

pub expressions_again : (es : Expressions) → expressions_of (expressions_in es) ≡ es
expressions_again no_expression = refl
expressions_again (expression e es) = ap (expression e) (expressions_again es)

pub queries_again : (qs : Queries) → queries_of (queries_in qs) ≡ qs
queries_again no_query = refl
queries_again (query q qs) = ap (query q) (queries_again qs)

pub conditions_again : (cs : Conditions) → conditions_of (conditions_in cs) ≡ cs
conditions_again no_condition = refl
conditions_again (condition x c e cs) = ap (condition x c e) (conditions_again cs)

pub assignments_again : (ss : Assignments) → assignments_of (assignments_in ss) ≡ ss
assignments_again no_assignment = refl
assignments_again (assignment x e ss) = ap (assignment x e) (assignments_again ss)

pub statements_again : (ss : Statements) → statements_of (statements_in ss) ≡ ss
statements_again no_statement = refl
statements_again (statement s ss) = ap (statement s) (statements_again ss)

-- ---- the values after all members were read

abbrev pub with_names : List Name → List Val → List Val
with_names [] vs = vs
with_names (x ∷ xs) vs = with_names xs (apply adds_name (of_name x ∷ vs))

abbrev pub with_expressions : Expressions → List Val → List Val
with_expressions no_expression vs = vs
with_expressions (expression e es) vs = with_expressions es (apply adds_expression (of_expression e ∷ vs))

abbrev pub with_queries : Queries → List Val → List Val
with_queries no_query vs = vs
with_queries (query q qs) vs = with_queries qs (apply adds_query (of_query q ∷ vs))

abbrev pub with_conditions : Conditions → List Val → List Val
with_conditions no_condition vs = vs
with_conditions (condition x c e cs) vs = with_conditions cs (apply adds_test (of_expression e ∷ of_comparison c ∷ of_name x ∷ vs))

abbrev pub with_assignments : Assignments → List Val → List Val
with_assignments no_assignment vs = vs
with_assignments (assignment x e ss) vs = with_assignments ss (apply adds_set (of_expression e ∷ of_name x ∷ vs))

abbrev pub with_statements : Statements → List Val → List Val
with_statements no_statement vs = vs
with_statements (statement s ss) vs = with_statements ss (apply adds_statement (of_statement s ∷ vs))

abbrev pub with_block : List Statement → List Val → List Val
with_block [] vs = vs
with_block (s ∷ ss) vs = with_block ss (apply adds_statement (of_statement s ∷ vs))

abbrev pub with_declarations : List Declaration → List Val → List Val
with_declarations [] vs = vs
with_declarations (d ∷ ds) vs = with_declarations ds (apply adds_declaration (of_declaration d ∷ vs))

pub all_names : (xs ys : List Name) (vs : List Val) → with_names xs (of_names ys ∷ vs) ≡ of_names (ys ++ xs) ∷ vs
all_names [] ys vs = ap (λ l. of_names l ∷ vs) (sym (append-nil ys))
all_names (x ∷ xs) ys vs = all_names xs (ys ++ x ∷ []) vs ∙ ap (λ l. of_names l ∷ vs) (append_assoc ys (x ∷ []) xs)

pub all_expressions : (es : Expressions) (xs : List Expression) (vs : List Val)
    → with_expressions es (of_expressions xs ∷ vs) ≡ of_expressions (xs ++ expressions_in es) ∷ vs
all_expressions no_expression xs vs = ap (λ l. of_expressions l ∷ vs) (sym (append-nil xs))
all_expressions (expression e es) xs vs = all_expressions es (xs ++ e ∷ []) vs ∙ ap (λ l. of_expressions l ∷ vs) (append_assoc xs (e ∷ []) (expressions_in es))

pub all_queries : (qs : Queries) (xs : List Query) (vs : List Val) → with_queries qs (of_queries xs ∷ vs) ≡ of_queries (xs ++ queries_in qs) ∷ vs
all_queries no_query xs vs = ap (λ l. of_queries l ∷ vs) (sym (append-nil xs))
all_queries (query q qs) xs vs = all_queries qs (xs ++ q ∷ []) vs ∙ ap (λ l. of_queries l ∷ vs) (append_assoc xs (q ∷ []) (queries_in qs))

pub all_conditions : (cs : Conditions) (xs : List Condition) (vs : List Val) → with_conditions cs (of_tests xs ∷ vs) ≡ of_tests (xs ++ conditions_in cs) ∷ vs
all_conditions no_condition xs vs = ap (λ l. of_tests l ∷ vs) (sym (append-nil xs))
all_conditions (condition x c e cs) xs vs =
    let d : Condition = record { column = x; comparison = c; value = e } in
    all_conditions cs (xs ++ d ∷ []) vs ∙ ap (λ l. of_tests l ∷ vs) (append_assoc xs (d ∷ []) (conditions_in cs))

pub all_assignments : (ss : Assignments) (xs : List Assignment) (vs : List Val) → with_assignments ss (of_sets xs ∷ vs) ≡ of_sets (xs ++ assignments_in ss) ∷ vs
all_assignments no_assignment xs vs = ap (λ l. of_sets l ∷ vs) (sym (append-nil xs))
all_assignments (assignment x e ss) xs vs =
    let d : Assignment = record { column = x; value = e } in
    all_assignments ss (xs ++ d ∷ []) vs ∙ ap (λ l. of_sets l ∷ vs) (append_assoc xs (d ∷ []) (assignments_in ss))

pub all_statements : (ss : Statements) (xs : List Statement) (vs : List Val)
    → with_statements ss (of_statements xs ∷ vs) ≡ of_statements (xs ++ statements_in ss) ∷ vs
all_statements no_statement xs vs = ap (λ l. of_statements l ∷ vs) (sym (append-nil xs))
all_statements (statement s ss) xs vs = all_statements ss (xs ++ s ∷ []) vs ∙ ap (λ l. of_statements l ∷ vs) (append_assoc xs (s ∷ []) (statements_in ss))

pub all_of_block : (ss xs : List Statement) (vs : List Val) → with_block ss (of_statements xs ∷ vs) ≡ of_statements (xs ++ ss) ∷ vs
all_of_block [] xs vs = ap (λ l. of_statements l ∷ vs) (sym (append-nil xs))
all_of_block (s ∷ ss) xs vs = all_of_block ss (xs ++ s ∷ []) vs ∙ ap (λ l. of_statements l ∷ vs) (append_assoc xs (s ∷ []) ss)

pub all_declarations : (ds xs : List Declaration) (vs : List Val) → with_declarations ds (of_declarations xs ∷ vs) ≡ of_declarations (xs ++ ds) ∷ vs
all_declarations [] xs vs = ap (λ l. of_declarations l ∷ vs) (sym (append-nil xs))
all_declarations (d ∷ ds) xs vs = all_declarations ds (xs ++ d ∷ []) vs ∙ ap (λ l. of_declarations l ∷ vs) (append_assoc xs (d ∷ []) ds)
