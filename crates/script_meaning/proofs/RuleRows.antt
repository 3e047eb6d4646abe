-- Single rules of the language on small pages, computed. What each page costs is counted by hand in its comment.
use Rattle.std.proofs.Common.{◌≡◌, ℕ, zero, suc, Bool, true, false, List, [], ◌∷◌, Some, None, codes, refl}
use Rattle.std.specs.Fmt.{digits}
use Rattle.script_tree.specs.Datum.{Datum, null, list, none, more}
use Rattle.script_tree.specs.Programs.{program_of}
use Rattle.script_tree.specs.Syntax.{truth, call, list as listing, binary, and_, or_, no_expression, expression, Statement, let_, set_, if_, while_, for_, echo, status, return, Statements, no_else, no_statement, statement}
use Rattle.script_tree.specs.declared.fault.ScriptFault.{ScriptFault}
use Rattle.script_tree.specs.declared.fault.ScriptFault.TheVariants.{WrongKind, ZeroDivisor, OutOfRange, TooDeep, BadBound}
use Rattle.script_tree.specs.declared.path.End.TheVariants.{Normal, Fault, AnswerFault}
use Rattle.script_tree.specs.declared.syntax.operator.BinaryOperator.TheVariants.{Quotient}
use Rattle.script_tree.specs.declared.syntax.declaration.Declaration.{Declaration}
use Rattle.script_tree.specs.declared.syntax.declaration.Declaration.TheVariants.{Function}
use Rattle.script_meaning.specs.Conduct.{conduct, Ending, Ends, Undefined}
use Rattle.script_meaning.proofs.Programs as p

-- what the one page of a program, without operations, ends with
abbrev run_of : List Declaration → Ending
run_of program = (conduct (program_of program) (p.get (codes "/p")) []).ending

abbrev on_page : List Statement → List Declaration
on_page body = p.page (codes "/p") body ∷ []

abbrev answers : List ℕ → List Bool → ℕ → Ending
answers body decisions steps = Ends (record { status = 200; body = body }) (record { page = Some 0; decisions = decisions; steps = steps; end = Normal })

abbrev faults : List ℕ → List Bool → ℕ → ScriptFault → Ending
faults body decisions steps f = Ends (record { status = 500; body = body }) (record { page = Some 0; decisions = decisions; steps = steps; end = Fault f })

abbrev block : List Statement → Statements
block [] = no_statement
block (s ∷ ss) = statement s (block ss)

-- ---- endings

unknown_path : (conduct p.sum_page (p.get (codes "/x")) []).ending
    ≡ Ends (record { status = 404; body = codes "no page\n" }) (record { page = None; decisions = []; steps = 0; end = Normal })
unknown_path = refl

answer_left_over : (conduct p.sum_page (p.get (codes "/e")) (null ∷ [])).ending ≡ Undefined
unfolding digits
answer_left_over = refl

-- so many lists within one another
nested : ℕ → Datum
nested zero = null
nested (suc n) = list (more (nested n) none)

-- the text and the call are 2 steps
answer_too_deep : (conduct p.hit_page (p.get (codes "/hit")) (nested 17 ∷ [])).ending
    ≡ Ends (record { status = 500; body = codes "fault 5\n" }) (record { page = Some 0; decisions = []; steps = 2; end = AnswerFault })
unfolding digits nested
answer_too_deep = refl

-- ---- decisions

-- echo true and 1; the left value, its decision, the right value, the echo
both : run_of (on_page (echo 0 (and_ 0 (truth 0 true) (p.num 1)) ∷ [])) ≡ answers (codes "1") (true ∷ []) 4
unfolding digits
both = refl

-- echo true or 1; the left value, its decision, the echo
either : run_of (on_page (echo 0 (or_ 0 (truth 0 true) (p.num 1)) ∷ [])) ≡ answers (codes "true") (true ∷ []) 3
either = refl

-- echo 1 or 2; the decision spends its step and decides nothing
no_boolean : run_of (on_page (echo 0 (or_ 0 (p.num 1) (p.num 2)) ∷ [])) ≡ faults (codes "fault 1\n") [] 2 WrongKind
unfolding digits
no_boolean = refl

-- for x in "ab" { } spends a decision's step and decides nothing
no_list : run_of (on_page (for_ 0 (p.name (codes "x")) (p.str (codes "ab")) no_statement ∷ [])) ≡ faults (codes "fault 1\n") [] 2 WrongKind
unfolding digits
no_list = refl

-- for x in [1, 2] { echo x; } is the list's 3 steps, 2 turns of 3, and a last decision
each_member : run_of (on_page (
    for_ 0 (p.name (codes "x")) (listing 0 (expression (p.num 1) (expression (p.num 2) no_expression))) (block (echo 0 (p.var (codes "x")) ∷ []))
    ∷ [])) ≡ answers (codes "12") (true ∷ true ∷ false ∷ []) 10
unfolding digits
each_member = refl

-- ---- scopes and calls

-- let x = 1; if true { let y = 2; set x = y; } echo x; is 2, 2, 4 and 2 steps
outer_variable : run_of (on_page (
    let_ 0 (p.name (codes "x")) (p.num 1)
    ∷ if_ 0 (truth 0 true) (block (let_ 0 (p.name (codes "y")) (p.num 2) ∷ set_ 0 (p.name (codes "x")) (p.var (codes "y")) ∷ [])) no_else
    ∷ echo 0 (p.var (codes "x"))
    ∷ [])) ≡ answers (codes "2") (true ∷ []) 10
unfolding digits
outer_variable = refl

-- function f() { while true { for x in [7, 8] { return x; } } } page "/p" { echo f(); }
-- the call, while's condition and decision, the list's 3, a decision, the return's 2, the echo
returned : run_of (
    Function 0 (p.name (codes "f")) [] (
    while_ 0 (truth 0 true) (block (
    for_ 0 (p.name (codes "x")) (listing 0 (expression (p.num 7) (expression (p.num 8) no_expression))) (block (return 0 (p.var (codes "x")) ∷ []))
    ∷ [])) ∷ [])
    ∷ on_page (echo 0 (call 0 (codes "f") no_expression) ∷ [])) ≡ answers (codes "7") (true ∷ true ∷ []) 10
unfolding digits
returned = refl

-- function g() { return g(); } page "/p" { echo g(); } calls at depth 0 to 64, and the last of these 65 faults
too_deep : run_of (Function 0 (p.name (codes "g")) [] (return 0 (call 0 (codes "g") no_expression) ∷ []) ∷ on_page
    (echo 0 (call 0 (codes "g") no_expression) ∷ []))
    ≡ faults (codes "fault 8\n") [] 65 TooDeep
unfolding digits
too_deep = refl

-- function len(x) { return 7; } page "/p" { echo len("a"); } calls the program's own function
own_function : run_of (
    Function 0 (p.name (codes "len")) (p.name (codes "x") ∷ []) (return 0 (p.num 7) ∷ [])
    ∷ on_page (echo 0 (p.call1 (codes "len") (p.str (codes "a"))) ∷ [])) ≡ answers (codes "7") [] 5
unfolding digits
own_function = refl

-- function get(a, b) { return a; } page "/p" { let s = "x"; echo get(s, "k"); } takes s as a variable
own_arguments : run_of (
    Function 0 (p.name (codes "get")) (p.name (codes "a") ∷ p.name (codes "b") ∷ []) (return 0 (p.var (codes "a")) ∷ [])
    ∷ on_page (
    let_ 0 (p.name (codes "s")) (p.str (codes "x")) ∷ echo 0 (p.call2 (codes "get") (p.var (codes "s")) (p.str (codes "k"))) ∷ [])) ≡ answers (codes "x") [] 8
own_arguments = refl

-- ---- other faults

-- echo "a"; echo 1 / 0; drops what was echoed
zero_divisor : run_of (on_page (echo 0 (p.str (codes "a")) ∷ echo 0 (binary 0 Quotient (p.num 1) (p.num 0)) ∷ [])) ≡ faults (codes "fault 3\n") [] 5 ZeroDivisor
unfolding digits
zero_divisor = refl

-- status 204;
no_body_allowed : run_of (on_page (status 0 (p.num 204) ∷ [])) ≡ faults (codes "fault 4\n") [] 2 OutOfRange
unfolding digits
no_body_allowed = refl

-- echo random(0);
nothing_to_draw : run_of (on_page (echo 0 (p.call1 (codes "random") (p.num 0)) ∷ [])) ≡ faults (codes "fault 9\n") [] 2 BadBound
unfolding digits
nothing_to_draw = refl
