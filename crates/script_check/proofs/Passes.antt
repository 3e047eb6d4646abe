-- The passes over the declarations find what is wrong with each of them.
use Rattle.std.proofs.Common.{◌≡◌, List, [], ◌∷◌, ◌++◌, Option, Some, None, refl, sym, ap, ◌∙◌}
use Rattle.script_tree.specs.Programs.{Program}
use Rattle.script_tree.specs.declared.syntax.declaration.Declaration.{Declaration}
use Rattle.script_tree.specs.declared.syntax.declaration.Declaration.TheVariants.{Store, Table, Function, Page}
use Rattle.script_tree.specs.declared.syntax.tree.Version.{Version}
use Rattle.script_check.specs.Least.{lower, IsLeast}
use Rattle.script_check.specs.Passes.{store_twice, table_twice, function_twice, page_twice, body_faults, store_pass, table_pass, function_pass, page_pass, bodies_faults, declared_faults}
use Rattle.script_check.specs.Validity.{declared_in_turn, block_faults, with_names, declaration_faults, in_turn, faults_of}
use Rattle.script_check.specs.declared.fault.CheckFault.{CheckFault}
use Rattle.script_check.proofs.Least.{lower_append, lower_swap, lowered_none, lowered_some}

abbrev Faults : Type 0
Faults = List Declaration → Declaration → List CheckFault

-- two kinds of faults in two passes
in_two : (f g h : Faults) → ((l : Option CheckFault) (earlier : List Declaration) (d : Declaration)
    → lower l (f earlier d) ≡ lower (lower l (g earlier d)) (h earlier d))
    → (l : Option CheckFault) (earlier ds : List Declaration) → lower l (in_turn f earlier ds) ≡ lower (lower l (in_turn g earlier ds)) (in_turn h earlier ds)
unfolding lower
in_two f g h each l earlier [] = refl
in_two f g h each l earlier (d ∷ ds) =
    let next = earlier ++ d ∷ [] in
    let first = lower l (g earlier d) in
    let rest = in_turn g next ds in
    let later = in_turn h next ds in
    lower_append l (f earlier d) (in_turn f next ds)
    ∙ ap (λ k. lower k (in_turn f next ds)) (each l earlier d)
    ∙ in_two f g h each (lower first (h earlier d)) next ds
    ∙ ap (λ k. lower k later) (lower_swap first (h earlier d) rest)
    ∙ sym (lower_append (lower first rest) (h earlier d) later)
    ∙ ap (λ k. lower k (h earlier d ++ later)) (sym (lower_append l (g earlier d) rest))

abbrev first_two : Faults
first_two earlier d = store_twice earlier d ++ table_twice earlier d

abbrev first_three : Version → Faults
first_three version earlier d = first_two earlier d ++ function_twice version earlier d

abbrev first_four : Version → Faults
first_four version earlier d = first_three version earlier d ++ page_twice earlier d

pairs : (g h : Faults) (l : Option CheckFault) (earlier : List Declaration) (d : Declaration)
    → lower l (g earlier d ++ h earlier d) ≡ lower (lower l (g earlier d)) (h earlier d)
pairs g h l earlier d = lower_append l (g earlier d) (h earlier d)

append_none : {A : Type 0} (xs : List A) → xs ++ [] ≡ xs
append_none [] = refl
append_none (x ∷ xs) = ap (λ ys. x ∷ ys) (append_none xs)

declared : (program : Program) (l : Option CheckFault) (earlier : List Declaration) (d : Declaration)
    → lower l (declaration_faults program earlier d)
    ≡ lower (lower l (first_four program.version earlier d)) (body_faults program d)
unfolding lower
declared program l earlier (Store at name) = sym (ap (lower l) (append_none (store_twice earlier (Store at name) ++ [] ++ []) ∙ append_none (store_twice earlier (Store at name) ++ []) ∙ append_none (store_twice earlier (Store at name))))
declared program l earlier (Table at name columns) = sym (ap (lower l) (append_none (table_twice earlier (Table at name columns) ++ []) ∙ append_none (table_twice earlier (Table at name columns))))
declared program l earlier (Function at name parameters body) =
    let twice = function_twice program.version earlier (Function at name parameters body) in
    let inner = block_faults program (with_names [] parameters) body in
    lower_append l (twice ++ declared_in_turn [] parameters) inner
    ∙ ap (λ k. lower k inner) (lower_append l twice (declared_in_turn [] parameters))
    ∙ sym (lower_append (lower l twice) (declared_in_turn [] parameters) inner)
    ∙ ap (λ fs. lower (lower l fs) (declared_in_turn [] parameters ++ inner)) (sym (append_none twice))
declared program l earlier (Page at path body) = lower_append l (page_twice earlier (Page at path body)) (block_faults program [] body)

-- the names, the pages and the bodies
pub all_passes : (program : Program) (l a b c : Option CheckFault) → a ≡ lower l (declared_faults program)
    → b ≡ lower a (page_pass program.declarations) → c ≡ lower b (bodies_faults program program.declarations)
    → c ≡ lower l (faults_of program)
all_passes program l a b c p q r =
    let ds = program.declarations in
    let functions = function_pass program.version ds in
    let three = first_three program.version in
    let four = first_four program.version in
    let stores = lower l (store_pass ds) in
    let gathered = lower (lower stores (table_pass ds)) functions in
    let made : a ≡ gathered = p ∙ lower_append l (store_pass ds ++ table_pass ds) functions ∙ ap (λ k. lower k functions) (lower_append l (store_pass ds) (table_pass ds)) in
    r
    ∙ ap (λ k. lower k (bodies_faults program ds)) (q ∙ ap (λ k. lower k (page_pass ds)) made)
    ∙ ap (λ k. lower (lower (lower k functions) (page_pass ds)) (bodies_faults program ds))
    (sym (in_two first_two store_twice table_twice (pairs store_twice table_twice) l [] ds))
    ∙ ap (λ k. lower (lower k (page_pass ds)) (bodies_faults program ds)) (sym (in_two three first_two (function_twice program.version) (pairs first_two (function_twice program.version)) l [] ds))
    ∙ ap (λ k. lower k (bodies_faults program ds)) (sym (in_two four three page_twice (pairs three page_twice) l [] ds))
    ∙ sym (in_two (declaration_faults program) four (λ earlier. body_faults program) (declared program) l [] ds)

pub is_least : (program : Program) (found : Option CheckFault) → found ≡ lower None (faults_of program) → IsLeast program found
is_least program None e = lowered_none (faults_of program) (sym e)
is_least program (Some f) e = let least = lowered_some (faults_of program) f (sym e) in record { there = least.0; least = least.1 }
