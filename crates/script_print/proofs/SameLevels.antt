-- How operators group doesn't depend on places.
use Rattle.std.proofs.Common.{◌≡◌, ℕ, suc, refl, sym, ap, ◌∙◌}
use Rattle.script_tree.specs.Syntax.{Expression, number, text, truth, null, bracket, variable, call, list, transact, unary, binary, and_, or_, index}
use Rattle.script_grammar.specs.Grouping.{operator_level, level, if_same, row, repeats}
use Rattle.script_print.specs.Placeless.{placeless_expression}

placeless_level : (e : Expression) → level (placeless_expression e) ≡ level e
placeless_level (number at n) = refl
placeless_level (text at bytes) = refl
placeless_level (truth at b) = refl
placeless_level (null at) = refl
placeless_level (bracket at e) = refl
placeless_level (variable at x) = refl
placeless_level (call at f es) = refl
placeless_level (list at es) = refl
placeless_level (transact at qs) = refl
placeless_level (unary at operator e) = refl
placeless_level (binary at operator left right) = refl
placeless_level (and_ at left right) = refl
placeless_level (or_ at left right) = refl
placeless_level (index at whole place) = refl

in_row : (l : ℕ) (e : Expression) (n : ℕ) → n ≡ row e → suc (if_same (level (placeless_expression e)) l n) ≡ suc (if_same (level e) l (row e))
in_row l e n is = ap (λ k. suc (if_same k l n)) (placeless_level e) ∙ ap (λ m. suc (if_same (level e) l m)) is

placeless_row : (e : Expression) → row (placeless_expression e) ≡ row e
placeless_row (number at n) = refl
placeless_row (text at bytes) = refl
placeless_row (truth at b) = refl
placeless_row (null at) = refl
placeless_row (bracket at e) = refl
placeless_row (variable at x) = refl
placeless_row (call at f es) = refl
placeless_row (list at es) = refl
placeless_row (transact at qs) = refl
placeless_row (unary at operator e) = in_row 1 e (row (placeless_expression e)) (placeless_row e)
placeless_row (binary at operator left right) = in_row (operator_level operator) left (row (placeless_expression left)) (placeless_row left)
placeless_row (and_ at left right) = in_row 5 left (row (placeless_expression left)) (placeless_row left)
placeless_row (or_ at left right) = in_row 6 left (row (placeless_expression left)) (placeless_row left)
placeless_row (index at whole place) = in_row 0 whole (row (placeless_expression whole)) (placeless_row whole)

pub same_level : (d e : Expression) → placeless_expression d ≡ placeless_expression e → level d ≡ level e
same_level d e same = sym (placeless_level d) ∙ ap level same ∙ placeless_level e

same_row : (d e : Expression) → placeless_expression d ≡ placeless_expression e → row d ≡ row e
same_row d e same = sym (placeless_row d) ∙ ap row same ∙ placeless_row e

pub same_repeats : (l : ℕ) (d e : Expression) → placeless_expression d ≡ placeless_expression e → repeats l d ≡ repeats l e
same_repeats l d e same = ap (λ k. if_same k l (row d)) (same_level d e same) ∙ ap (if_same (level e) l) (same_row d e same)
