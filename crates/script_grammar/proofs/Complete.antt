-- What a tree is written as is read as that tree.
use Rattle.std.proofs.Common.{◌≡◌, ◌≢◌, ℕ, suc, ◌-◌, ◌≤◌, if◌then◌else◌, List, [], ◌∷◌, true, false, refl, sym, ap, ◌∙◌, subst, arith}
use Rattle.script_tree.specs.Syntax.{Expression, number, text, truth, null, bracket, variable, call, list, transact, unary, binary, and_, or_, index, Expressions, no_expression, expression, Query, insert, select, update, delete, expect, Queries, no_query, query, Conditions, no_condition, condition, Assignments, no_assignment, assignment, Statement, let_, set_, if_, while_, for_, echo, status, return, do_, Else, no_else, else_, Statements, no_statement, statement}
use Rattle.script_tree.specs.SyntaxLists.{conditions_of}
use Rattle.script_tree.specs.declared.syntax.operator.BinaryOperator.TheVariants as two
use Rattle.script_tree.specs.declared.syntax.name.Name.{Name}
use Rattle.script_tree.specs.declared.syntax.declaration.Declaration.{Declaration}
use Rattle.script_tree.specs.declared.syntax.declaration.Declaration.TheVariants as declared
use Rattle.script_tokens.specs.Kinds as kind
use Rattle.script_tokens.specs.Kinds.{Kind, Token, token}
use Rattle.script_tokens.specs.declared.word.Word.{Word}
use Rattle.script_tokens.specs.declared.word.Word.TheVariants as w
use Rattle.script_grammar.specs.Spelling as mark
use Rattle.script_grammar.specs.Spelling.{Mark, named, comparison_word, infix_word, names_before, names, spelling, list_spelling, more_spelling, query_spelling, queries_spelling, where_spelling, and_spelling, more_sets_spelling, statement_spelling, else_spelling, statements_spelling, block_spelling, declarations_spelling, AreTokens}
use Rattle.script_grammar.specs.Grouping.{operator_level, level, repeats, IsGrouped, AreGrouped, IsGroupedQuery, AreGroupedQueries, AreGroupedTests, AreGroupedSets, IsGroupedStatement, IsGroupedElse, AreGroupedStatements, IsGroupedBlock, AreGroupedDeclarations}
use Rattle.script_grammar.specs.Machine.{joined, Val, of_name, of_names, of_expression, of_expressions, of_tests, of_sets, of_query, of_queries, of_statement, of_statements, of_else, of_declaration, of_declarations, puts, adds_name, adds_expression, adds_test, adds_set, adds_query, adds_statement, adds_declaration, joined_by, bracketed, called, listed, transacted, inserted, selected, updated, deleted, expected, bound, said, branched, otherwise, repeated, turned, stored, tabled, defined, paged, apply, Symbol, act, word, a_name, operand, atom, tail, name_tail, arguments, more_arguments, a_query, more_queries, filter, more_tests, more_sets, a_statement, statements, else_part, declarations, done, run, run_file}
use Rattle.script_grammar.specs.declared.joint.Joint.TheVariants.{Indexing, And, Or, Operator}
use Rattle.script_grammar.proofs.Added.{conditions_in, assignments_in, expressions_again, queries_again, conditions_again, assignments_again, statements_again, with_names, with_expressions, with_queries, with_conditions, with_assignments, with_statements, with_block, with_declarations, all_names, all_expressions, all_queries, all_conditions, all_assignments, all_statements, all_of_block, all_declarations}
use Rattle.script_grammar.proofs.Levels.{From, from_lower, free, closing, Part, Whole, whole_of, climb, operand_of, few}
use Rattle.script_grammar.proofs.Steps.{is_same, same_step, Reads, ◌then◌, instead, valued, begun, begun_anywhere, nothing, reads_word, reads_name, reads_path, acts, First, first_is, IsNot}
use Rattle.script_grammar.proofs.CompleteParts.{an_atom, unary_part, itself, joint_part, no_prefix_first, IsOpening, opening_first, infix_joint, infix_open, operator_levels, from_joint, operator_part, not_called, Closing, round, square, source, closing_word, closing_free, closing_comma, more_names_read, parameters_read, comparison_read}

-- ---- expressions

pub level_most : (e : Expression) → level e ≤ 6
level_most (number at v) = omega arith
level_most (text at bytes) = omega arith
level_most (truth at b) = omega arith
level_most (null at) = omega arith
level_most (bracket at e) = omega arith
level_most (variable at x) = omega arith
level_most (call at f es) = omega arith
level_most (list at es) = omega arith
level_most (transact at qs) = omega arith
level_most (unary at operator e) = omega arith
level_most (binary at (two.Compare c) x y) = omega arith
level_most (binary at two.Plus x y) = omega arith
level_most (binary at two.Minus x y) = omega arith
level_most (binary at two.Times x y) = omega arith
level_most (binary at two.Quotient x y) = omega arith
level_most (binary at two.Remainder x y) = omega arith
level_most (and_ at x y) = omega arith
level_most (or_ at x y) = omega arith
level_most (index at x y) = omega arith

-- a whole expression, and one of the level of sums
pub operand_from : (e : Expression) (n : List Mark) → IsGrouped e → First (From 7) n → Part 6 e (spelling e n) n
    → Reads (λ k. operand 6 ∷ k) (λ vs. of_expression e ∷ vs) (spelling e n) n
operand_from e n g f p = operand_of 5 e (spelling e n) n (whole_of 6 e (spelling e n) n f (few e g 6) p)

pub sum_from : (e : Expression) (n : List Mark) → IsGrouped e → First (From 4) n → Part 3 e (spelling e n) n
    → Reads (λ k. operand 3 ∷ k) (λ vs. of_expression e ∷ vs) (spelling e n) n
sum_from e n g f p = operand_of 2 e (spelling e n) n (whole_of 3 e (spelling e n) n f (few e g 3) p)

lower : (l : ℕ) (n : List Mark) → First (From (suc l)) n → First (From l) n
lower l n f = from_lower (suc l) l n (omega arith) f

more_free : (c : Closing) (es : Expressions) (n : List Mark) → First (From 7) (more_spelling es (mark.word (closing_word c) ∷ n))
more_free c no_expression n = closing_free c
more_free c (expression e es) n = free 7 w.Comma refl refl

and_free : (cs : Conditions) (n : List Mark) → First (From 4) (and_spelling cs (mark.word w.Semicolon ∷ n))
and_free no_condition n = free 4 w.Semicolon refl refl
and_free (condition x c e cs) n = from_joint w.And And refl refl 4 (omega arith)

where_free : (cs : Conditions) (n : List Mark) → First (From 7) (where_spelling cs (mark.word w.Semicolon ∷ n))
where_free no_condition n = free 7 w.Semicolon refl refl
where_free (condition x c e cs) n = free 7 w.Where refl refl

sets_free : (ss : Assignments) (cs : Conditions) (n : List Mark) → First (From 7) (more_sets_spelling ss (where_spelling cs (mark.word w.Semicolon ∷ n)))
sets_free no_assignment cs n = where_free cs n
sets_free (assignment x e ss) cs n = free 7 w.Comma refl refl

where_comma : (cs : Conditions) (n : List Mark) → First (IsNot w.Comma) (where_spelling cs (mark.word w.Semicolon ∷ n))
where_comma no_condition n = refl
where_comma (condition x c e cs) n = refl

-- a symbol that may read nothing reads nothing, where another token stands first
filter_ends : (n : List Mark) → First (IsNot w.Where) n → Reads (λ k. filter ∷ k) (λ vs. vs) n n
filter_ends n f = record { goes = λ ts h. (ts, h, λ k vs. ends ts h k vs) }
  where
    ends : (ts : List Token) → AreTokens n ts → (k : List Symbol) (vs : List Val) → run ts (filter ∷ k) vs ≡ run ts k vs
    ends [] h k vs = refl
    ends (t ∷ ts) h k vs = let g : IsNot w.Where t.kind = first_is (IsNot w.Where) n t ts f h in same_step t ts (filter ∷ k) k vs vs (rw g refl)

more_tests_end : (n : List Mark) → First (IsNot w.And) n → Reads (λ k. more_tests ∷ k) (λ vs. vs) n n
more_tests_end n f = record { goes = λ ts h. (ts, h, λ k vs. ends ts h k vs) }
  where
    ends : (ts : List Token) → AreTokens n ts → (k : List Symbol) (vs : List Val) → run ts (more_tests ∷ k) vs ≡ run ts k vs
    ends [] h k vs = refl
    ends (t ∷ ts) h k vs = let g : IsNot w.And t.kind = first_is (IsNot w.And) n t ts f h in same_step t ts (more_tests ∷ k) k vs vs (rw g refl)

more_sets_end : (n : List Mark) → First (IsNot w.Comma) n → Reads (λ k. more_sets ∷ k) (λ vs. vs) n n
more_sets_end n f = record { goes = λ ts h. (ts, h, λ k vs. ends ts h k vs) }
  where
    ends : (ts : List Token) → AreTokens n ts → (k : List Symbol) (vs : List Val) → run ts (more_sets ∷ k) vs ≡ run ts k vs
    ends [] h k vs = refl
    ends (t ∷ ts) h k vs = let g : IsNot w.Comma t.kind = first_is (IsNot w.Comma) n t ts f h in same_step t ts (more_sets ∷ k) k vs vs (rw g refl)

arguments_begin : (v : Word) (n : List Mark) → First (IsNot v) n → (ts : List Token) → AreTokens n ts
    → (k : List Symbol) (vs : List Val) → run ts (arguments v ∷ k) vs
    ≡ run ts (operand 6 ∷ act adds_expression ∷ more_arguments v ∷ k) vs
arguments_begin v n f [] h k vs = refl
arguments_begin v n f (t ∷ ts) h k vs = let g : IsNot v t.kind = first_is (IsNot v) n t ts f h in same_step t ts (arguments v ∷ k) (operand 6 ∷ act adds_expression ∷ more_arguments v ∷ k) vs vs (rw g refl)

not_closing : (c : Closing) (m : List Mark) → First IsOpening m → First (IsNot (closing_word c)) m
not_closing c [] f = tt
not_closing round (m ∷ ms) f = f.0
not_closing square (m ∷ ms) f = f.1
not_closing source (m ∷ ms) f = f.2

from_called : (n : List Mark) (l : ℕ) → First (From l) n → First (IsNot w.Open) n
from_called [] l f = tt
from_called (m ∷ ms) l f = f.0

pub valued_call : (at : ℕ) (f : List ℕ) (es : Expressions) (vs : List Val)
    → apply (called at f) (with_expressions es (of_expressions [] ∷ vs)) ≡ of_expression (call at f es) ∷ vs
valued_call at f es vs = ap (apply (called at f)) (all_expressions es [] vs) ∙ ap (λ x. of_expression (call at f x) ∷ vs) (expressions_again es)

pub valued_list : (at : ℕ) (es : Expressions) (vs : List Val)
    → apply (listed at) (with_expressions es (of_expressions [] ∷ vs)) ≡ of_expression (list at es) ∷ vs
valued_list at es vs = ap (apply (listed at)) (all_expressions es [] vs) ∙ ap (λ x. of_expression (list at x) ∷ vs) (expressions_again es)

pub valued_transact : (at : ℕ) (qs : Queries) (vs : List Val)
    → apply (transacted at) (with_queries qs (of_queries [] ∷ vs)) ≡ of_expression (transact at qs) ∷ vs
valued_transact at qs vs = ap (apply (transacted at)) (all_queries qs [] vs) ∙ ap (λ x. of_expression (transact at x) ∷ vs) (queries_again qs)

pub valued_insert : (at : ℕ) (t : Name) (es : Expressions) (vs : List Val)
    → apply (inserted at) (with_expressions es (of_expressions [] ∷ of_name t ∷ vs)) ≡ of_query (insert at t es) ∷ vs
valued_insert at t es vs = ap (apply (inserted at)) (all_expressions es [] (of_name t ∷ vs)) ∙ ap (λ x. of_query (insert at t x) ∷ vs) (expressions_again es)

pub valued_select : (at : ℕ) (xs : List Name) (t : Name) (cs : Conditions) (vs : List Val)
    → apply (selected at) (with_conditions cs (of_tests [] ∷ of_name t ∷ with_names xs (of_names [] ∷ vs)))
    ≡ of_query (select at xs t cs) ∷ vs
valued_select at xs t cs vs =
    ap (λ us. apply (selected at) (with_conditions cs (of_tests [] ∷ of_name t ∷ us))) (all_names xs [] vs)
    ∙ ap (apply (selected at)) (all_conditions cs [] (of_name t ∷ of_names xs ∷ vs))
    ∙ ap (λ x. of_query (select at xs t x) ∷ vs) (conditions_again cs)

pub valued_update : (at : ℕ) (t : Name) (ss : Assignments) (cs : Conditions) (vs : List Val)
    → apply (updated at) (with_conditions cs (of_tests [] ∷ with_assignments ss (of_sets [] ∷ of_name t ∷ vs)))
    ≡ of_query (update at t ss cs) ∷ vs
valued_update at t ss cs vs =
    ap (λ us. apply (updated at) (with_conditions cs (of_tests [] ∷ us))) (all_assignments ss [] (of_name t ∷ vs))
    ∙ ap (apply (updated at)) (all_conditions cs [] (of_sets (assignments_in ss) ∷ of_name t ∷ vs))
    ∙ ap (λ x. of_query (update at t x (conditions_of (conditions_in cs))) ∷ vs) (assignments_again ss)
    ∙ ap (λ x. of_query (update at t ss x) ∷ vs) (conditions_again cs)

pub valued_delete : (at : ℕ) (t : Name) (cs : Conditions) (vs : List Val)
    → apply (deleted at) (with_conditions cs (of_tests [] ∷ of_name t ∷ vs)) ≡ of_query (delete at t cs) ∷ vs
valued_delete at t cs vs = ap (apply (deleted at)) (all_conditions cs [] (of_name t ∷ vs)) ∙ ap (λ x. of_query (delete at t x) ∷ vs) (conditions_again cs)

pub valued_expect : (at : ℕ) (e : Expression) (t : Name) (cs : Conditions) (vs : List Val)
    → apply (expected at) (with_conditions cs (of_tests [] ∷ of_name t ∷ of_expression e ∷ vs))
    ≡ of_query (expect at e t cs) ∷ vs
valued_expect at e t cs vs = ap (apply (expected at)) (all_conditions cs [] (of_name t ∷ of_expression e ∷ vs))
    ∙ ap (λ x. of_query (expect at e t x) ∷ vs) (conditions_again cs)

none_given : {A : Type 0} (x : A) → (x ≢ x) → ⊥
none_given x h = h refl

abbrev after_row : List Mark → List Mark
after_row n = mark.word w.Semicolon ∷ n

queries_begin : (q : Query) (n : List Mark) (ts : List Token) → AreTokens (query_spelling q n) ts
    → (k : List Symbol) (vs : List Val) → run ts (more_queries ∷ k) vs
    ≡ run ts (a_query ∷ act adds_query ∷ more_queries ∷ k) vs
queries_begin q n [] h k vs = refl
queries_begin q n (t ∷ ts) h k vs =
    let g : IsNot w.BraceClose t.kind = first_is (IsNot w.BraceClose) (query_spelling q n) t ts (query_first q n) h in
    same_step t ts (more_queries ∷ k) (a_query ∷ act adds_query ∷ more_queries ∷ k) vs vs (rw g refl)
  where
    query_first : (q : Query) (n : List Mark) → First (IsNot w.BraceClose) (query_spelling q n)
    query_first (insert at t es) n = refl
    query_first (select at columns t cs) n = refl
    query_first (update at t ss cs) n = refl
    query_first (delete at t cs) n = refl
    query_first (expect at e t cs) n = refl

mutual
  pub reads : (e : Expression) → IsGrouped e → (l : ℕ) → level e ≤ l → (n : List Mark) → First (From l) n → Part l e (spelling e n) n
  reads (number at v) g l h n f = an_atom l (number at v) (spelling (number at v) n) n refl refl refl f g
      (begun at (kind.number v) (λ k. atom ∷ k) (λ k vs. refl) (nothing n))
  reads (text at bytes) g l h n f = an_atom l (text at bytes) (spelling (text at bytes) n) n refl refl refl f g
      (begun at (kind.text bytes) (λ k. atom ∷ k) (λ k vs. refl) (nothing n))
  reads (truth at true) g l h n f = an_atom l (truth at true) (spelling (truth at true) n) n refl refl refl f g
      (begun at (kind.fixed w.True) (λ k. atom ∷ k) (λ k vs. refl) (nothing n))
  reads (truth at false) g l h n f = an_atom l (truth at false) (spelling (truth at false) n) n refl refl refl f g
      (begun at (kind.fixed w.False) (λ k. atom ∷ k) (λ k vs. refl) (nothing n))
  reads (null at) g l h n f = an_atom l (null at) (spelling (null at) n) n refl refl refl f g
      (begun at (kind.fixed w.Null) (λ k. atom ∷ k) (λ k vs. refl) (nothing n))
  reads (variable at x) g l h n f = an_atom l (variable at x) (spelling (variable at x) n) n refl refl refl f g
      (begun at (kind.name x) (λ k. atom ∷ k) (λ k vs. refl) (not_called at x n (from_called n l f)))
  reads (bracket at e) g l h n f =
      let o : List Mark = mark.word w.Close ∷ n in
      let c : First (From 7) o = free 7 w.Close refl refl in
      an_atom l (bracket at e) (spelling (bracket at e) n) n refl refl refl f g
      (begun at (kind.fixed w.Open) (λ k. atom ∷ k) (λ k vs. refl)
      (operand_from e o g c (reads e g 6 (level_most e) o (lower 6 o c)) then reads_word w.Close n then acts (bracketed at) n))
  reads (call at x es) g l h n f =
      an_atom l (call at x es) (spelling (call at x es) n) n refl refl refl f g
      (valued (valued_call at x es) (begun at (kind.name x) (λ k. atom ∷ k) (λ k vs. refl)
      (begun_anywhere (kind.fixed w.Open) (λ k. name_tail at x ∷ k) (λ p k vs. refl)
      (arguments_read round es g n then acts (called at x) n))))
  reads (list at es) g l h n f =
      an_atom l (list at es) (spelling (list at es) n) n refl refl refl f g
      (valued (valued_list at es) (begun at (kind.fixed w.SquareOpen) (λ k. atom ∷ k) (λ k vs. refl)
      (arguments_read square es g n then acts (listed at) n)))
  reads (transact at no_query) g l h n f = absurd (g.0 refl)
  reads (transact at (query q qs)) g l h n f =
      let o : List Mark = queries_spelling qs (mark.word w.BraceClose ∷ n) in
      an_atom l (transact at (query q qs)) (spelling (transact at (query q qs)) n) n refl refl refl f g
      (valued (valued_transact at (query q qs)) (begun at (kind.fixed w.Transact) (λ k. atom ∷ k) (λ k vs. refl)
      (reads_word w.BraceOpen (query_spelling q o) then query_read q g.1.0 o then acts adds_query o then queries_read qs g.1.1 n then acts (transacted at) n)))
  reads (unary at operator e) g l h n f =
      let p : Part 1 e (spelling e n) n = reads e g.1 1 g.0.level_is n (from_lower l 1 n h f) in
      climb l 1 (unary at operator e) (spelling (unary at operator e) n) n h (omega arith)
      (λ z. absurd (omega (arith, z))) f (few (unary at operator e) g)
      (unary_part at operator e (spelling e n) n p)
  reads (binary at operator x y) g l h n f =
      let q = operator_levels operator in
      let o : List Mark = spelling y n in
      let m : List Mark = mark.word (infix_word operator) ∷ o in
      let px : Part (operator_level operator) x (spelling x m) m = reads x g.1 (operator_level operator) g.0.left_level m (from_joint (infix_word operator) (Operator operator) (infix_joint operator) (infix_open operator) (operator_level operator) (omega arith)) in
      let py : Part (suc q.0) y o n = reads y g.2 (suc q.0) (omega (arith, g.0.right_level, q.1)) n (from_lower l (suc q.0) n (omega (arith, h, q.1)) f) in
      let wy : Whole (suc q.0) y o n = whole_of (suc q.0) y o n (from_lower l (suc (suc q.0)) n (omega (arith, h, q.1)) f) (few y g.2 (suc q.0)) py in
      let more : repeats (suc (suc q.0)) (joined (Operator operator) x y) ≡ suc (repeats (suc (suc q.0)) x) = rw (q.1, itself) refl in
      let p : Part (suc (suc q.0)) (joined (Operator operator) x y) (spelling x m) n = operator_part (Operator operator) (infix_word operator) q.0 x y (spelling x m) o n (infix_joint operator) q.1 more (λ left k. let d : suc (suc q.0) - 1 ≡ suc q.0 = omega arith in ap (λ z. operand z ∷ act (joined_by (Operator operator)) ∷ tail (suc (suc q.0)) left ∷ k) d) (subst (λ z. Part z x (spelling x m) m) q.1 px) wy in
      climb l (suc (suc q.0)) (binary at operator x y) (spelling x m) n (omega (arith, h, q.1)) (omega (arith, q.1))
      (λ z. absurd (omega (arith, z))) f (few (binary at operator x y) g)
      (subst (λ a. Part (suc (suc q.0)) (binary a operator x y) (spelling x m) n) (sym g.0.place) p)
  reads (and_ at x y) g l h n f =
      let o : List Mark = spelling y n in
      let m : List Mark = mark.word w.And ∷ o in
      let px : Part 5 x (spelling x m) m = reads x g.1 5 g.0.left_level m (from_joint w.And And refl refl 5 (omega arith)) in
      let py : Part 4 y o n = reads y g.2 4 (omega (arith, g.0.right_level)) n (from_lower l 4 n (omega (arith, h)) f) in
      let wy : Whole 4 y o n = whole_of 4 y o n (from_lower l 5 n h f) (few y g.2 4) py in
      let p : Part 5 (joined And x y) (spelling x m) n = operator_part And w.And 3 x y (spelling x m) o n refl refl refl (λ left k. refl) px wy in
      climb l 5 (and_ at x y) (spelling x m) n h (omega arith) (λ z. absurd (omega (arith, z))) f
      (few (and_ at x y) g) (subst (λ a. Part 5 (and_ a x y) (spelling x m) n) (sym g.0.place) p)
  reads (or_ at x y) g l h n f =
      let o : List Mark = spelling y n in
      let m : List Mark = mark.word w.Or ∷ o in
      let px : Part 6 x (spelling x m) m = reads x g.1 6 g.0.left_level m (from_joint w.Or Or refl refl 6 (omega arith)) in
      let py : Part 5 y o n = reads y g.2 5 (omega (arith, g.0.right_level)) n (from_lower l 5 n (omega (arith, h)) f) in
      let wy : Whole 5 y o n = whole_of 5 y o n (from_lower l 6 n h f) (few y g.2 5) py in
      let p : Part 6 (joined Or x y) (spelling x m) n = operator_part Or w.Or 4 x y (spelling x m) o n refl refl refl (λ left k. refl) px wy in
      climb l 6 (or_ at x y) (spelling x m) n h (omega arith) (λ z. absurd (omega (arith, z))) f (few (or_ at x y) g)
      (subst (λ a. Part 6 (or_ a x y) (spelling x m) n) (sym g.0.place) p)
  reads (index at x y) g l h n f =
      let o : List Mark = mark.word w.SquareClose ∷ n in
      let c : First (From 7) o = free 7 w.SquareClose refl refl in
      let m : List Mark = mark.word w.SquareOpen ∷ spelling y o in
      let px : Part 0 x (spelling x m) m = reads x g.1 0 g.0.level_is m (from_joint w.SquareOpen Indexing refl refl 0 (omega arith)) in
      let ry : Reads (λ k. operand 6 ∷ k) (λ vs. of_expression y ∷ vs) (spelling y o) o = operand_from y o g.2 c (reads y g.2 6 (level_most y) o (lower 6 o c)) in
      let p : Part 0 (joined Indexing x y) (spelling x m) n = joint_part Indexing w.SquareOpen 0 x y (spelling x m) (spelling y o) n (λ k. operand 6 ∷ word w.SquareClose ∷ act (joined_by Indexing) ∷ k) refl refl refl (λ left k. refl) (λ left k. refl) px (ry then reads_word w.SquareClose n then acts (joined_by Indexing) n) in
      climb l 0 (index at x y) (spelling x m) n h (omega arith) (λ z. no_prefix_first x m g.1 g.0.level_is) f
      (few (index at x y) g) (subst (λ a. Part 0 (index a x y) (spelling x m) n) (sym g.0.place) p)

  pub arguments_read : (c : Closing) (es : Expressions) → AreGrouped es → (n : List Mark)
      → Reads (λ k. arguments (closing_word c) ∷ k) (with_expressions es)
      (list_spelling es (mark.word (closing_word c) ∷ n)) n
  arguments_read c no_expression g n = begun_anywhere (kind.fixed (closing_word c))
      (λ k. arguments (closing_word c) ∷ k) (λ at k vs. rw (is_same (closing_word c)) refl) (nothing n)
  arguments_read c (expression e es) g n =
      let o : List Mark = more_spelling es (mark.word (closing_word c) ∷ n) in
      instead (arguments_begin (closing_word c) (spelling e o) (not_closing c (spelling e o) (opening_first e o)))
      (operand_from e o g.0 (more_free c es n) (reads e g.0 6 (level_most e) o (lower 6 o (more_free c es n))) then acts adds_expression o then more_arguments_read c es g.1 n)

  pub more_arguments_read : (c : Closing) (es : Expressions) → AreGrouped es → (n : List Mark)
      → Reads (λ k. more_arguments (closing_word c) ∷ k) (with_expressions es)
      (more_spelling es (mark.word (closing_word c) ∷ n)) n
  more_arguments_read c no_expression g n =
      begun_anywhere (kind.fixed (closing_word c)) (λ k. more_arguments (closing_word c) ∷ k)
      (λ at k vs. rw (is_same (closing_word c)) refl) (nothing n)
  more_arguments_read c (expression e es) g n =
      let o : List Mark = more_spelling es (mark.word (closing_word c) ∷ n) in
      begun_anywhere (kind.fixed w.Comma) (λ k. more_arguments (closing_word c) ∷ k) (λ at k vs. rw (closing_comma c) refl)
      (operand_from e o g.0 (more_free c es n) (reads e g.0 6 (level_most e) o (lower 6 o (more_free c es n))) then acts adds_expression o then more_arguments_read c es g.1 n)

  pub query_read : (q : Query) → IsGroupedQuery q → (n : List Mark) → Reads (λ k. a_query ∷ k) (λ vs. of_query q ∷ vs) (query_spelling q n) n
  query_read (insert at t no_expression) g n = absurd (g.0 refl)
  query_read (insert at t (expression e es)) g n =
      let a : List Mark = after_row n in
      let o : List Mark = more_spelling es (mark.word w.Close ∷ a) in
      valued (valued_insert at t (expression e es)) (begun at (kind.fixed w.Insert) (λ k. a_query ∷ k) (λ k vs. refl)
      (reads_name t (mark.word w.Open ∷ spelling e o) then reads_word w.Open (spelling e o) then acts (puts (of_expressions [])) (spelling e o)
      then operand_from e o g.1.0 (more_free round es a) (reads e g.1.0 6 (level_most e) o (lower 6 o (more_free round es a))) then acts adds_expression o then more_arguments_read round es g.1.1 a
      then reads_word w.Semicolon n then acts (inserted at) n))
  query_read (select at [] t cs) g n = absurd (g.0 refl)
  query_read (select at (x ∷ xs) t cs) g n =
      let a : List Mark = where_spelling cs (after_row n) in
      let o : List Mark = names_before xs (mark.word w.From ∷ named t ∷ a) in
      valued (valued_select at (x ∷ xs) t cs) (begun at (kind.fixed w.Select) (λ k. a_query ∷ k) (λ k vs. refl)
      (reads_name x o then acts adds_name o then more_names_read source xs (named t ∷ a) then reads_name t a
      then acts (puts (of_tests [])) a then filter_read cs g.1 n then reads_word w.Semicolon n then acts (selected at) n))
  query_read (update at t no_assignment cs) g n = absurd (g.0 refl)
  query_read (update at t (assignment x e ss) cs) g n =
      let a : List Mark = where_spelling cs (after_row n) in
      let o : List Mark = more_sets_spelling ss a in
      valued (valued_update at t (assignment x e ss) cs) (begun at (kind.fixed w.Update) (λ k. a_query ∷ k) (λ k vs. refl)
      (reads_name t (mark.word w.Set ∷ named x ∷ mark.word w.Becomes ∷ spelling e o) then reads_word w.Set
      (named x ∷ mark.word w.Becomes ∷ spelling e o) then acts (puts (of_sets []))
      (named x ∷ mark.word w.Becomes ∷ spelling e o)
      then reads_name x (mark.word w.Becomes ∷ spelling e o) then reads_word w.Becomes
      (spelling e o) then operand_from e o g.1.0 (sets_free ss cs n)
      (reads e g.1.0 6 (level_most e) o (lower 6 o (sets_free ss cs n))) then acts adds_set o
      then more_sets_read ss g.1.1 cs n then acts (puts (of_tests [])) a then filter_read cs g.2 n then reads_word w.Semicolon n then acts (updated at) n))
  query_read (delete at t cs) g n =
      let a : List Mark = where_spelling cs (after_row n) in
      valued (valued_delete at t cs) (begun at (kind.fixed w.Delete) (λ k. a_query ∷ k) (λ k vs. refl)
      (reads_name t a then acts (puts (of_tests [])) a then filter_read cs g n then reads_word w.Semicolon n then acts (deleted at) n))
  query_read (expect at e t cs) g n =
      let a : List Mark = where_spelling cs (after_row n) in
      let o : List Mark = mark.word w.From ∷ named t ∷ a in
      let c : First (From 7) o = free 7 w.From refl refl in
      valued (valued_expect at e t cs) (begun at (kind.fixed w.Expect) (λ k. a_query ∷ k) (λ k vs. refl)
      (operand_from e o g.0 c (reads e g.0 6 (level_most e) o (lower 6 o c)) then reads_word w.From (named t ∷ a) then reads_name t a
      then acts (puts (of_tests [])) a then filter_read cs g.1 n then reads_word w.Semicolon n then acts (expected at) n))

  pub queries_read : (qs : Queries) → AreGroupedQueries qs → (n : List Mark)
      → Reads (λ k. more_queries ∷ k) (with_queries qs) (queries_spelling qs (mark.word w.BraceClose ∷ n)) n
  queries_read no_query g n = begun_anywhere (kind.fixed w.BraceClose) (λ k. more_queries ∷ k) (λ at k vs. refl) (nothing n)
  queries_read (query q qs) g n =
      let o : List Mark = queries_spelling qs (mark.word w.BraceClose ∷ n) in
      instead (queries_begin q o) (query_read q g.0 o then acts adds_query o then queries_read qs g.1 n)

  pub filter_read : (cs : Conditions) → AreGroupedTests cs → (n : List Mark)
      → Reads (λ k. filter ∷ k) (with_conditions cs) (where_spelling cs (after_row n)) (after_row n)
  filter_read no_condition g n = filter_ends (after_row n) refl
  filter_read (condition x c e cs) g n =
      let o : List Mark = and_spelling cs (after_row n) in
      begun_anywhere (kind.fixed w.Where) (λ k. filter ∷ k) (λ at k vs. refl)
      (reads_name x (mark.word (comparison_word c) ∷ spelling e o) then comparison_read c (spelling e o)
      then sum_from e o g.1 (and_free cs n) (reads e g.1 3 g.0 o (lower 3 o (and_free cs n))) then acts adds_test o then more_tests_read cs g.2 n)

  pub more_tests_read : (cs : Conditions) → AreGroupedTests cs → (n : List Mark)
      → Reads (λ k. more_tests ∷ k) (with_conditions cs) (and_spelling cs (after_row n)) (after_row n)
  more_tests_read no_condition g n = more_tests_end (after_row n) refl
  more_tests_read (condition x c e cs) g n =
      let o : List Mark = and_spelling cs (after_row n) in
      begun_anywhere (kind.fixed w.And) (λ k. more_tests ∷ k) (λ at k vs. refl)
      (reads_name x (mark.word (comparison_word c) ∷ spelling e o) then comparison_read c (spelling e o)
      then sum_from e o g.1 (and_free cs n) (reads e g.1 3 g.0 o (lower 3 o (and_free cs n))) then acts adds_test o then more_tests_read cs g.2 n)

  pub more_sets_read : (ss : Assignments) → AreGroupedSets ss → (cs : Conditions) (n : List Mark)
      → Reads (λ k. more_sets ∷ k) (with_assignments ss) (more_sets_spelling ss (where_spelling cs (after_row n)))
      (where_spelling cs (after_row n))
  more_sets_read no_assignment g cs n = more_sets_end (where_spelling cs (after_row n)) (where_comma cs n)
  more_sets_read (assignment x e ss) g cs n =
      let o : List Mark = more_sets_spelling ss (where_spelling cs (after_row n)) in
      begun_anywhere (kind.fixed w.Comma) (λ k. more_sets ∷ k) (λ at k vs. refl)
      (reads_name x (mark.word w.Becomes ∷ spelling e o) then reads_word w.Becomes (spelling e o)
      then operand_from e o g.0 (sets_free ss cs n) (reads e g.0 6 (level_most e) o (lower 6 o (sets_free ss cs n))) then acts adds_set o then more_sets_read ss g.1 cs n)

-- ---- statements

else_ends : (n : List Mark) → First (IsNot w.Else) n → Reads (λ k. else_part ∷ k) (λ vs. of_else no_else ∷ vs) n n
else_ends n f = record { goes = λ ts h. (ts, h, λ k vs. ends ts h k vs) }
  where
    ends : (ts : List Token) → AreTokens n ts → (k : List Symbol) (vs : List Val) → run ts (else_part ∷ k) vs ≡ run ts k (of_else no_else ∷ vs)
    ends [] h k vs = refl
    ends (t ∷ ts) h k vs = let g : IsNot w.Else t.kind = first_is (IsNot w.Else) n t ts f h in same_step t ts (else_part ∷ k) k vs (of_else no_else ∷ vs) (rw g refl)

-- no closing brace, and no else
abbrev pub IsStarting : Kind → Type 0
IsStarting t = IsNot w.BraceClose t × IsNot w.Else t

pub statement_first : (s : Statement) (n : List Mark) → First IsStarting (statement_spelling s n)
statement_first (let_ at x e) n = (refl, refl)
statement_first (set_ at x e) n = (refl, refl)
statement_first (if_ at e body other) n = (refl, refl)
statement_first (while_ at e body) n = (refl, refl)
statement_first (for_ at x e body) n = (refl, refl)
statement_first (echo at e) n = (refl, refl)
statement_first (status at e) n = (refl, refl)
statement_first (return at e) n = (refl, refl)
statement_first (do_ at e) n = (refl, refl)

starts : (m : List Mark) → First IsStarting m → First (IsNot w.BraceClose) m
starts [] f = tt
starts (x ∷ xs) f = f.0

no_else_starts : (m : List Mark) → First IsStarting m → First (IsNot w.Else) m
no_else_starts [] f = tt
no_else_starts (x ∷ xs) f = f.1

after_statement : (ss : Statements) (n : List Mark) → First (IsNot w.Else) (statements_spelling ss (mark.word w.BraceClose ∷ n))
after_statement no_statement n = refl
after_statement (statement s ss) n = let o = statements_spelling ss (mark.word w.BraceClose ∷ n) in no_else_starts (statement_spelling s o) (statement_first s o)

after_member : (ss : List Statement) (n : List Mark) → First (IsNot w.Else) (block_spelling ss (mark.word w.BraceClose ∷ n))
after_member [] n = refl
after_member (s ∷ ss) n = let o = block_spelling ss (mark.word w.BraceClose ∷ n) in no_else_starts (statement_spelling s o) (statement_first s o)

statements_begin : (s : Statement) (n : List Mark) (ts : List Token) → AreTokens (statement_spelling s n) ts
    → (k : List Symbol) (vs : List Val) → run ts (statements ∷ k) vs
    ≡ run ts (a_statement ∷ act adds_statement ∷ statements ∷ k) vs
statements_begin s n [] h k vs = refl
statements_begin s n (t ∷ ts) h k vs =
    let g : IsNot w.BraceClose t.kind = first_is (IsNot w.BraceClose) (statement_spelling s n) t ts (starts (statement_spelling s n) (statement_first s n)) h in
    same_step t ts (statements ∷ k) (a_statement ∷ act adds_statement ∷ statements ∷ k) vs vs (rw g refl)

-- an expression before a word after which none goes on
expression_read : (e : Expression) → IsGrouped e → (v : Word) → From 7 (kind.fixed v) → (n : List Mark)
    → Reads (λ k. operand 6 ∷ k) (λ vs. of_expression e ∷ vs) (spelling e (mark.word v ∷ n)) (mark.word v ∷ n)
expression_read e g v f n = operand_from e (mark.word v ∷ n) g f (reads e g 6 (level_most e) (mark.word v ∷ n) (lower 6 (mark.word v ∷ n) f))

ended_read : (e : Expression) → IsGrouped e → (n : List Mark)
    → Reads (λ k. operand 6 ∷ word w.Semicolon ∷ k) (λ vs. of_expression e ∷ vs)
    (spelling e (mark.word w.Semicolon ∷ n)) n
ended_read e g n = expression_read e g w.Semicolon (free 7 w.Semicolon refl refl) n then reads_word w.Semicolon n

-- an expression, and the brace of the block after it
opened_read : (e : Expression) → IsGrouped e → (n : List Mark)
    → Reads (λ k. operand 6 ∷ word w.BraceOpen ∷ act (puts (of_statements [])) ∷ k)
    (λ vs. of_statements [] ∷ of_expression e ∷ vs) (spelling e (mark.word w.BraceOpen ∷ n)) n
opened_read e g n = expression_read e g w.BraceOpen (free 7 w.BraceOpen refl refl) n then reads_word w.BraceOpen n then acts (puts (of_statements [])) n

bound_read : (x : Name) (e : Expression) → IsGrouped e → (n : List Mark)
    → Reads (λ k. a_name ∷ word w.Becomes ∷ operand 6 ∷ word w.Semicolon ∷ k) (λ vs. of_expression e ∷ of_name x ∷ vs)
    (named x ∷ mark.word w.Becomes ∷ spelling e (mark.word w.Semicolon ∷ n)) n
bound_read x e g n =
    let o : List Mark = spelling e (mark.word w.Semicolon ∷ n) in
    reads_name x (mark.word w.Becomes ∷ o) then reads_word w.Becomes o then ended_read e g n

pub valued_if : (at : ℕ) (e : Expression) (ss : Statements) (other : Else) (vs : List Val)
    → apply (branched at) (of_else other ∷ with_statements ss (of_statements [] ∷ of_expression e ∷ vs))
    ≡ of_statement (if_ at e ss other) ∷ vs
valued_if at e ss other vs = ap (λ us. apply (branched at) (of_else other ∷ us))
    (all_statements ss [] (of_expression e ∷ vs))
    ∙ ap (λ x. of_statement (if_ at e x other) ∷ vs) (statements_again ss)

pub valued_while : (at : ℕ) (e : Expression) (ss : Statements) (vs : List Val)
    → apply (repeated at) (with_statements ss (of_statements [] ∷ of_expression e ∷ vs))
    ≡ of_statement (while_ at e ss) ∷ vs
valued_while at e ss vs = ap (apply (repeated at)) (all_statements ss [] (of_expression e ∷ vs))
    ∙ ap (λ x. of_statement (while_ at e x) ∷ vs) (statements_again ss)

pub valued_for : (at : ℕ) (x : Name) (e : Expression) (ss : Statements) (vs : List Val)
    → apply (turned at) (with_statements ss (of_statements [] ∷ of_expression e ∷ of_name x ∷ vs))
    ≡ of_statement (for_ at x e ss) ∷ vs
valued_for at x e ss vs = ap (apply (turned at)) (all_statements ss [] (of_expression e ∷ of_name x ∷ vs))
    ∙ ap (λ z. of_statement (for_ at x e z) ∷ vs) (statements_again ss)

pub valued_else : (ss : Statements) (vs : List Val) → apply otherwise (with_statements ss (of_statements [] ∷ vs)) ≡ of_else (else_ ss) ∷ vs
valued_else ss vs = ap (apply otherwise) (all_statements ss [] vs) ∙ ap (λ x. of_else (else_ x) ∷ vs) (statements_again ss)

mutual
  pub statement_read : (s : Statement) → IsGroupedStatement s → (n : List Mark) → First (IsNot w.Else) n
      → Reads (λ k. a_statement ∷ k) (λ vs. of_statement s ∷ vs) (statement_spelling s n) n
  statement_read (let_ at x e) g n f = begun at (kind.fixed w.Let) (λ k. a_statement ∷ k) (λ k vs. refl) (bound_read x e g n then acts (bound (let_ at)) n)
  statement_read (set_ at x e) g n f = begun at (kind.fixed w.Set) (λ k. a_statement ∷ k) (λ k vs. refl) (bound_read x e g n then acts (bound (set_ at)) n)
  statement_read (if_ at e body other) g n f =
      let o : List Mark = else_spelling other n in
      valued (valued_if at e body other) (begun at (kind.fixed w.If) (λ k. a_statement ∷ k) (λ k vs. refl)
      (opened_read e g.0 (statements_spelling body (mark.word w.BraceClose ∷ o)) then statements_read body g.1 o then else_read other g.2 n f then acts (branched at) n))
  statement_read (while_ at e body) g n f =
      valued (valued_while at e body) (begun at (kind.fixed w.While) (λ k. a_statement ∷ k) (λ k vs. refl)
      (opened_read e g.0 (statements_spelling body (mark.word w.BraceClose ∷ n)) then statements_read body g.1 n then acts (repeated at) n))
  statement_read (for_ at x e body) g n f =
      let o : List Mark = spelling e (mark.word w.BraceOpen ∷ statements_spelling body (mark.word w.BraceClose ∷ n)) in
      valued (valued_for at x e body) (begun at (kind.fixed w.For) (λ k. a_statement ∷ k) (λ k vs. refl)
      (reads_name x (mark.word w.In ∷ o) then reads_word w.In o then opened_read e g.0
      (statements_spelling body (mark.word w.BraceClose ∷ n)) then statements_read body g.1 n then acts
      (turned at) n))
  statement_read (echo at e) g n f = begun at (kind.fixed w.Echo) (λ k. a_statement ∷ k) (λ k vs. refl) (ended_read e g n then acts (said (echo at)) n)
  statement_read (status at e) g n f = begun at (kind.fixed w.Status) (λ k. a_statement ∷ k) (λ k vs. refl) (ended_read e g n then acts (said (status at)) n)
  statement_read (return at e) g n f = begun at (kind.fixed w.Return) (λ k. a_statement ∷ k) (λ k vs. refl) (ended_read e g n then acts (said (return at)) n)
  statement_read (do_ at e) g n f = begun at (kind.fixed w.Do) (λ k. a_statement ∷ k) (λ k vs. refl) (ended_read e g n then acts (said (do_ at)) n)

  pub else_read : (other : Else) → IsGroupedElse other → (n : List Mark) → First (IsNot w.Else) n
      → Reads (λ k. else_part ∷ k) (λ vs. of_else other ∷ vs) (else_spelling other n) n
  else_read no_else g n f = else_ends n f
  else_read (else_ body) g n f =
      let o : List Mark = statements_spelling body (mark.word w.BraceClose ∷ n) in
      valued (valued_else body) (begun_anywhere (kind.fixed w.Else) (λ k. else_part ∷ k) (λ at k vs. refl)
      (reads_word w.BraceOpen o then acts (puts (of_statements [])) o then statements_read body g n then acts otherwise n))

  -- up to the closing brace
  pub statements_read : (ss : Statements) → AreGroupedStatements ss → (n : List Mark)
      → Reads (λ k. statements ∷ k) (with_statements ss) (statements_spelling ss (mark.word w.BraceClose ∷ n)) n
  statements_read no_statement g n = begun_anywhere (kind.fixed w.BraceClose) (λ k. statements ∷ k) (λ at k vs. refl) (nothing n)
  statements_read (statement s ss) g n =
      let o : List Mark = statements_spelling ss (mark.word w.BraceClose ∷ n) in
      instead (statements_begin s o) (statement_read s g.0 o (after_statement ss n) then acts adds_statement o then statements_read ss g.1 n)

pub block_read : (ss : List Statement) → IsGroupedBlock ss → (n : List Mark)
    → Reads (λ k. statements ∷ k) (with_block ss) (block_spelling ss (mark.word w.BraceClose ∷ n)) n
block_read [] g n = begun_anywhere (kind.fixed w.BraceClose) (λ k. statements ∷ k) (λ at k vs. refl) (nothing n)
block_read (s ∷ ss) g n =
    let o : List Mark = block_spelling ss (mark.word w.BraceClose ∷ n) in
    instead (statements_begin s o) (statement_read s g.0 o (after_member ss n) then acts adds_statement o then block_read ss g.1 n)

-- ---- declarations

opened_block : (ss : List Statement) → IsGroupedBlock ss → (n : List Mark)
    → Reads (λ k. word w.BraceOpen ∷ act (puts (of_statements [])) ∷ statements ∷ k) (λ vs. of_statements ss ∷ vs)
    (mark.word w.BraceOpen ∷ block_spelling ss (mark.word w.BraceClose ∷ n)) n
opened_block ss g n =
    let o : List Mark = block_spelling ss (mark.word w.BraceClose ∷ n) in
    valued (λ vs. all_of_block ss [] vs) (reads_word w.BraceOpen o then acts (puts (of_statements [])) o then block_read ss g n)

pub valued_table : (at : ℕ) (x : Name) (xs : List Name) (vs : List Val)
    → apply (tabled at) (with_names xs (of_names [] ∷ of_name x ∷ vs)) ≡ of_declaration (declared.Table at x xs) ∷ vs
valued_table at x xs vs = ap (apply (tabled at)) (all_names xs [] (of_name x ∷ vs))

pub valued_function : (at : ℕ) (f : Name) (xs : List Name) (ss : List Statement) (vs : List Val)
    → apply (defined at) (of_statements ss ∷ with_names xs (of_names [] ∷ of_name f ∷ vs))
    ≡ of_declaration (declared.Function at f xs ss) ∷ vs
valued_function at f xs ss vs = ap (λ us. apply (defined at) (of_statements ss ∷ us)) (all_names xs [] (of_name f ∷ vs))

pub declarations_read : (ds : List Declaration) → AreGroupedDeclarations ds → Reads (λ k. declarations ∷ k) (with_declarations ds) (declarations_spelling ds) []
declarations_read [] g = record { goes = λ ts h. (ts, h, λ k vs. ends ts h k vs) }
  where
    ends : (ts : List Token) → ts ≡ [] → (k : List Symbol) (vs : List Val) → run ts (declarations ∷ k) vs ≡ run ts k vs
    ends ts h k vs = rw h refl
declarations_read (declared.Store at x ∷ ds) g =
    let n : List Mark = declarations_spelling ds in
    begun at (kind.fixed w.Store) (λ k. declarations ∷ k) (λ k vs. refl)
    (reads_name x (mark.word w.Semicolon ∷ n) then reads_word w.Semicolon n then acts (stored at) n then acts adds_declaration n then declarations_read ds g.1)
declarations_read (declared.Table at x [] ∷ ds) g = absurd (g.0 refl)
declarations_read (declared.Table at x (c ∷ cs) ∷ ds) g =
    let n : List Mark = declarations_spelling ds in
    let o : List Mark = names_before cs (mark.word w.Close ∷ mark.word w.Semicolon ∷ n) in
    valued (λ vs. ap (λ us. with_declarations ds (apply adds_declaration us)) (valued_table at x (c ∷ cs) vs))
    (begun at (kind.fixed w.Table) (λ k. declarations ∷ k) (λ k vs. refl)
    (reads_name x (mark.word w.Open ∷ named c ∷ o) then reads_word w.Open (named c ∷ o) then acts (puts (of_names []))
    (named c ∷ o) then reads_name c o then acts adds_name o then more_names_read round cs
    (mark.word w.Semicolon ∷ n)
    then reads_word w.Semicolon n then acts (tabled at) n then acts adds_declaration n then declarations_read ds g.1))
declarations_read (declared.Function at f xs ss ∷ ds) g =
    let n : List Mark = declarations_spelling ds in
    let b : List Mark = mark.word w.BraceOpen ∷ block_spelling ss (mark.word w.BraceClose ∷ n) in
    let o : List Mark = names xs (mark.word w.Close ∷ b) in
    valued (λ vs. ap (λ us. with_declarations ds (apply adds_declaration us)) (valued_function at f xs ss vs))
    (begun at (kind.fixed w.Function) (λ k. declarations ∷ k) (λ k vs. refl)
    (reads_name f (mark.word w.Open ∷ o) then reads_word w.Open o then acts (puts (of_names [])) o then parameters_read xs b then opened_block ss g.0 n
    then acts (defined at) n then acts adds_declaration n then declarations_read ds g.1))
declarations_read (declared.Page at path ss ∷ ds) g =
    let n : List Mark = declarations_spelling ds in
    let b : List Mark = mark.word w.BraceOpen ∷ block_spelling ss (mark.word w.BraceClose ∷ n) in
    begun at (kind.fixed w.Page) (λ k. declarations ∷ k) (λ k vs. refl)
    (reads_path path b then opened_block ss g.0 n then acts (paged at) n then acts adds_declaration n then declarations_read ds g.1)

-- the whole of it
pub whole_read : (ts : List Token) (ds : List Declaration) → AreTokens (declarations_spelling ds) ts
    → AreGroupedDeclarations ds → run_file ts ≡ done (of_declarations ds ∷ [])
whole_read ts ds h g =
    let a = (declarations_read ds g).goes ts h in
    a.2 [] (of_declarations [] ∷ [])
    ∙ ap (λ us. run us [] (with_declarations ds (of_declarations [] ∷ []))) a.1
    ∙ ap done (all_declarations ds [] [])
