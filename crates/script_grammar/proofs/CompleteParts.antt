-- What the machine reads of a tree's tokens: what an expression begins with, operators, names and ends.
use Rattle.std.proofs.Common.{◌≡◌, ℕ, suc, ◌+◌, ◌-◌, ◌≤◌, nat_eq, if◌then◌else◌, List, [], ◌∷◌, Some, true, false, refl, sym, ap, ◌∙◌, arith}
use Rattle.std.proofs.lemmas.Bool.Decides.{nat_tests}
use Rattle.script_tree.specs.Syntax.{Expression, number, text, truth, null, bracket, variable, call, list, transact, unary, binary, and_, or_, index, expression}
use Rattle.script_tree.specs.declared.comparison.Comparison.{Comparison}
use Rattle.script_tree.specs.declared.comparison.Comparison.TheVariants as compared
use Rattle.script_tree.specs.declared.syntax.operator.UnaryOperator.{UnaryOperator}
use Rattle.script_tree.specs.declared.syntax.operator.UnaryOperator.TheVariants as one
use Rattle.script_tree.specs.declared.syntax.operator.BinaryOperator.{BinaryOperator}
use Rattle.script_tree.specs.declared.syntax.operator.BinaryOperator.TheVariants as two
use Rattle.script_tree.specs.declared.syntax.name.Name.{Name}
use Rattle.script_tokens.specs.Kinds as kind
use Rattle.script_tokens.specs.Kinds.{Kind, Token, token}
use Rattle.script_tokens.specs.declared.word.Word.{Word}
use Rattle.script_tokens.specs.declared.word.Word.TheVariants as w
use Rattle.script_grammar.specs.Spelling as mark
use Rattle.script_grammar.specs.Spelling.{Mark, at_word, comparison_word, infix_word, prefix_word, names_before, names, spelling, AreTokens}
use Rattle.script_grammar.specs.Grouping.{operator_level, level, row, repeats, IsGrouped}
use Rattle.script_grammar.specs.Machine.{joint_level, joined, word_joint, Val, of_expression, of_comparison, adds_name, joined_by, prefixed, apply, Symbol, act, word, a_comparison, operand, prefixes, atom, tail, name_tail, parameters, more_names, after_joint, feed, run}
use Rattle.script_grammar.specs.declared.joint.Joint.{Joint}
use Rattle.script_grammar.specs.declared.joint.Joint.TheVariants.{And, Or, Operator}
use Rattle.script_tokens.specs.Feed.{is_word}
use Rattle.script_grammar.proofs.Added.{with_names}
use Rattle.script_grammar.proofs.Levels.{From, free, opening, closing, Part, Whole, IsNoPrefix, climb, operand_of, few}
use Rattle.script_grammar.proofs.Steps.{is_same, step_on, same_step, act_runs, Reads, ◌then◌, begun, begun_anywhere, nothing, reads_name, acts, First, first_is, IsNot}

-- ---- parts of expressions

pub an_atom : (l : ℕ) (e : Expression) (m n : List Mark) → level e ≡ 0 → row e ≡ 0 → First IsNoPrefix m
    → First (From l) n → IsGrouped e → Reads (λ k. atom ∷ k) (λ vs. of_expression e ∷ vs) m n → Part l e m n
an_atom l e m n z r f g grouped reads =
    let none : repeats 0 e ≡ 0 = rw (z, r) refl in
    let p : Part 0 e m n = record {
      goes = λ ts h.
          let a = reads.goes ts h in
          (a.0, a.1, λ d k vs. let q : repeats 0 e + d ≡ d = omega (arith, none) in ap (λ x. run ts (atom ∷ tail 0 x ∷ k) vs) q ∙ a.2 (tail 0 d ∷ k) vs);
    } in
    climb l 0 e m n (omega arith) (omega (arith, z)) (λ t. f) g (few e grouped) p

prefix_feeds : (at : ℕ) (operator : UnaryOperator) (left : ℕ) (k : List Symbol) (vs : List Val)
    → feed (token at (kind.fixed (prefix_word operator))) (prefixes (suc left) ∷ k) vs
    ≡ Some (prefixes left ∷ act (prefixed at operator) ∷ k, vs)
prefix_feeds at one.Not left k vs = refl
prefix_feeds at one.Negate left k vs = refl

pub unary_part : (at : ℕ) (operator : UnaryOperator) (e : Expression) (m n : List Mark) → Part 1 e m n
    → Part 1 (unary at operator e) (at_word at (prefix_word operator) ∷ m) n
unary_part at operator e m n p = record {
  goes = λ ts h.
      let a = p.goes h.0 h.2 in (
        a.0,
        a.1,
        λ d k vs.
            let q : repeats 1 (unary at operator e) + d ≡ suc (repeats 1 e + d) = omega arith in
            ap (λ x. run ts (prefixes x ∷ k) vs) q
            ∙ ap (λ us. run us (prefixes (suc (repeats 1 e + d)) ∷ k) vs) h.1
            ∙ step_on (token at (kind.fixed (prefix_word operator))) h.0 (prefixes (suc (repeats 1 e + d)) ∷ k)
            (prefixes (repeats 1 e + d) ∷ act (prefixed at operator) ∷ k) vs vs
            (prefix_feeds at operator (repeats 1 e + d) k vs)
            ∙ a.2 d (act (prefixed at operator) ∷ k) vs
            ∙ act_runs (prefixed at operator) a.0 k (of_expression e ∷ vs),
      );
}

pub itself : (n : ℕ) → nat_eq n n ≡ true
itself n = grind (arith, nat_tests)

joint_feeds : (at : ℕ) (v : Word) (j : Joint) (l left : ℕ) (k : List Symbol) (vs : List Val) → word_joint v ≡ Some j
    → joint_level j ≡ l → feed (token at (kind.fixed v)) (tail l (suc left) ∷ k) vs
    ≡ Some (after_joint j l left k, vs)
joint_feeds at v j l left k vs e q = rw (e, q, itself) refl

-- what a joint Operator
pub joint_part : (j : Joint) (v : Word) (l : ℕ) (x y : Expression) (m o n : List Mark)
    (body : List Symbol → List Symbol) → word_joint v ≡ Some j → joint_level j ≡ l
    → repeats l (joined j x y) ≡ suc (repeats l x)
    → ((left : ℕ) (k : List Symbol) → closing l left k ≡ tail l left ∷ k) → ((left : ℕ) (k : List Symbol) → after_joint j l left k ≡ body (tail l left ∷ k))
    → Part l x m (mark.word v ∷ o) → Reads body (λ vs. apply (joined_by j) (of_expression y ∷ vs)) o n → Part l (joined j x y) m n
joint_part j v l x y m o n body e q more closes after p r = record {
  goes = λ ts h.
      let a = p.goes ts h in
      let b = r.goes a.1.1 a.1.3 in (
        b.0,
        b.1,
        λ d k vs.
            let s : repeats l (joined j x y) + d ≡ repeats l x + suc d = omega (arith, more) in
            ap (λ x. run ts (opening l x k) vs) s
            ∙ a.2 (suc d) k vs
            ∙ ap (λ s. run a.0 s (of_expression x ∷ vs)) (closes (suc d) k)
            ∙ ap (λ us. run us (tail l (suc d) ∷ k) (of_expression x ∷ vs)) a.1.2
            ∙ step_on (token a.1.0 (kind.fixed v)) a.1.1 (tail l (suc d) ∷ k) (after_joint j l d k)
            (of_expression x ∷ vs) (of_expression x ∷ vs) (joint_feeds a.1.0 v j l d k (of_expression x ∷ vs) e q)
            ∙ ap (λ s. run a.1.1 s (of_expression x ∷ vs)) (after d k)
            ∙ b.2 (tail l d ∷ k) (of_expression x ∷ vs)
            ∙ ap (λ s. run b.0 s (of_expression (joined j x y) ∷ vs)) (sym (closes d k)),
      );
}

-- ---- what an expression begins with

pub no_prefix_first : (e : Expression) (n : List Mark) → IsGrouped e → level e ≤ 0 → First IsNoPrefix (spelling e n)
no_prefix_first (number at v) n g h = refl
no_prefix_first (text at bytes) n g h = refl
no_prefix_first (truth at true) n g h = refl
no_prefix_first (truth at false) n g h = refl
no_prefix_first (null at) n g h = refl
no_prefix_first (bracket at e) n g h = refl
no_prefix_first (variable at x) n g h = refl
no_prefix_first (call at f es) n g h = refl
no_prefix_first (list at es) n g h = refl
no_prefix_first (transact at qs) n g h = refl
no_prefix_first (unary at operator e) n g h = absurd (omega (arith, h))
no_prefix_first (binary at (two.Compare c) x y) n g h = absurd (omega (arith, h))
no_prefix_first (binary at two.Plus x y) n g h = absurd (omega (arith, h))
no_prefix_first (binary at two.Minus x y) n g h = absurd (omega (arith, h))
no_prefix_first (binary at two.Times x y) n g h = absurd (omega (arith, h))
no_prefix_first (binary at two.Quotient x y) n g h = absurd (omega (arith, h))
no_prefix_first (binary at two.Remainder x y) n g h = absurd (omega (arith, h))
no_prefix_first (and_ at x y) n g h = absurd (omega (arith, h))
no_prefix_first (or_ at x y) n g h = absurd (omega (arith, h))
no_prefix_first (index at x y) n g h = no_prefix_first x (mark.word w.SquareOpen ∷ spelling y (mark.word w.SquareClose ∷ n)) g.1 g.0.level_is

-- no closing bracket, and no source
abbrev pub IsOpening : Kind → Type 0
IsOpening t = IsNot w.Close t × IsNot w.SquareClose t × IsNot w.From t

pub opening_first : (e : Expression) (n : List Mark) → First IsOpening (spelling e n)
opening_first (number at v) n = (refl, refl, refl)
opening_first (text at bytes) n = (refl, refl, refl)
opening_first (truth at true) n = (refl, refl, refl)
opening_first (truth at false) n = (refl, refl, refl)
opening_first (null at) n = (refl, refl, refl)
opening_first (bracket at e) n = (refl, refl, refl)
opening_first (variable at x) n = (refl, refl, refl)
opening_first (call at f es) n = (refl, refl, refl)
opening_first (list at es) n = (refl, refl, refl)
opening_first (transact at qs) n = (refl, refl, refl)
opening_first (unary at one.Not e) n = (refl, refl, refl)
opening_first (unary at one.Negate e) n = (refl, refl, refl)
opening_first (binary at operator x y) n = opening_first x (mark.word (infix_word operator) ∷ spelling y n)
opening_first (and_ at x y) n = opening_first x (mark.word w.And ∷ spelling y n)
opening_first (or_ at x y) n = opening_first x (mark.word w.Or ∷ spelling y n)
opening_first (index at x y) n = opening_first x (mark.word w.SquareOpen ∷ spelling y (mark.word w.SquareClose ∷ n))

-- ---- operators

pub infix_joint : (operator : BinaryOperator) → word_joint (infix_word operator) ≡ Some (Operator operator)
infix_joint (two.Compare compared.Equal) = refl
infix_joint (two.Compare compared.Unequal) = refl
infix_joint (two.Compare compared.Less) = refl
infix_joint (two.Compare compared.AtMost) = refl
infix_joint (two.Compare compared.Greater) = refl
infix_joint (two.Compare compared.AtLeast) = refl
infix_joint two.Plus = refl
infix_joint two.Minus = refl
infix_joint two.Times = refl
infix_joint two.Quotient = refl
infix_joint two.Remainder = refl

pub infix_open : (operator : BinaryOperator) → is_word w.Open (kind.fixed (infix_word operator)) ≡ false
infix_open (two.Compare compared.Equal) = refl
infix_open (two.Compare compared.Unequal) = refl
infix_open (two.Compare compared.Less) = refl
infix_open (two.Compare compared.AtMost) = refl
infix_open (two.Compare compared.Greater) = refl
infix_open (two.Compare compared.AtLeast) = refl
infix_open two.Plus = refl
infix_open two.Minus = refl
infix_open two.Times = refl
infix_open two.Quotient = refl
infix_open two.Remainder = refl

pub operator_levels : (operator : BinaryOperator) → (q : ℕ) × (operator_level operator ≡ suc (suc q)) × (operator_level operator - 1 ≡ suc q)
operator_levels (two.Compare c) = (2, refl, refl)
operator_levels two.Plus = (1, refl, refl)
operator_levels two.Minus = (1, refl, refl)
operator_levels two.Times = (0, refl, refl)
operator_levels two.Quotient = (0, refl, refl)
operator_levels two.Remainder = (0, refl, refl)

the_joint : (a b : Joint) → Some a ≡ Some b → b ≡ a
the_joint a b h = cc

pub from_joint : (v : Word) (j : Joint) → word_joint v ≡ Some j → is_word w.Open (kind.fixed v) ≡ false → (l : ℕ) → l ≤ joint_level j → From l (kind.fixed v)
from_joint v j e o l h = (o, λ i q. let s : i ≡ j = the_joint j i (sym e ∙ q) in rw s h)

pub row_again : (l l' : ℕ) (n : ℕ) (x : Expression) → l ≡ l' → (if nat_eq l l' then suc n else 0) ≡ suc n
row_again l l' n x e = rw (e, itself) refl

-- an operator of a level from 2 on
pub operator_part : (j : Joint) (v : Word) (q : ℕ) (x y : Expression) (m o n : List Mark) → word_joint v ≡ Some j
    → joint_level j ≡ suc (suc q) → repeats (suc (suc q)) (joined j x y) ≡ suc (repeats (suc (suc q)) x)
    → ((left : ℕ) (k : List Symbol) → after_joint j (suc (suc q)) left k ≡ operand (suc q) ∷ act (joined_by j) ∷ tail (suc (suc q)) left ∷ k)
    → Part (suc (suc q)) x m (mark.word v ∷ o) → Whole (suc q) y o n → Part (suc (suc q)) (joined j x y) m n
operator_part j v q x y m o n e l more after p r =
    joint_part j v (suc (suc q)) x y m o n (λ k. operand (suc q) ∷ act (joined_by j) ∷ k) e l more
    (λ left k. refl) after p (operand_of q y o n r then acts (joined_by j) n)

-- ---- names and ends

pub not_called : (at : ℕ) (x : List ℕ) (n : List Mark) → First (IsNot w.Open) n → Reads (λ k. name_tail at x ∷ k) (λ vs. of_expression (variable at x) ∷ vs) n n
not_called at x n f = record { goes = λ ts h. (ts, h, λ k vs. not_called_at ts h k vs) }
  where
    not_called_at : (ts : List Token) → AreTokens n ts → (k : List Symbol) (vs : List Val)
        → run ts (name_tail at x ∷ k) vs ≡ run ts k (of_expression (variable at x) ∷ vs)
    not_called_at [] h k vs = refl
    not_called_at (t ∷ ts) h k vs = let g : IsNot w.Open t.kind = first_is (IsNot w.Open) n t ts f h in same_step t ts (name_tail at x ∷ k) k vs (of_expression (variable at x) ∷ vs) (rw g refl)

pub data Closing : Type 0 where
  round : Closing
  square : Closing
  source : Closing

abbrev pub closing_word : Closing → Word
closing_word round = w.Close
closing_word square = w.SquareClose
closing_word source = w.From

pub closing_free : (c : Closing) → From 7 (kind.fixed (closing_word c))
closing_free round = free 7 w.Close refl refl
closing_free square = free 7 w.SquareClose refl refl
closing_free source = free 7 w.From refl refl

pub closing_comma : (c : Closing) → is_word (closing_word c) (kind.fixed w.Comma) ≡ false
closing_comma round = refl
closing_comma square = refl
closing_comma source = refl

pub more_names_read : (c : Closing) (xs : List Name) (n : List Mark)
    → Reads (λ k. more_names (closing_word c) ∷ k) (with_names xs)
    (names_before xs (mark.word (closing_word c) ∷ n)) n
more_names_read c [] n = begun_anywhere (kind.fixed (closing_word c)) (λ k. more_names (closing_word c) ∷ k)
    (λ at k vs. rw (is_same (closing_word c)) refl) (nothing n)
more_names_read c (x ∷ xs) n =
    begun_anywhere (kind.fixed w.Comma) (λ k. more_names (closing_word c) ∷ k) (λ at k vs. rw (closing_comma c) refl)
    (reads_name x (names_before xs (mark.word (closing_word c) ∷ n)) then acts adds_name
    (names_before xs (mark.word (closing_word c) ∷ n)) then more_names_read c xs n)

pub parameters_read : (xs : List Name) (n : List Mark) → Reads (λ k. parameters ∷ k) (with_names xs) (names xs (mark.word w.Close ∷ n)) n
parameters_read [] n = begun_anywhere (kind.fixed w.Close) (λ k. parameters ∷ k) (λ at k vs. refl) (nothing n)
parameters_read (x ∷ xs) n =
    begun x.at (kind.name x.text) (λ k. parameters ∷ k) (λ k vs. refl)
    (acts adds_name (names_before xs (mark.word w.Close ∷ n)) then more_names_read round xs n)

pub comparison_read : (c : Comparison) (n : List Mark) → Reads (λ k. a_comparison ∷ k) (λ vs. of_comparison c ∷ vs) (mark.word (comparison_word c) ∷ n) n
comparison_read compared.Equal n = begun_anywhere (kind.fixed w.Equal) (λ k. a_comparison ∷ k) (λ at k vs. refl) (nothing n)
comparison_read compared.Unequal n = begun_anywhere (kind.fixed w.Unequal) (λ k. a_comparison ∷ k) (λ at k vs. refl) (nothing n)
comparison_read compared.Less n = begun_anywhere (kind.fixed w.Less) (λ k. a_comparison ∷ k) (λ at k vs. refl) (nothing n)
comparison_read compared.AtMost n = begun_anywhere (kind.fixed w.AtMost) (λ k. a_comparison ∷ k) (λ at k vs. refl) (nothing n)
comparison_read compared.Greater n = begun_anywhere (kind.fixed w.Greater) (λ k. a_comparison ∷ k) (λ at k vs. refl) (nothing n)
comparison_read compared.AtLeast n = begun_anywhere (kind.fixed w.AtLeast) (λ k. a_comparison ∷ k) (λ at k vs. refl) (nothing n)
