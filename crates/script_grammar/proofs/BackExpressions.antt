-- One token back: a token and what it begins, a joint and what may stand before it, rows of operators.
use Rattle.std.proofs.Common.{◌≡◌, ◌≢◌, ℕ, zero, suc, ◌+◌, ◌-◌, ◌<◌, ◌≤◌, nat_eq, List, [], ◌∷◌, ◌⊎◌, inl, inr, Option, Some, None, Bool, true, false, if◌then◌else◌, refl, sym, ap, subst, arith}
use Rattle.std.proofs.lemmas.Bool.Decides.{nat_tests}
use Rattle.std.proofs.lemmas.Slice.Eq.{bytes_eq-Decides}
use Rattle.script_tree.specs.Syntax.{Expression, number, text, truth, null, bracket, list, transact, unary, Expressions, no_expression, expression, Query, Queries, no_query, query, Assignments, no_assignment, assignment}
use Rattle.script_tree.specs.declared.comparison.Comparison.{Comparison}
use Rattle.script_tree.specs.declared.comparison.Comparison.TheVariants as compared
use Rattle.script_tree.specs.declared.syntax.operator.UnaryOperator.{UnaryOperator}
use Rattle.script_tree.specs.declared.syntax.operator.UnaryOperator.TheVariants as one
use Rattle.script_tree.specs.declared.syntax.operator.BinaryOperator.{BinaryOperator}
use Rattle.script_tree.specs.declared.syntax.operator.BinaryOperator.TheVariants as two
use Rattle.script_tree.specs.declared.syntax.name.Name.{Name}
use Rattle.script_tokens.specs.Kinds as kind
use Rattle.script_tokens.specs.Kinds.{Kind, Token, token}
use Rattle.script_tokens.specs.Words.{spelling_of}
use Rattle.script_tokens.specs.declared.word.Word.{Word}
use Rattle.script_tokens.specs.declared.word.Word.TheVariants as w
use Rattle.script_tokens.proofs.WordTests.{spelled_once}
use Rattle.script_grammar.specs.Spelling as mark
use Rattle.script_grammar.specs.Spelling.{Mark, comparison_word, infix_word, prefix_word, spelling, queries_spelling, AreTokens}
use Rattle.script_grammar.specs.Grouping.{operator_level, level, if_same, row, repeats, most_repeats, IsGrouped}
use Rattle.script_grammar.specs.Machine.{joint_level, joined, joint_of, prefix_of, comparison_of, Val, of_expression, of_expressions, of_queries, adds_query, joined_by, prefixed, bracketed, listed, transacted, apply, Symbol, act, word, operand, prefixes, tail, name_tail, arguments, a_query, more_queries, State, chain, begin_word, begin_atom, begin_prefix, begin_prefixed, begin_operand, after_joint, go_on, joined_on, feed}
use Rattle.script_grammar.specs.declared.joint.Joint.{Joint}
use Rattle.script_grammar.specs.declared.joint.Joint.TheVariants.{Indexing, And, Or, Operator}
use Rattle.script_tokens.specs.Feed.{is_word}
use Rattle.script_grammar.proofs.Added.{with_expressions, with_queries}
use Rattle.script_grammar.proofs.Complete.{valued_list, valued_transact}
use Rattle.script_grammar.proofs.CompleteParts.{itself}
use Rattle.script_grammar.proofs.Yields.{Spelled, joint_word, joint_spelling, IsRight, Turn, Turns, Read, most_level, Yields}

pub no_state : {P : Type 0} (s : State) → None ≡ Some s → P
no_state s h = cc

pub land : (k : List Symbol) (vs : List Val) (s : State) (ts : List Token) (out : List Val) → Some (k, vs) ≡ Some s → Yields s.0 s.1 ts out → Yields k vs ts out
land k vs s ts out h y =
    let e : s ≡ (k, vs) = cc in
    let F : State → Type 0 = λ r. Yields r.0 r.1 ts out in subst F e y

pub one_of : (t : Bool) (x y : Option State) (s : State) → (if t then x else y) ≡ Some s → ((t ≡ true) × (x ≡ Some s)) ⊎ ((t ≡ false) × (y ≡ Some s))
one_of true x y s h = inl (refl, h)
one_of false x y s h = inr (refl, h)

-- the values that are left, by another name
pub with_values : (k : List Symbol) (vs us : List Val) (ts : List Token) (out : List Val) → vs ≡ us → Yields k vs ts out → Yields k us ts out
with_values k vs us ts out e y = subst (λ x. Yields k x ts out) e y

-- ---- words

false_true : {P : Type 0} → false ≡ true → P
false_true h = cc

pub word_is : (v : Word) (t : Kind) → is_word v t ≡ true → t ≡ kind.fixed v
word_is v (kind.fixed u) h = ap kind.fixed (spelled_once u v ((bytes_eq-Decides (spelling_of u) (spelling_of v)).0 h))
word_is v (kind.name x) h = false_true h
word_is v (kind.number n) h = false_true h
word_is v (kind.text x) h = false_true h

pub heads : (at : ℕ) (v : Word) (t : Kind) (ts : List Token) → is_word v t ≡ true → token at t ∷ ts ≡ token at (kind.fixed v) ∷ ts
heads at v t ts h = ap (λ k. token at k ∷ ts) (word_is v t h)

no_prefix_of : {P : Type 0} (operator : UnaryOperator) → None ≡ Some operator → P
no_prefix_of operator h = cc

the_prefix : (a b : UnaryOperator) → Some a ≡ Some b → a ≡ b
the_prefix a b h = cc

pub prefix_is : (t : Kind) (operator : UnaryOperator) → prefix_of t ≡ Some operator → t ≡ kind.fixed (prefix_word operator)
prefix_is (kind.fixed w.Not) operator h = ap (λ o. kind.fixed (prefix_word o)) (the_prefix one.Not operator h)
prefix_is (kind.fixed w.Minus) operator h = ap (λ o. kind.fixed (prefix_word o)) (the_prefix one.Negate operator h)
prefix_is (kind.fixed v) operator h = no_prefix_of operator h
prefix_is (kind.name x) operator h = no_prefix_of operator h
prefix_is (kind.number n) operator h = no_prefix_of operator h
prefix_is (kind.text x) operator h = no_prefix_of operator h

no_joint_of : {P : Type 0} (j : Joint) → None ≡ Some j → P
no_joint_of j h = cc

the_joint : (a b : Joint) → Some a ≡ Some b → a ≡ b
the_joint a b h = cc

pub joint_is : (t : Kind) (j : Joint) → joint_of t ≡ Some j → t ≡ kind.fixed (joint_word j)
joint_is (kind.fixed w.SquareOpen) j h = ap (λ i. kind.fixed (joint_word i)) (the_joint Indexing j h)
joint_is (kind.fixed w.And) j h = ap (λ i. kind.fixed (joint_word i)) (the_joint And j h)
joint_is (kind.fixed w.Or) j h = ap (λ i. kind.fixed (joint_word i)) (the_joint Or j h)
joint_is (kind.fixed w.Plus) j h = ap (λ i. kind.fixed (joint_word i)) (the_joint (Operator two.Plus) j h)
joint_is (kind.fixed w.Minus) j h = ap (λ i. kind.fixed (joint_word i)) (the_joint (Operator two.Minus) j h)
joint_is (kind.fixed w.Times) j h = ap (λ i. kind.fixed (joint_word i)) (the_joint (Operator two.Times) j h)
joint_is (kind.fixed w.Over) j h = ap (λ i. kind.fixed (joint_word i)) (the_joint (Operator two.Quotient) j h)
joint_is (kind.fixed w.Percent) j h = ap (λ i. kind.fixed (joint_word i)) (the_joint (Operator two.Remainder) j h)
joint_is (kind.fixed w.Equal) j h = ap (λ i. kind.fixed (joint_word i)) (the_joint (Operator (two.Compare compared.Equal)) j h)
joint_is (kind.fixed w.Unequal) j h = ap (λ i. kind.fixed (joint_word i)) (the_joint (Operator (two.Compare compared.Unequal)) j h)
joint_is (kind.fixed w.Less) j h = ap (λ i. kind.fixed (joint_word i)) (the_joint (Operator (two.Compare compared.Less)) j h)
joint_is (kind.fixed w.AtMost) j h = ap (λ i. kind.fixed (joint_word i)) (the_joint (Operator (two.Compare compared.AtMost)) j h)
joint_is (kind.fixed w.Greater) j h = ap (λ i. kind.fixed (joint_word i)) (the_joint (Operator (two.Compare compared.Greater)) j h)
joint_is (kind.fixed w.AtLeast) j h = ap (λ i. kind.fixed (joint_word i)) (the_joint (Operator (two.Compare compared.AtLeast)) j h)
joint_is (kind.fixed v) j h = no_joint_of j h
joint_is (kind.name x) j h = no_joint_of j h
joint_is (kind.number n) j h = no_joint_of j h
joint_is (kind.text x) j h = no_joint_of j h

no_comparison_of : {P : Type 0} (c : Comparison) → None ≡ Some c → P
no_comparison_of c h = cc

the_comparison : (a b : Comparison) → Some a ≡ Some b → a ≡ b
the_comparison a b h = cc

pub comparison_is : (t : Kind) (c : Comparison) → comparison_of t ≡ Some c → t ≡ kind.fixed (comparison_word c)
comparison_is (kind.fixed w.Equal) c h = ap (λ i. kind.fixed (comparison_word i)) (the_comparison compared.Equal c h)
comparison_is (kind.fixed w.Unequal) c h = ap (λ i. kind.fixed (comparison_word i)) (the_comparison compared.Unequal c h)
comparison_is (kind.fixed w.Less) c h = ap (λ i. kind.fixed (comparison_word i)) (the_comparison compared.Less c h)
comparison_is (kind.fixed w.AtMost) c h = ap (λ i. kind.fixed (comparison_word i)) (the_comparison compared.AtMost c h)
comparison_is (kind.fixed w.Greater) c h = ap (λ i. kind.fixed (comparison_word i)) (the_comparison compared.Greater c h)
comparison_is (kind.fixed w.AtLeast) c h = ap (λ i. kind.fixed (comparison_word i)) (the_comparison compared.AtLeast c h)
comparison_is (kind.fixed v) c h = no_comparison_of c h
comparison_is (kind.name x) c h = no_comparison_of c h
comparison_is (kind.number n) c h = no_comparison_of c h
comparison_is (kind.text x) c h = no_comparison_of c h

-- ---- rows of operators

if_true : (t : Bool) (n : ℕ) → t ≡ true → (if t then n else 0) ≡ n
if_true true n h = refl
if_true false n h = cc

few_in_a_row : (l n : ℕ) → if_same l l n ≡ n
few_in_a_row l n = if_true (nat_eq l l) n (itself l)

-- one joint more
pub record Joined (j : Joint) (l : ℕ) (x y : Expression) : Type 0 where
  pub grouped : IsGrouped (joined j x y)
  pub level_is : level (joined j x y) ≡ l
  pub row_is : repeats l (joined j x y) ≡ suc (repeats l x)

join_at : (j : Joint) (x y : Expression) → IsGrouped x → level x ≤ joint_level j
    → repeats (joint_level j) x < most_repeats (joint_level j) → IsGrouped y → IsRight j y
    → Joined j (joint_level j) x y
join_at Indexing x y gx h few gy r = record { grouped = (record { place = refl; level_is = h; few = few }, gx, gy); level_is = refl; row_is = refl }
join_at And x y gx h few gy r = record { grouped = (record { place = refl; left_level = h; right_level = r; few = few }, gx, gy); level_is = refl; row_is = refl }
join_at Or x y gx h few gy r = record { grouped = (record { place = refl; left_level = h; right_level = r; few = few }, gx, gy); level_is = refl; row_is = refl }
join_at (Operator operator) x y gx h few gy r =
    record { grouped = (record { place = refl; left_level = h; right_level = r; few = few }, gx, gy); level_is = refl; row_is = few_in_a_row (operator_level operator) (suc (repeats (operator_level operator) x)) }

pub join : (j : Joint) (l : ℕ) (x y : Expression) → joint_level j ≡ l → IsGrouped x → level x ≤ l
    → repeats l x < most_repeats l → IsGrouped y → IsRight j y → Joined j l x y
join j l x y e gx h few gy r =
    let P : ℕ → Type 0 = λ z. level x ≤ z → repeats z x < most_repeats z → Joined j z x y in
    subst P e (λ h few. join_at j x y gx h few gy r) h few

pub joined_spelling : (j : Joint) (x y : Expression) (n : List Mark) → spelling (joined j x y) n ≡ spelling x (joint_spelling j y n)
joined_spelling Indexing x y n = refl
joined_spelling And x y n = refl
joined_spelling Or x y n = refl
joined_spelling (Operator operator) x y n = refl

joined_value : (j : Joint) (x y : Expression) (vs : List Val) → apply (joined_by j) (of_expression y ∷ of_expression x ∷ vs) ≡ of_expression (joined j x y) ∷ vs
joined_value j x y vs = refl

-- an expression of a level, with so many operators in its row at most
pub record Row (l left : ℕ) (ts mid : List Token) (vs new : List Val) : Type 0 where
  pub tree : Expression
  pub grouped : IsGrouped tree
  pub level_is : level tree ≤ l
  pub few : repeats l tree ≤ left
  pub spelled : Spelled (spelling tree) ts mid
  pub value : new ≡ of_expression tree ∷ vs

pub fold : (l m : ℕ) (x : Expression) (ts next mid : List Token) (vs new : List Val) → IsGrouped x → level x ≤ l
    → repeats l x + m ≤ most_repeats l → Spelled (spelling x) ts next → Turns l m next mid (of_expression x ∷ vs) new
    → Row l (repeats l x + m) ts mid vs new
fold l zero x ts next mid vs new g h few s t =
    record {
      tree = x;
      grouped = g;
      level_is = h;
      few = omega arith;
      spelled = subst
          (λ z. Spelled (spelling x) ts z) t.0 s;
      value = t.1;
    }
fold l (suc m) x ts next mid vs new g h few s t =
    let a = t.0 in
    let j : Joined a.joint l x a.right = join a.joint l x a.right a.level_is g h (omega (arith, few)) a.grouped a.is_right in
    let r : Row l (repeats l (joined a.joint x a.right) + m) ts mid vs new =
    fold l m (joined a.joint x a.right) ts a.next mid vs new j.grouped (omega (arith, j.level_is)) (omega (arith, few, j.row_is))
    (λ n h. subst (λ z. AreTokens z ts) (sym (joined_spelling a.joint x a.right n)) (s (joint_spelling a.joint a.right n) (a.spelled n h))) t.1 in
    record { tree = r.tree; grouped = r.grouped; level_is = r.level_is; few = omega (arith, r.few, j.row_is); spelled = r.spelled; value = r.value }

-- what a tail above an expression makes of it
pub record Tailed (l left : ℕ) (ts : List Token) (k : List Symbol) (vs out : List Val) : Type 0 where
  pub read : Read ts
  pub level_is : level read.tree ≤ l
  pub few : repeats l read.tree ≤ left
  pub after : Yields k (of_expression read.tree ∷ vs) read.next out

pub tail_on : (l left : ℕ) (e : Expression) (ts mid : List Token) (k : List Symbol) (vs out : List Val) → IsGrouped e
    → level e ≤ l → repeats l e ≡ 0 → left ≤ most_repeats l → Spelled (spelling e) ts mid
    → Yields (tail l left ∷ k) (of_expression e ∷ vs) mid out → Tailed l left ts k vs out
tail_on l left e ts mid k vs out g h none b s y =
    let r : Row l (repeats l e + y.0) ts y.1 vs y.2 = fold l y.0 e ts mid y.1 vs y.2 g h (omega (arith, none, y.3, b)) s y.4 in
    record {
      read = record { tree = r.tree; next = y.1; grouped = r.grouped; spelled = r.spelled };
      level_is = r.level_is;
      few = omega (arith, r.few, none, y.3);
      after = with_values k y.2 (of_expression r.tree ∷ vs) y.1 out r.value y.5;
    }

lower_number : (l m : ℕ) → m < l → nat_eq m l ≡ false
lower_number l m h = grind (arith, nat_tests, h)

not_in_row : (l : ℕ) (e : Expression) → level e < l → repeats l e ≡ 0
not_in_row l e h = rw (lower_number l (level e) h) refl

-- the tails of an operand's levels
pub record Leveled (l : ℕ) (ts : List Token) (k : List Symbol) (vs out : List Val) : Type 0 where
  pub read : Read ts
  pub level_is : level read.tree ≤ most_level l
  pub after : Yields k (of_expression read.tree ∷ vs) read.next out

pub chain_on : (l : ℕ) (ts : List Token) (e : Read ts) (k : List Symbol) (vs out : List Val) → level e.tree ≤ 1
    → Yields (chain l k) (of_expression e.tree ∷ vs) e.next out → Leveled l ts k vs out
chain_on zero ts e k vs out h y = record { read = e; level_is = h; after = y }
chain_on (suc zero) ts e k vs out h y = record { read = e; level_is = h; after = y }
chain_on (suc (suc r)) ts e k vs out h y =
    let z : Leveled (suc r) ts (tail (suc (suc r)) (most_repeats (suc (suc r))) ∷ k) vs out = chain_on (suc r) ts e (tail (suc (suc r)) (most_repeats (suc (suc r))) ∷ k) vs out h y in
    let t : Tailed (suc (suc r)) (most_repeats (suc (suc r))) ts k vs out =
    tail_on (suc (suc r)) (most_repeats (suc (suc r))) z.read.tree ts z.read.next k vs out z.read.grouped
    (omega (arith, z.level_is)) (not_in_row (suc (suc r)) z.read.tree (omega (arith, z.level_is)))
    (omega arith) z.read.spelled z.after in
    record { read = t.read; level_is = t.level_is; after = t.after }

-- ---- a token and what it begins

-- an expression without a row of operators
pub record Item (ts : List Token) (k : List Symbol) (vs out : List Val) : Type 0 where
  pub read : Read ts
  pub level_is : level read.tree ≤ 0
  pub row_is : row read.tree ≡ 0
  pub after : Yields k (of_expression read.tree ∷ vs) read.next out

item : (ts mid : List Token) (k : List Symbol) (vs out : List Val) (e : Expression) → IsGrouped e → level e ≡ 0
    → row e ≡ 0 → Spelled (spelling e) ts mid → Yields k (of_expression e ∷ vs) mid out → Item ts k vs out
item ts mid k vs out e g l r s y = record { read = record { tree = e; next = mid; grouped = g; spelled = s }; level_is = omega (arith, l); row_is = r; after = y }

no_query_is : (q : Query) (qs : Queries) → query q qs ≢ no_query
no_query_is q qs h = cc

pub no_expression_is : (e : Expression) (es : Expressions) → expression e es ≢ no_expression
no_expression_is e es h = cc

pub no_assignment_is : (x : Name) (e : Expression) (ss : Assignments) → assignment x e ss ≢ no_assignment
no_assignment_is x e ss h = cc

pub no_name_is : (x : Name) (xs : List Name) → x ∷ xs ≢ []
no_name_is x xs h = cc

pub word_back : (at : ℕ) (v : Word) (k : List Symbol) (vs : List Val) (s : State) (ts : List Token) (out : List Val)
    → begin_word at v k vs ≡ Some s → Yields s.0 s.1 ts out → Item (token at (kind.fixed v) ∷ ts) k vs out
word_back at w.True k vs s ts out h y = item (token at (kind.fixed w.True) ∷ ts) ts k vs out
    (truth at true) tt refl refl (λ n g. (ts, refl, g)) (land k (of_expression (truth at true) ∷ vs) s ts out h y)
word_back at w.False k vs s ts out h y = item (token at (kind.fixed w.False) ∷ ts) ts k vs out
    (truth at false) tt refl refl (λ n g. (ts, refl, g)) (land k (of_expression (truth at false) ∷ vs) s ts out h y)
word_back at w.Null k vs s ts out h y = item (token at (kind.fixed w.Null) ∷ ts) ts k vs out (null at) tt refl refl
    (λ n g. (ts, refl, g)) (land k (of_expression (null at) ∷ vs) s ts out h y)
word_back at w.Open k vs s ts out h y =
    let z : Yields (operand 6 ∷ word w.Close ∷ act (bracketed at) ∷ k) vs ts out = land (operand 6 ∷ word w.Close ∷ act (bracketed at) ∷ k) vs s ts out h y in
    item (token at (kind.fixed w.Open) ∷ ts) z.2.1 k vs out (bracket at z.0.tree) z.0.grouped refl refl
    (λ n g. (ts, refl, z.0.spelled (mark.word w.Close ∷ n) (z.2.0, z.2.1, z.2.2, g))) z.2.3
word_back at w.SquareOpen k vs s ts out h y =
    let z : Yields (arguments w.SquareClose ∷ act (listed at) ∷ k) (of_expressions [] ∷ vs) ts out = land (arguments w.SquareClose ∷ act (listed at) ∷ k) (of_expressions [] ∷ vs) s ts out h y in
    item (token at (kind.fixed w.SquareOpen) ∷ ts) z.1 k vs out (list at z.0) z.2 refl refl (λ n g. (ts, refl, z.3 n g))
    (with_values k (apply (listed at) (with_expressions z.0 (of_expressions [] ∷ vs))) (of_expression (list at z.0) ∷ vs) z.1 out (valued_list at z.0 vs) z.4)
word_back at w.Transact k vs s ts out h y =
    let z : Yields (word w.BraceOpen ∷ a_query ∷ act adds_query ∷ more_queries ∷ act (transacted at) ∷ k) (of_queries [] ∷ vs) ts out = land (word w.BraceOpen ∷ a_query ∷ act adds_query ∷ more_queries ∷ act (transacted at) ∷ k) (of_queries [] ∷ vs) s ts out h y in
    let q : Query = z.3.0 in
    let qs : Queries = z.3.4.0 in
    item (token at (kind.fixed w.Transact) ∷ ts) z.3.4.1 k vs out (transact at (query q qs)) (no_query_is q qs, (z.3.2, z.3.4.2)) refl refl
    (λ n g. (ts, refl, (z.0, z.1, z.2, z.3.3 (queries_spelling qs (mark.word w.BraceClose ∷ n)) (z.3.4.3 n g))))
    (with_values k (apply (transacted at) (with_queries (query q qs) (of_queries [] ∷ vs)))
    (of_expression (transact at (query q qs)) ∷ vs) z.3.4.1 out (valued_transact at (query q qs) vs) z.3.4.4)
word_back at v k vs s ts out h y = no_state s h

pub atom_back : (at : ℕ) (t : Kind) (k : List Symbol) (vs : List Val) (s : State) (ts : List Token) (out : List Val)
    → begin_atom at t k vs ≡ Some s → Yields s.0 s.1 ts out → Item (token at t ∷ ts) k vs out
atom_back at (kind.fixed v) k vs s ts out h y = word_back at v k vs s ts out h y
atom_back at (kind.name x) k vs s ts out h y =
    let z : Yields (name_tail at x ∷ k) vs ts out = land (name_tail at x ∷ k) vs s ts out h y in
    record { read = z.0; level_is = z.1; row_is = z.2; after = z.3 }
atom_back at (kind.number v) k vs s ts out h y =
    item (token at (kind.number v) ∷ ts) ts k vs out (number at v) tt refl refl (λ n g. (ts, refl, g))
    (land k (of_expression (number at v) ∷ vs) s ts out h y)
atom_back at (kind.text x) k vs s ts out h y =
    item (token at (kind.text x) ∷ ts) ts k vs out (text at x) tt refl refl (λ n g. (ts, refl, g))
    (land k (of_expression (text at x) ∷ vs) s ts out h y)

same_zero : (t : Bool) (n : ℕ) → n ≡ 0 → (if t then n else 0) ≡ 0
same_zero true n h = h
same_zero false n h = refl

pub no_row : (l : ℕ) (e : Expression) → row e ≡ 0 → repeats l e ≡ 0
no_row l e h = same_zero (nat_eq (level e) l) (row e) h

prefix_case : (o : Option UnaryOperator) (at left : ℕ) (t : Kind) (k : List Symbol) (vs : List Val) (s : State)
    (ts : List Token) (out : List Val) → prefix_of t ≡ o
    → begin_prefix at o left k vs (begin_atom at t (tail 0 (most_repeats 0) ∷ k) vs) ≡ Some s → Yields s.0 s.1 ts out
    → Yields (prefixes left ∷ k) vs (token at t ∷ ts) out
prefix_case None at left t k vs s ts out e h y = λ b.
    let a : Item (token at t ∷ ts) (tail 0 (most_repeats 0) ∷ k) vs out = atom_back at t (tail 0 (most_repeats 0) ∷ k) vs s ts out h y in
    let z : Tailed 0 (most_repeats 0) (token at t ∷ ts) k vs out = tail_on 0 (most_repeats 0) a.read.tree (token at t ∷ ts) a.read.next k vs out a.read.grouped a.level_is (no_row 0 a.read.tree a.row_is) (omega arith) a.read.spelled a.after in
    (z.read, omega (arith, z.level_is), omega (arith, not_in_row 1 z.read.tree (omega (arith, z.level_is))), z.after)
prefix_case (Some operator) at zero t k vs s ts out e h y = no_state s h
prefix_case (Some operator) at (suc left) t k vs s ts out e h y = λ b.
    let z : Yields (prefixes left ∷ act (prefixed at operator) ∷ k) vs ts out = land (prefixes left ∷ act (prefixed at operator) ∷ k) vs s ts out h y in
    let r = z (omega (arith, b)) in
    let i : t ≡ kind.fixed (prefix_word operator) = prefix_is t operator e in
    let u : Expression = unary at operator r.0.tree in
    let f : repeats 1 u ≡ suc (repeats 1 r.0.tree) = refl in
    (record { tree = u; next = r.0.next; grouped = (record { level_is = r.1; few = omega (arith, r.2, b) }, r.0.grouped); spelled = λ n g. (ts, ap (λ x. token at x ∷ ts) i, r.0.spelled n g) }, omega arith, omega (arith, r.2, f), r.3)

pub prefix_back : (at left : ℕ) (t : Kind) (k : List Symbol) (vs : List Val) (s : State) (ts : List Token)
    (out : List Val) → begin_prefixed at t left k vs ≡ Some s → Yields s.0 s.1 ts out
    → Yields (prefixes left ∷ k) vs (token at t ∷ ts) out
prefix_back at left t k vs s ts out h y = prefix_case (prefix_of t) at left t k vs s ts out refl h y

pub operand_back : (l : ℕ) (t : Token) (k : List Symbol) (vs : List Val) (s : State) (ts : List Token)
    (out : List Val) → begin_operand t.at t.kind l k vs ≡ Some s → Yields s.0 s.1 ts out
    → Yields (operand l ∷ k) vs (t ∷ ts) out
operand_back l t k vs s ts out h y =
    let a = prefix_back t.at (most_repeats 1) t.kind (chain l k) vs s ts out h y (omega arith) in
    let z : Leveled l (t ∷ ts) k vs out = chain_on l (t ∷ ts) a.0 k vs out a.1 a.3 in
    (z.read, z.level_is, z.after)

-- ---- a joint

right_of : (j : Joint) (l : ℕ) (y : Expression) → 2 ≤ l → level y ≤ most_level (l - 1) → level y < l
right_of j zero y h b = absurd (omega (arith, h))
right_of j (suc zero) y h b = absurd (omega (arith, h))
right_of j (suc (suc q)) y h b = let e : suc (suc q) - 1 ≡ suc q = omega arith in omega (arith, subst (λ z. level y ≤ most_level z) e b)

operator_big : (operator : BinaryOperator) → 2 ≤ operator_level operator
operator_big (two.Compare c) = omega arith
operator_big two.Plus = omega arith
operator_big two.Minus = omega arith
operator_big two.Times = omega arith
operator_big two.Quotient = omega arith
operator_big two.Remainder = omega arith

pub first_word : (t : Token) (ts : List Token) (v : Word) → t.kind ≡ kind.fixed v → t ∷ ts ≡ token t.at (kind.fixed v) ∷ ts
first_word t ts v e = ap (λ x. token t.at x ∷ ts) e

joint_back : (j : Joint) (l left : ℕ) (t : Token) (k : List Symbol) (vs : List Val) (s : State) (ts : List Token)
    (out : List Val) → joint_of t.kind ≡ Some j → joint_level j ≡ l → Some (after_joint j l left k, vs) ≡ Some s
    → Yields s.0 s.1 ts out → Yields (tail l (suc left) ∷ k) vs (t ∷ ts) out
joint_back Indexing l left t k vs s ts out e q h y =
    let z : Yields (operand 6 ∷ word w.SquareClose ∷ act (joined_by Indexing) ∷ tail l left ∷ k) vs ts out = land (after_joint Indexing l left k) vs s ts out h y in
    let r : Turn l (t ∷ ts) = record {
      joint = Indexing;
      right = z.0.tree;
      next = z.2.1;
      level_is = q;
      grouped = z.0.grouped;
      is_right = tt;
      spelled = λ n g. (
        t.at,
        ts,
        first_word t ts w.SquareOpen (joint_is t.kind Indexing e),
        z.0.spelled (mark.word w.SquareClose ∷ n) (z.2.0, z.2.1, z.2.2, g),
      );
    } in
    let t = z.2.3 in (suc t.0, t.1, t.2, omega (arith, t.3), (r, t.4), t.5)
joint_back And l left t k vs s ts out e q h y =
    let z : Yields (operand (l - 1) ∷ act (joined_by And) ∷ tail l left ∷ k) vs ts out = land (after_joint And l left k) vs s ts out h y in
    let b : level z.0.tree < l = right_of And l z.0.tree (omega (arith, q)) z.1 in
    let r : Turn l (t ∷ ts) = record {
      joint = And;
      right = z.0.tree;
      next = z.0.next;
      level_is = q;
      grouped = z.0.grouped;
      is_right = omega (arith, b, q);
      spelled = λ n g. (t.at, ts, first_word t ts w.And (joint_is t.kind And e), z.0.spelled n g);
    } in
    let t = z.2 in (suc t.0, t.1, t.2, omega (arith, t.3), (r, t.4), t.5)
joint_back Or l left t k vs s ts out e q h y =
    let z : Yields (operand (l - 1) ∷ act (joined_by Or) ∷ tail l left ∷ k) vs ts out = land (after_joint Or l left k) vs s ts out h y in
    let b : level z.0.tree < l = right_of Or l z.0.tree (omega (arith, q)) z.1 in
    let r : Turn l (t ∷ ts) = record {
      joint = Or;
      right = z.0.tree;
      next = z.0.next;
      level_is = q;
      grouped = z.0.grouped;
      is_right = omega (arith, b, q);
      spelled = λ n g. (t.at, ts, first_word t ts w.Or (joint_is t.kind Or e), z.0.spelled n g);
    } in
    let t = z.2 in (suc t.0, t.1, t.2, omega (arith, t.3), (r, t.4), t.5)
joint_back (Operator operator) l left t k vs s ts out e q h y =
    let z : Yields (operand (l - 1) ∷ act (joined_by (Operator operator)) ∷ tail l left ∷ k) vs ts out = land (after_joint (Operator operator) l left k) vs s ts out h y in
    let b : level z.0.tree < l = right_of (Operator operator) l z.0.tree (omega (arith, q, operator_big operator)) z.1 in
    let r : Turn l (t ∷ ts) = record {
      joint = Operator operator;
      right = z.0.tree;
      next = z.0.next;
      level_is = q;
      grouped = z.0.grouped;
      is_right = omega (arith, b, q);
      spelled = λ n g. (t.at, ts, first_word t ts (infix_word operator) (joint_is t.kind (Operator operator) e), z.0.spelled n g);
    } in
    let t = z.2 in (suc t.0, t.1, t.2, omega (arith, t.3), (r, t.4), t.5)

go_back : (j : Joint) (l left : ℕ) (t : Token) (k : List Symbol) (vs : List Val) (s : State) (ts : List Token)
    (out : List Val) → joint_of t.kind ≡ Some j → joint_level j ≡ l → go_on j l left k vs ≡ Some s
    → Yields s.0 s.1 ts out → Yields (tail l left ∷ k) vs (t ∷ ts) out
go_back j l zero t k vs s ts out e q h y = no_state s h
go_back j l (suc left) t k vs s ts out e q h y = joint_back j l left t k vs s ts out e q h y

same_number : (a b : ℕ) → nat_eq a b ≡ true → a ≡ b
same_number a b h = grind (arith, nat_tests, h)

-- what a tail does with a token, where the stack below it is known to go back
pub tail_back : (o : Option Joint) (l left : ℕ) (t : Token) (k : List Symbol) (vs : List Val) (s : State)
    (ts : List Token) (out : List Val) → joint_of t.kind ≡ o → (feed t k vs ≡ Some s → Yields k vs (t ∷ ts) out)
    → joined_on o l left k vs (feed t k vs) ≡ Some s → Yields s.0 s.1 ts out → Yields (tail l left ∷ k) vs (t ∷ ts) out
tail_back None l left t k vs s ts out e below h y = (0, t ∷ ts, vs, omega arith, (refl, refl), below h)
tail_back (Some j) l left t k vs s ts out e below h y =
    elim (one_of (nat_eq (joint_level j) l) (go_on j l left k vs) (feed t k vs) s h) [
      | inl q ↦ go_back j l left t k vs s ts out e (same_number (joint_level j) l q.0) q.1 y
      | inr q ↦ (0, t ∷ ts, vs, omega arith, (refl, refl), below q.1)
    ]
