-- A tree's expressions, where only places of its tokens are replaced.
use Rattle.std.proofs.Common.{◌≡◌, ◌≢◌, ℕ, ◌≤◌, List, [], ◌∷◌, map, refl, sym, ap, ◌∙◌}
use Rattle.script_tree.specs.Syntax.{Expression, number, text, truth, null, bracket, variable, call, list, transact, unary, binary, and_, or_, index, Expressions, no_expression, expression, Query, insert, select, update, delete, expect, Queries, no_query, query, Conditions, no_condition, condition, Assignments, no_assignment, assignment, Statement}
use Rattle.script_tree.specs.SyntaxPlaces.{place_of}
use Rattle.script_tree.specs.declared.syntax.name.Name.{Name}
use Rattle.script_tokens.specs.Kinds.{Kind, Token, token}
use Rattle.script_tokens.specs.declared.word.Word.TheVariants as w
use Rattle.script_grammar.specs.Spelling.{Mark, word, named, infix_word, names_before, names, spelling, list_spelling, more_spelling, query_spelling, queries_spelling, where_spelling, and_spelling, sets_spelling, more_sets_spelling}
use Rattle.script_grammar.specs.Grouping.{operator_level, level, IsJoined, IsPrefixed, IsIndexed, IsGrouped, AreGrouped, IsGroupedQuery, AreGroupedQueries, AreGroupedTests, AreGroupedSets}
use Rattle.script_grammar.proofs.Yields.{Spelled}
use Rattle.script_print.specs.Placeless.{placeless_name, placeless_names, placeless_expression, placeless_expressions, placeless_query, placeless_queries, placeless_conditions, placeless_assignments, placeless_statement}
use Rattle.script_print.specs.TreePrints.{kinds_of}
use Rattle.script_print.proofs.Scanned.{kinds}
use Rattle.script_print.proofs.SameLevels.{same_level, same_repeats}

-- ---- one token

pub record First (k : Kind) (ks : List Kind) (ts : List Token) : Type 0 where
  pub at : ℕ
  pub rest : List Token
  pub is : ts ≡ token at k ∷ rest
  pub others : kinds rest ≡ ks

pub no_kind : (k : Kind) (ks : List Kind) → [] ≡ k ∷ ks → ⊥
no_kind k ks h = cc

pub first : {k : Kind} {ks : List Kind} (ts : List Token) → kinds ts ≡ k ∷ ks → First k ks ts
first {k} {ks} [] h = absurd (no_kind k ks h)
first {k} {ks} (t ∷ ts) h =
    let this : t.kind ≡ k = cc in
    let others : kinds ts ≡ ks = cc in
    record { at = t.at; rest = ts; is = ap (λ x. token t.at x ∷ ts) this; others = others }

-- ---- a part of a tree, of which these are the tokens, up to those that are left

pub record Again {T : Type 0} (spell : T → List Mark → List Mark) (bare : T → T) (IsFit : T → Type 0) (part : T) (n : List Mark) (ts : List Token) : Type 0 where
  pub tree : T
  pub left : List Token
  pub others : kinds left ≡ kinds_of n
  pub spelled : Spelled (spell tree) ts left
  pub fit : IsFit tree
  pub same : bare tree ≡ bare part

abbrev pub IsAny : List Name → Type 0
IsAny xs = Unit {0}

abbrev pub bare_block : List Statement → List Statement
bare_block ss = map placeless_statement ss

abbrev pub moved : ℕ → Name → Name
moved at x = record { at = at; text = x.text }

-- ---- what stays so where only places change

pub both : {A B C : Type 0} (f : A → B → C) {a c : A} {b d : B} → a ≡ c → b ≡ d → f a b ≡ f c d
both {A} {B} {C} f {a} {c} {b} {d} p q = ap (λ x. f x b) p ∙ ap (f c) q

pub three : {A B C D : Type 0} (f : A → B → C → D) {a x : A} {b y : B} {c z : C} → a ≡ x → b ≡ y → c ≡ z → f a b c ≡ f x y z
three {A} {B} {C} {D} f {a} {x} {b} {y} {c} {z} p q r = ap (λ t. f t b c) p ∙ both (f x) q r

joined_again : (l at : ℕ) (x y left right : Expression) → placeless_expression x ≡ placeless_expression left
    → placeless_expression y ≡ placeless_expression right → IsJoined l at left right → IsJoined l (place_of x) x y
joined_again l at x y left right p q h =
    record {
      place = refl;
      left_level = rw (same_level x left p) h.left_level;
      right_level = rw
          (same_level y right q) h.right_level;
      few = rw (same_repeats l x left p) h.few;
    }

prefixed_again : (x e : Expression) → placeless_expression x ≡ placeless_expression e → IsPrefixed e → IsPrefixed x
prefixed_again x e p h = record { level_is = rw (same_level x e p) h.level_is; few = rw (same_repeats 1 x e p) h.few }

indexed_again : (at : ℕ) (x whole : Expression) → placeless_expression x ≡ placeless_expression whole → IsIndexed at whole → IsIndexed (place_of x) x
indexed_again at x whole p h = record { place = refl; level_is = rw (same_level x whole p) h.level_is; few = rw (same_repeats 0 x whole p) h.few }

sum_again : (x e : Expression) → placeless_expression x ≡ placeless_expression e → level e ≤ 3 → level x ≤ 3
sum_again x e p h = rw (same_level x e p) h

some_expression : (xs es : Expressions) → placeless_expressions xs ≡ placeless_expressions es → es ≢ no_expression → xs ≢ no_expression
some_expression xs no_expression p some = absurd (some refl)
some_expression xs (expression e es) p some = λ q. let r : no_expression ≡ placeless_expressions xs = sym (ap placeless_expressions q) in cc (r ∙ p)

some_query : (xs qs : Queries) → placeless_queries xs ≡ placeless_queries qs → qs ≢ no_query → xs ≢ no_query
some_query xs no_query p some = absurd (some refl)
some_query xs (query e qs) p some = λ q. let r : no_query ≡ placeless_queries xs = sym (ap placeless_queries q) in cc (r ∙ p)

some_assignment : (xs sets : Assignments) → placeless_assignments xs ≡ placeless_assignments sets → sets ≢ no_assignment → xs ≢ no_assignment
some_assignment xs no_assignment p some = absurd (some refl)
some_assignment xs (assignment x e sets) p some = λ q. let r : no_assignment ≡ placeless_assignments xs = sym (ap placeless_assignments q) in cc (r ∙ p)

pub some_name : (xs ys : List Name) → placeless_names xs ≡ placeless_names ys → ys ≢ [] → xs ≢ []
some_name xs [] p some = absurd (some refl)
some_name xs (y ∷ ys) p some = λ q. let r : [] ≡ placeless_names xs = sym (ap placeless_names q) in cc (r ∙ p)

-- ---- names

pub names_before_replaced : (e : List Name) (n : List Mark) (ts : List Token) → IsAny e
    → kinds ts ≡ kinds_of (names_before e n) → Again names_before placeless_names IsAny e n ts
names_before_replaced [] n ts g q =
    record { tree = []; left = ts; others = q; spelled = λ m h. h; fit = tt; same = refl }
names_before_replaced (x ∷ xs) n ts g q =
    let comma_token = first ts q in
    let name_token = first comma_token.rest comma_token.others in
    let xs_again = names_before_replaced xs n name_token.rest tt name_token.others in
    record {
      tree = moved name_token.at x ∷ xs_again.tree;
      left = xs_again.left;
      others = xs_again.others;
      spelled = λ m h. (comma_token.at, comma_token.rest, comma_token.is, (name_token.rest, name_token.is, xs_again.spelled m h));
      fit = tt;
      same = ap (λ l. placeless_name x ∷ l) xs_again.same;
    }

pub names_replaced : (e : List Name) (n : List Mark) (ts : List Token) → IsAny e → kinds ts ≡ kinds_of (names e n) → Again names placeless_names IsAny e n ts
names_replaced [] n ts g q =
    record { tree = []; left = ts; others = q; spelled = λ m h. h; fit = tt; same = refl }
names_replaced (x ∷ xs) n ts g q =
    let name_token = first ts q in
    let xs_again = names_before_replaced xs n name_token.rest tt name_token.others in
    record {
      tree = moved name_token.at x ∷ xs_again.tree;
      left = xs_again.left;
      others = xs_again.others;
      spelled = λ m h. (name_token.rest, name_token.is, xs_again.spelled m h);
      fit = tt;
      same = ap (λ l. placeless_name x ∷ l) xs_again.same;
    }

-- ---- expressions

mutual
  pub replaced : (e : Expression) (n : List Mark) (ts : List Token) → IsGrouped e → kinds ts ≡ kinds_of (spelling e n)
      → Again spelling placeless_expression IsGrouped e n ts
  replaced (number at v) n ts g q =
      let key = first ts q in
      record { tree = number key.at v; left = key.rest; others = key.others; spelled = λ m h. (key.rest, key.is, h); fit = tt; same = refl }
  replaced (text at bytes) n ts g q =
      let key = first ts q in
      record { tree = text key.at bytes; left = key.rest; others = key.others; spelled = λ m h. (key.rest, key.is, h); fit = tt; same = refl }
  replaced (truth at b) n ts g q =
      let key = first ts q in
      record { tree = truth key.at b; left = key.rest; others = key.others; spelled = λ m h. (key.rest, key.is, h); fit = tt; same = refl }
  replaced (null at) n ts g q =
      let key = first ts q in
      record { tree = null key.at; left = key.rest; others = key.others; spelled = λ m h. (key.rest, key.is, h); fit = tt; same = refl }
  replaced (variable at x) n ts g q =
      let key = first ts q in
      record { tree = variable key.at x; left = key.rest; others = key.others; spelled = λ m h. (key.rest, key.is, h); fit = tt; same = refl }
  replaced (bracket at e) n ts g q =
      let key = first ts q in
      let e_again = replaced e (word w.Close ∷ n) key.rest g key.others in
      let close_token = first e_again.left e_again.others in
      record {
        tree = bracket key.at e_again.tree;
        left = close_token.rest;
        others = close_token.others;
        spelled = λ m h. (key.rest, key.is, e_again.spelled (word w.Close ∷ m) (close_token.at, close_token.rest, close_token.is, h));
        fit = e_again.fit;
        same = ap (bracket 0) e_again.same;
      }
  replaced (call at f es) n ts g q =
      let key = first ts q in
      let open_token = first key.rest key.others in
      let es_again = list_replaced es (word w.Close ∷ n) open_token.rest g open_token.others in
      let close_token = first es_again.left es_again.others in
      record {
        tree = call key.at f es_again.tree;
        left = close_token.rest;
        others = close_token.others;
        spelled = λ m h. (key.rest, key.is, (open_token.at, open_token.rest, open_token.is, es_again.spelled (word w.Close ∷ m) (close_token.at, close_token.rest, close_token.is, h)));
        fit = es_again.fit;
        same = ap (call 0 f) es_again.same;
      }
  replaced (list at es) n ts g q =
      let key = first ts q in
      let es_again = list_replaced es (word w.SquareClose ∷ n) key.rest g key.others in
      let square_close_token = first es_again.left es_again.others in
      record {
        tree = list key.at es_again.tree;
        left = square_close_token.rest;
        others = square_close_token.others;
        spelled = λ m h. (
          key.rest,
          key.is,
          es_again.spelled (word w.SquareClose ∷ m)
              (square_close_token.at, square_close_token.rest, square_close_token.is, h),
        );
        fit = es_again.fit;
        same = ap (list 0) es_again.same;
      }
  replaced (transact at qs) n ts g q =
      let key = first ts q in
      let brace_open_token = first key.rest key.others in
      let qs_again = queries_replaced qs (word w.BraceClose ∷ n) brace_open_token.rest g.1 brace_open_token.others in
      let brace_close_token = first qs_again.left qs_again.others in
      record {
        tree = transact key.at qs_again.tree;
        left = brace_close_token.rest;
        others = brace_close_token.others;
        spelled = λ m h. (key.rest, key.is, (brace_open_token.at, brace_open_token.rest, brace_open_token.is, qs_again.spelled (word w.BraceClose ∷ m) (brace_close_token.at, brace_close_token.rest, brace_close_token.is, h)));
        fit = (some_query qs_again.tree qs qs_again.same g.0, qs_again.fit);
        same = ap (transact 0) qs_again.same;
      }
  replaced (unary at operator e) n ts g q =
      let key = first ts q in
      let e_again = replaced e n key.rest g.1 key.others in
      record {
        tree = unary key.at operator e_again.tree;
        left = e_again.left;
        others = e_again.others;
        spelled = λ m h. (key.rest, key.is, e_again.spelled m h);
        fit = (prefixed_again e_again.tree e e_again.same g.0, e_again.fit);
        same = ap (unary 0 operator) e_again.same;
      }
  replaced (binary at operator left right) n ts g q =
      let left_again = replaced left (word (infix_word operator) ∷ spelling right n) ts g.1 q in
      let sign = first left_again.left left_again.others in
      let right_again = replaced right n sign.rest g.2 sign.others in
      record {
        tree = binary (place_of left_again.tree) operator left_again.tree right_again.tree;
        left = right_again.left;
        others = right_again.others;
        spelled = λ m h. left_again.spelled (word (infix_word operator) ∷ spelling right_again.tree m) (sign.at, sign.rest, sign.is, right_again.spelled m h);
        fit = (joined_again (operator_level operator) at left_again.tree right_again.tree left right left_again.same right_again.same g.0, left_again.fit, right_again.fit);
        same = both (binary 0 operator) left_again.same right_again.same;
      }
  replaced (and_ at left right) n ts g q =
      let left_again = replaced left (word w.And ∷ spelling right n) ts g.1 q in
      let and_token = first left_again.left left_again.others in
      let right_again = replaced right n and_token.rest g.2 and_token.others in
      record {
        tree = and_ (place_of left_again.tree) left_again.tree right_again.tree;
        left = right_again.left;
        others = right_again.others;
        spelled = λ m h. left_again.spelled (word w.And ∷ spelling right_again.tree m) (and_token.at, and_token.rest, and_token.is, right_again.spelled m h);
        fit = (joined_again 5 at left_again.tree right_again.tree left right left_again.same right_again.same g.0, left_again.fit, right_again.fit);
        same = both (and_ 0) left_again.same right_again.same;
      }
  replaced (or_ at left right) n ts g q =
      let left_again = replaced left (word w.Or ∷ spelling right n) ts g.1 q in
      let or_token = first left_again.left left_again.others in
      let right_again = replaced right n or_token.rest g.2 or_token.others in
      record {
        tree = or_ (place_of left_again.tree) left_again.tree right_again.tree;
        left = right_again.left;
        others = right_again.others;
        spelled = λ m h. left_again.spelled (word w.Or ∷ spelling right_again.tree m) (or_token.at, or_token.rest, or_token.is, right_again.spelled m h);
        fit = (joined_again 6 at left_again.tree right_again.tree left right left_again.same right_again.same g.0, left_again.fit, right_again.fit);
        same = both (or_ 0) left_again.same right_again.same;
      }
  replaced (index at whole place) n ts g q =
      let whole_again = replaced whole (word w.SquareOpen ∷ spelling place (word w.SquareClose ∷ n)) ts g.1 q in
      let square_open_token = first whole_again.left whole_again.others in
      let place_again = replaced place (word w.SquareClose ∷ n) square_open_token.rest g.2 square_open_token.others in
      let square_close_token = first place_again.left place_again.others in
      record {
        tree = index (place_of whole_again.tree) whole_again.tree place_again.tree;
        left = square_close_token.rest;
        others = square_close_token.others;
        spelled = λ m h. whole_again.spelled (word w.SquareOpen ∷ spelling place_again.tree (word w.SquareClose ∷ m)) (
          square_open_token.at,
          square_open_token.rest,
          square_open_token.is,
          place_again.spelled (word w.SquareClose ∷ m)
              (square_close_token.at, square_close_token.rest, square_close_token.is, h),
        );
        fit = (indexed_again at whole_again.tree whole whole_again.same g.0, whole_again.fit, place_again.fit);
        same = both (index 0) whole_again.same place_again.same;
      }

  pub list_replaced : (e : Expressions) (n : List Mark) (ts : List Token) → AreGrouped e
      → kinds ts ≡ kinds_of (list_spelling e n) → Again list_spelling placeless_expressions AreGrouped e n ts
  list_replaced no_expression n ts g q =
      record { tree = no_expression; left = ts; others = q; spelled = λ m h. h; fit = tt; same = refl }
  list_replaced (expression e es) n ts g q =
      let e_again = replaced e (more_spelling es n) ts g.0 q in
      let es_again = more_replaced es n e_again.left g.1 e_again.others in
      record {
        tree = expression e_again.tree es_again.tree;
        left = es_again.left;
        others = es_again.others;
        spelled = λ m h. e_again.spelled (more_spelling es_again.tree m) (es_again.spelled m h);
        fit = (e_again.fit, es_again.fit);
        same = both expression e_again.same es_again.same;
      }

  pub more_replaced : (e : Expressions) (n : List Mark) (ts : List Token) → AreGrouped e
      → kinds ts ≡ kinds_of (more_spelling e n) → Again more_spelling placeless_expressions AreGrouped e n ts
  more_replaced no_expression n ts g q =
      record { tree = no_expression; left = ts; others = q; spelled = λ m h. h; fit = tt; same = refl }
  more_replaced (expression e es) n ts g q =
      let comma_token = first ts q in
      let e_again = replaced e (more_spelling es n) comma_token.rest g.0 comma_token.others in
      let es_again = more_replaced es n e_again.left g.1 e_again.others in
      record {
        tree = expression e_again.tree es_again.tree;
        left = es_again.left;
        others = es_again.others;
        spelled = λ m h. (comma_token.at, comma_token.rest, comma_token.is, e_again.spelled (more_spelling es_again.tree m) (es_again.spelled m h));
        fit = (e_again.fit, es_again.fit);
        same = both expression e_again.same es_again.same;
      }

  pub query_replaced : (e : Query) (n : List Mark) (ts : List Token) → IsGroupedQuery e
      → kinds ts ≡ kinds_of (query_spelling e n) → Again query_spelling placeless_query IsGroupedQuery e n ts
  query_replaced (insert at t es) n ts g q =
      let key = first ts q in
      let t_token = first key.rest key.others in
      let open_token = first t_token.rest t_token.others in
      let es_again = list_replaced es (word w.Close ∷ word w.Semicolon ∷ n) open_token.rest g.1 open_token.others in
      let close_token = first es_again.left es_again.others in
      let semicolon_token = first close_token.rest close_token.others in
      record {
        tree = insert key.at (moved t_token.at t) es_again.tree;
        left = semicolon_token.rest;
        others = semicolon_token.others;
        spelled = λ m h. (key.rest, key.is, (t_token.rest, t_token.is, (open_token.at, open_token.rest, open_token.is, es_again.spelled (word w.Close ∷ word w.Semicolon ∷ m) (close_token.at, close_token.rest, close_token.is, (semicolon_token.at, semicolon_token.rest, semicolon_token.is, h)))));
        fit = (some_expression es_again.tree es es_again.same g.0, es_again.fit);
        same = ap (insert 0 (placeless_name t)) es_again.same;
      }
  query_replaced (select at columns t cs) n ts g q =
      let key = first ts q in
      let columns_again = names_replaced columns (word w.From ∷ named t ∷ where_spelling cs (word w.Semicolon ∷ n)) key.rest tt key.others in
      let from_token = first columns_again.left columns_again.others in
      let t_token = first from_token.rest from_token.others in
      let cs_again = where_replaced cs (word w.Semicolon ∷ n) t_token.rest g.1 t_token.others in
      let semicolon_token = first cs_again.left cs_again.others in
      record {
        tree = select key.at columns_again.tree (moved t_token.at t) cs_again.tree;
        left = semicolon_token.rest;
        others = semicolon_token.others;
        spelled = λ m h. (
          key.rest,
          key.is,
          columns_again.spelled
              (word w.From ∷ named (moved t_token.at t) ∷ where_spelling cs_again.tree (word w.Semicolon ∷ m)) (
                from_token.at,
                from_token.rest,
                from_token.is,
                (
                  t_token.rest,
                  t_token.is,
                  cs_again.spelled (word w.Semicolon ∷ m)
                      (semicolon_token.at, semicolon_token.rest, semicolon_token.is, h),
                ),
              ),
        );
        fit = (some_name columns_again.tree columns columns_again.same g.0, cs_again.fit);
        same = both (λ xs ys. select 0 xs (placeless_name t) ys) columns_again.same cs_again.same;
      }
  query_replaced (update at t sets cs) n ts g q =
      let key = first ts q in
      let t_token = first key.rest key.others in
      let set_token = first t_token.rest t_token.others in
      let sets_again = sets_replaced sets (where_spelling cs (word w.Semicolon ∷ n)) set_token.rest g.1 set_token.others in
      let cs_again = where_replaced cs (word w.Semicolon ∷ n) sets_again.left g.2 sets_again.others in
      let semicolon_token = first cs_again.left cs_again.others in
      record {
        tree = update key.at (moved t_token.at t) sets_again.tree cs_again.tree;
        left = semicolon_token.rest;
        others = semicolon_token.others;
        spelled = λ m h. (key.rest, key.is, (t_token.rest, t_token.is, (set_token.at, set_token.rest, set_token.is, sets_again.spelled (where_spelling cs_again.tree (word w.Semicolon ∷ m)) (cs_again.spelled (word w.Semicolon ∷ m) (semicolon_token.at, semicolon_token.rest, semicolon_token.is, h)))));
        fit = (some_assignment sets_again.tree sets sets_again.same g.0, sets_again.fit, cs_again.fit);
        same = both (update 0 (placeless_name t)) sets_again.same cs_again.same;
      }
  query_replaced (delete at t cs) n ts g q =
      let key = first ts q in
      let t_token = first key.rest key.others in
      let cs_again = where_replaced cs (word w.Semicolon ∷ n) t_token.rest g t_token.others in
      let semicolon_token = first cs_again.left cs_again.others in
      record {
        tree = delete key.at (moved t_token.at t) cs_again.tree;
        left = semicolon_token.rest;
        others = semicolon_token.others;
        spelled = λ m h. (key.rest, key.is, (t_token.rest, t_token.is, cs_again.spelled (word w.Semicolon ∷ m) (semicolon_token.at, semicolon_token.rest, semicolon_token.is, h)));
        fit = cs_again.fit;
        same = ap (delete 0 (placeless_name t)) cs_again.same;
      }
  query_replaced (expect at e t cs) n ts g q =
      let key = first ts q in
      let e_again = replaced e (word w.From ∷ named t ∷ where_spelling cs (word w.Semicolon ∷ n)) key.rest g.0 key.others in
      let from_token = first e_again.left e_again.others in
      let t_token = first from_token.rest from_token.others in
      let cs_again = where_replaced cs (word w.Semicolon ∷ n) t_token.rest g.1 t_token.others in
      let semicolon_token = first cs_again.left cs_again.others in
      record {
        tree = expect key.at e_again.tree (moved t_token.at t) cs_again.tree;
        left = semicolon_token.rest;
        others = semicolon_token.others;
        spelled = λ m h. (
          key.rest,
          key.is,
          e_again.spelled
              (word w.From ∷ named (moved t_token.at t) ∷ where_spelling cs_again.tree (word w.Semicolon ∷ m)) (
                from_token.at,
                from_token.rest,
                from_token.is,
                (
                  t_token.rest,
                  t_token.is,
                  cs_again.spelled (word w.Semicolon ∷ m)
                      (semicolon_token.at, semicolon_token.rest, semicolon_token.is, h),
                ),
              ),
        );
        fit = (e_again.fit, cs_again.fit);
        same = both (λ x ys. expect 0 x (placeless_name t) ys) e_again.same cs_again.same;
      }

  pub queries_replaced : (e : Queries) (n : List Mark) (ts : List Token) → AreGroupedQueries e
      → kinds ts ≡ kinds_of (queries_spelling e n) → Again queries_spelling placeless_queries AreGroupedQueries e n ts
  queries_replaced no_query n ts g q =
      record { tree = no_query; left = ts; others = q; spelled = λ m h. h; fit = tt; same = refl }
  queries_replaced (query e qs) n ts g q =
      let e_again = query_replaced e (queries_spelling qs n) ts g.0 q in
      let qs_again = queries_replaced qs n e_again.left g.1 e_again.others in
      record {
        tree = query e_again.tree qs_again.tree;
        left = qs_again.left;
        others = qs_again.others;
        spelled = λ m h. e_again.spelled (queries_spelling qs_again.tree m) (qs_again.spelled m h);
        fit = (e_again.fit, qs_again.fit);
        same = both query e_again.same qs_again.same;
      }

  pub where_replaced : (e : Conditions) (n : List Mark) (ts : List Token) → AreGroupedTests e
      → kinds ts ≡ kinds_of (where_spelling e n) → Again where_spelling placeless_conditions AreGroupedTests e n ts
  where_replaced no_condition n ts g q =
      record { tree = no_condition; left = ts; others = q; spelled = λ m h. h; fit = tt; same = refl }
  where_replaced (condition x c e cs) n ts g q =
      let where_token = first ts q in
      let name_token = first where_token.rest where_token.others in
      let sign = first name_token.rest name_token.others in
      let e_again = replaced e (and_spelling cs n) sign.rest g.1 sign.others in
      let cs_again = and_replaced cs n e_again.left g.2 e_again.others in
      record {
        tree = condition (moved name_token.at x) c e_again.tree cs_again.tree;
        left = cs_again.left;
        others = cs_again.others;
        spelled = λ m h. (where_token.at, where_token.rest, where_token.is, (name_token.rest, name_token.is, (sign.at, sign.rest, sign.is, e_again.spelled (and_spelling cs_again.tree m) (cs_again.spelled m h))));
        fit = (sum_again e_again.tree e e_again.same g.0, e_again.fit, cs_again.fit);
        same = both (condition (placeless_name x) c) e_again.same cs_again.same;
      }

  pub and_replaced : (e : Conditions) (n : List Mark) (ts : List Token) → AreGroupedTests e
      → kinds ts ≡ kinds_of (and_spelling e n) → Again and_spelling placeless_conditions AreGroupedTests e n ts
  and_replaced no_condition n ts g q =
      record { tree = no_condition; left = ts; others = q; spelled = λ m h. h; fit = tt; same = refl }
  and_replaced (condition x c e cs) n ts g q =
      let and_token = first ts q in
      let name_token = first and_token.rest and_token.others in
      let sign = first name_token.rest name_token.others in
      let e_again = replaced e (and_spelling cs n) sign.rest g.1 sign.others in
      let cs_again = and_replaced cs n e_again.left g.2 e_again.others in
      record {
        tree = condition (moved name_token.at x) c e_again.tree cs_again.tree;
        left = cs_again.left;
        others = cs_again.others;
        spelled = λ m h. (and_token.at, and_token.rest, and_token.is, (name_token.rest, name_token.is, (sign.at, sign.rest, sign.is, e_again.spelled (and_spelling cs_again.tree m) (cs_again.spelled m h))));
        fit = (sum_again e_again.tree e e_again.same g.0, e_again.fit, cs_again.fit);
        same = both (condition (placeless_name x) c) e_again.same cs_again.same;
      }

  pub sets_replaced : (e : Assignments) (n : List Mark) (ts : List Token) → AreGroupedSets e
      → kinds ts ≡ kinds_of (sets_spelling e n) → Again sets_spelling placeless_assignments AreGroupedSets e n ts
  sets_replaced no_assignment n ts g q =
      record { tree = no_assignment; left = ts; others = q; spelled = λ m h. h; fit = tt; same = refl }
  sets_replaced (assignment x e sets) n ts g q =
      let name_token = first ts q in
      let becomes_token = first name_token.rest name_token.others in
      let e_again = replaced e (more_sets_spelling sets n) becomes_token.rest g.0 becomes_token.others in
      let sets_again = more_sets_replaced sets n e_again.left g.1 e_again.others in
      record {
        tree = assignment (moved name_token.at x) e_again.tree sets_again.tree;
        left = sets_again.left;
        others = sets_again.others;
        spelled = λ m h. (
          name_token.rest,
          name_token.is,
          (
            becomes_token.at,
            becomes_token.rest,
            becomes_token.is,
            e_again.spelled (more_sets_spelling sets_again.tree m) (sets_again.spelled m h),
          ),
        );
        fit = (e_again.fit, sets_again.fit);
        same = both (assignment (placeless_name x)) e_again.same sets_again.same;
      }

  pub more_sets_replaced : (e : Assignments) (n : List Mark) (ts : List Token) → AreGroupedSets e
      → kinds ts ≡ kinds_of (more_sets_spelling e n)
      → Again more_sets_spelling placeless_assignments AreGroupedSets e n ts
  more_sets_replaced no_assignment n ts g q =
      record { tree = no_assignment; left = ts; others = q; spelled = λ m h. h; fit = tt; same = refl }
  more_sets_replaced (assignment x e sets) n ts g q =
      let comma_token = first ts q in
      let name_token = first comma_token.rest comma_token.others in
      let becomes_token = first name_token.rest name_token.others in
      let e_again = replaced e (more_sets_spelling sets n) becomes_token.rest g.0 becomes_token.others in
      let sets_again = more_sets_replaced sets n e_again.left g.1 e_again.others in
      record {
        tree = assignment (moved name_token.at x) e_again.tree sets_again.tree;
        left = sets_again.left;
        others = sets_again.others;
        spelled = λ m h. (comma_token.at, comma_token.rest, comma_token.is, (name_token.rest, name_token.is, (becomes_token.at, becomes_token.rest, becomes_token.is, e_again.spelled (more_sets_spelling sets_again.tree m) (sets_again.spelled m h))));
        fit = (e_again.fit, sets_again.fit);
        same = both (assignment (placeless_name x)) e_again.same sets_again.same;
      }
