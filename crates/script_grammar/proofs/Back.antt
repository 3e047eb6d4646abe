-- One token back: what the machine's stack may read after a token, the stack before it may read with that token.
use Rattle.std.proofs.Common.{◌≡◌, ℕ, ◌-◌, List, [], ◌∷◌, inl, inr, Option, Some, None, if◌then◌else◌, refl, sym, ap, ◌∙◌, subst, arith}
use Rattle.script_tree.specs.Syntax.{number, text, variable, call, no_expression, expression, Query, insert, select, update, delete, expect, no_query, query, no_condition, condition, no_assignment, assignment, Statement, let_, set_, if_, while_, for_, echo, status, return, do_, no_else, else_, Statements, no_statement, statement}
use Rattle.script_tree.specs.declared.comparison.Comparison.{Comparison}
use Rattle.script_tree.specs.declared.syntax.name.Name.{Name}
use Rattle.script_tree.specs.declared.syntax.declaration.Declaration.TheVariants as declared
use Rattle.script_tokens.specs.Kinds as kind
use Rattle.script_tokens.specs.Kinds.{Kind, Token, token}
use Rattle.script_tokens.specs.declared.word.Word.{Word}
use Rattle.script_tokens.specs.declared.word.Word.TheVariants as w
use Rattle.script_grammar.specs.Spelling as mark
use Rattle.script_grammar.specs.Spelling.{Mark, named, comparison_word, names, more_spelling, query_spelling, queries_spelling, where_spelling, and_spelling, more_sets_spelling, statement_spelling, else_spelling, statements_spelling, block_spelling, AreTokens}
use Rattle.script_grammar.specs.Grouping.{IsGroupedQuery, IsGroupedStatement, AreGroupedStatements, IsGroupedBlock}
use Rattle.script_grammar.specs.Machine.{joint_of, comparison_of, Val, of_name, of_names, of_expression, of_expressions, of_comparison, of_tests, of_sets, of_query, of_statement, of_statements, of_else, of_declaration, puts, adds_name, adds_expression, adds_query, adds_statement, adds_declaration, called, inserted, selected, updated, deleted, expected, bound, said, branched, otherwise, repeated, turned, stored, tabled, defined, paged, apply, Symbol, act, word, a_name, a_path, a_comparison, operand, prefixes, atom, tail, name_tail, arguments, more_arguments, parameters, more_names, a_query, more_queries, filter, more_tests, more_sets, a_statement, statements, else_part, declarations, State, test, assignment as assigns, filtered, block, begin_operand, begin_query, begin_statement, begin_declaration, by_word, take_name, take_path, take_comparison, feed}
use Rattle.script_grammar.specs.declared.joint.Joint.TheVariants.{And}
use Rattle.script_tokens.specs.Feed.{is_word}
use Rattle.script_grammar.proofs.Added.{statements_in, with_names, with_expressions, with_conditions, with_assignments, with_statements, with_declarations, all_names, all_statements}
use Rattle.script_grammar.proofs.Complete.{valued_call, valued_insert, valued_select, valued_update, valued_delete, valued_expect, valued_if, valued_while, valued_for, valued_else, valued_table}
use Rattle.script_grammar.proofs.Yields.{Spelled, declarations_before, Yields}
use Rattle.script_grammar.proofs.BackExpressions.{no_state, land, one_of, with_values, heads, comparison_is, no_expression_is, no_assignment_is, no_name_is, atom_back, prefix_back, operand_back, first_word, tail_back}

-- ---- names

pub name_back : (at : ℕ) (t : Kind) (k : List Symbol) (vs : List Val) (s : State) (ts : List Token) (out : List Val)
    → take_name at t k vs ≡ Some s → Yields s.0 s.1 ts out
    → (x : Name) × (token at t ∷ ts ≡ token x.at (kind.name x.text) ∷ ts) × Yields k (of_name x ∷ vs) ts out
name_back at (kind.name x) k vs s ts out h y = (record { at = at; text = x }, refl, land k (of_name (record { at = at; text = x }) ∷ vs) s ts out h y)
name_back at (kind.fixed v) k vs s ts out h y = no_state s h
name_back at (kind.number n) k vs s ts out h y = no_state s h
name_back at (kind.text x) k vs s ts out h y = no_state s h

pub path_back : (at : ℕ) (t : Kind) (k : List Symbol) (vs : List Val) (s : State) (ts : List Token) (out : List Val)
    → take_path at t k vs ≡ Some s → Yields s.0 s.1 ts out
    → (x : Name) × (token at t ∷ ts ≡ token x.at (kind.text x.text) ∷ ts) × Yields k (of_name x ∷ vs) ts out
path_back at (kind.text x) k vs s ts out h y = (record { at = at; text = x }, refl, land k (of_name (record { at = at; text = x }) ∷ vs) s ts out h y)
path_back at (kind.fixed v) k vs s ts out h y = no_state s h
path_back at (kind.number n) k vs s ts out h y = no_state s h
path_back at (kind.name x) k vs s ts out h y = no_state s h

comparison_back : (o : Option Comparison) (t : Token) (k : List Symbol) (vs : List Val) (s : State) (ts : List Token)
    (out : List Val) → comparison_of t.kind ≡ o → take_comparison o k vs ≡ Some s → Yields s.0 s.1 ts out
    → Yields (a_comparison ∷ k) vs (t ∷ ts) out
comparison_back None t k vs s ts out e h y = no_state s h
comparison_back (Some c) t k vs s ts out e h y = (
  c,
  t.at,
  ts,
  first_word t ts (comparison_word c) (comparison_is t.kind c e),
  land k (of_comparison c ∷ vs) s ts out h y,
)

-- ---- statements of a transaction

pub record QueryRead (ts : List Token) (k : List Symbol) (vs out : List Val) : Type 0 where
  pub tree : Query
  pub next : List Token
  pub grouped : IsGroupedQuery tree
  pub spelled : Spelled (query_spelling tree) ts next
  pub after : Yields k (of_query tree ∷ vs) next out

pub query_back : (at : ℕ) (v : Word) (k : List Symbol) (vs : List Val) (s : State) (ts : List Token) (out : List Val)
    → begin_query at v k vs ≡ Some s → Yields s.0 s.1 ts out → QueryRead (token at (kind.fixed v) ∷ ts) k vs out
query_back at w.Insert k vs s ts out h y =
    let z : Yields (a_name ∷ word w.Open ∷ act (puts (of_expressions [])) ∷ operand 6 ∷ act adds_expression ∷ more_arguments w.Close ∷ word w.Semicolon ∷ act (inserted at) ∷ k) vs ts out = land (a_name ∷ word w.Open ∷ act (puts (of_expressions [])) ∷ operand 6 ∷ act adds_expression ∷ more_arguments w.Close ∷ word w.Semicolon ∷ act (inserted at) ∷ k) vs s ts out h y in
    let z3 = z.3 in
    let z4 = z3.3 in
    let z5 = z4.2 in
    let z6 = z5.4 in
    record {
      tree = insert at z.0 (expression z4.0.tree z5.0);
      next = z6.1;
      grouped = (no_expression_is z4.0.tree z5.0, (z4.0.grouped, z5.2));
      spelled = λ n g. (ts, refl, (z.1, z.2, (z3.0, z3.1, z3.2, z4.0.spelled (more_spelling z5.0 (mark.word w.Close ∷ mark.word w.Semicolon ∷ n)) (z5.3 (mark.word w.Semicolon ∷ n) (z6.0, z6.1, z6.2, g)))));
      after = with_values k (apply (inserted at)
          (with_expressions (expression z4.0.tree z5.0) (of_expressions [] ∷ of_name z.0 ∷ vs)))
          (of_query (insert at z.0 (expression z4.0.tree z5.0)) ∷ vs) z6.1 out
          (valued_insert at z.0 (expression z4.0.tree z5.0) vs) z6.3;
    }
query_back at w.Select k vs s ts out h y =
    let z : Yields (a_name ∷ act adds_name ∷ more_names w.From ∷ a_name ∷ filtered (act (selected at) ∷ k)) (of_names [] ∷ vs) ts out = land (a_name ∷ act adds_name ∷ more_names w.From ∷ a_name ∷ filtered (act (selected at) ∷ k)) (of_names [] ∷ vs) s ts out h y in
    let z3 = z.3 in
    let z4 = z3.3 in
    let z5 = z4.3 in
    let z6 = z5.4 in
    record {
      tree = select at (z.0 ∷ z3.0) z4.0 z5.0;
      next = z6.1;
      grouped = (no_name_is z.0 z3.0, z5.2);
      spelled = λ n g. (ts, refl, (z.1, z.2, z3.2 (named z4.0 ∷ where_spelling z5.0 (mark.word w.Semicolon ∷ n)) (z4.1, z4.2, z5.3 (mark.word w.Semicolon ∷ n) (z6.0, z6.1, z6.2, g))));
      after = with_values k (apply (selected at)
          (with_conditions z5.0 (of_tests [] ∷ of_name z4.0 ∷ with_names (z.0 ∷ z3.0) (of_names [] ∷ vs))))
          (of_query (select at (z.0 ∷ z3.0) z4.0 z5.0) ∷ vs) z6.1 out
          (valued_select at (z.0 ∷ z3.0) z4.0 z5.0 vs) z6.3;
    }
query_back at w.Update k vs s ts out h y =
    let z : Yields (a_name ∷ word w.Set ∷ act (puts (of_sets [])) ∷ assigns (more_sets ∷ filtered (act (updated at) ∷ k))) vs ts out = land (a_name ∷ word w.Set ∷ act (puts (of_sets [])) ∷ assigns (more_sets ∷ filtered (act (updated at) ∷ k))) vs s ts out h y in
    let z3 = z.3 in
    let z4 = z3.3 in
    let z5 = z4.3 in
    let z6 = z5.3 in
    let z7 = z6.2 in
    let z8 = z7.4 in
    let z9 = z8.4 in
    record {
      tree = update at z.0 (assignment z4.0 z6.0.tree z7.0) z8.0;
      next = z9.1;
      grouped = (no_assignment_is z4.0 z6.0.tree z7.0, (z6.0.grouped, z7.2), z8.2);
      spelled = λ n g.
          let o : List Mark = where_spelling z8.0 (mark.word w.Semicolon ∷ n) in
          (ts, refl, (z.1, z.2, (z3.0, z3.1, z3.2, (z4.1, z4.2, (z5.0, z5.1, z5.2, z6.0.spelled (more_sets_spelling z7.0 o) (z7.3 o (z8.3 (mark.word w.Semicolon ∷ n) (z9.0, z9.1, z9.2, g))))))));
      after = with_values k (apply (updated at) (with_conditions z8.0 (of_tests [] ∷ with_assignments (assignment z4.0 z6.0.tree z7.0) (of_sets [] ∷ of_name z.0 ∷ vs)))) (of_query (update at z.0 (assignment z4.0 z6.0.tree z7.0) z8.0) ∷ vs) z9.1 out (valued_update at z.0 (assignment z4.0 z6.0.tree z7.0) z8.0 vs) z9.3;
    }
query_back at w.Delete k vs s ts out h y =
    let z : Yields (a_name ∷ filtered (act (deleted at) ∷ k)) vs ts out = land (a_name ∷ filtered (act (deleted at) ∷ k)) vs s ts out h y in
    let z3 = z.3 in
    let z4 = z3.4 in
    record {
      tree = delete at z.0 z3.0;
      next = z4.1;
      grouped = z3.2;
      spelled = λ n g. (ts, refl, (z.1, z.2, z3.3 (mark.word w.Semicolon ∷ n) (z4.0, z4.1, z4.2, g)));
      after = with_values k (apply (deleted at) (with_conditions z3.0 (of_tests [] ∷ of_name z.0 ∷ vs)))
          (of_query (delete at z.0 z3.0) ∷ vs) z4.1 out (valued_delete at z.0 z3.0 vs) z4.3;
    }
query_back at w.Expect k vs s ts out h y =
    let z : Yields (operand 6 ∷ word w.From ∷ a_name ∷ filtered (act (expected at) ∷ k)) vs ts out = land (operand 6 ∷ word w.From ∷ a_name ∷ filtered (act (expected at) ∷ k)) vs s ts out h y in
    let z2 = z.2 in
    let z3 = z2.3 in
    let z4 = z3.3 in
    let z5 = z4.4 in
    record {
      tree = expect at z.0.tree z3.0 z4.0;
      next = z5.1;
      grouped = (z.0.grouped, z4.2);
      spelled = λ n g.
          let o : List Mark = where_spelling z4.0 (mark.word w.Semicolon ∷ n) in
          (ts, refl, z.0.spelled (mark.word w.From ∷ named z3.0 ∷ o) (z2.0, z2.1, z2.2, (z3.1, z3.2, z4.3 (mark.word w.Semicolon ∷ n) (z5.0, z5.1, z5.2, g))));
      after = with_values k (apply (expected at)
          (with_conditions z4.0 (of_tests [] ∷ of_name z3.0 ∷ of_expression z.0.tree ∷ vs)))
          (of_query (expect at z.0.tree z3.0 z4.0) ∷ vs) z5.1 out (valued_expect at z.0.tree z3.0 z4.0 vs) z5.3;
    }
query_back at v k vs s ts out h y = no_state s h

-- ---- statements

pub record StatementRead (ts : List Token) (k : List Symbol) (vs out : List Val) : Type 0 where
  pub tree : Statement
  pub next : List Token
  pub grouped : IsGroupedStatement tree
  pub spelled : Spelled (statement_spelling tree) ts next
  pub after : Yields k (of_statement tree ∷ vs) next out

pub statement_back : (at : ℕ) (v : Word) (k : List Symbol) (vs : List Val) (s : State) (ts : List Token)
    (out : List Val) → begin_statement at v k vs ≡ Some s → Yields s.0 s.1 ts out
    → StatementRead (token at (kind.fixed v) ∷ ts) k vs out
statement_back at w.Let k vs s ts out h y =
    let z : Yields (a_name ∷ word w.Becomes ∷ operand 6 ∷ word w.Semicolon ∷ act (bound (let_ at)) ∷ k) vs ts out = land (a_name ∷ word w.Becomes ∷ operand 6 ∷ word w.Semicolon ∷ act (bound (let_ at)) ∷ k) vs s ts out h y in
    let z3 = z.3 in
    let z4 = z3.3 in
    let z5 = z4.2 in
    record { tree = let_ at z.0 z4.0.tree; next = z5.1; grouped = z4.0.grouped; spelled = λ n g. (ts, refl, (z.1, z.2, (z3.0, z3.1, z3.2, z4.0.spelled (mark.word w.Semicolon ∷ n) (z5.0, z5.1, z5.2, g)))); after = z5.3 }
statement_back at w.Set k vs s ts out h y =
    let z : Yields (a_name ∷ word w.Becomes ∷ operand 6 ∷ word w.Semicolon ∷ act (bound (set_ at)) ∷ k) vs ts out = land (a_name ∷ word w.Becomes ∷ operand 6 ∷ word w.Semicolon ∷ act (bound (set_ at)) ∷ k) vs s ts out h y in
    let z3 = z.3 in
    let z4 = z3.3 in
    let z5 = z4.2 in
    record { tree = set_ at z.0 z4.0.tree; next = z5.1; grouped = z4.0.grouped; spelled = λ n g. (ts, refl, (z.1, z.2, (z3.0, z3.1, z3.2, z4.0.spelled (mark.word w.Semicolon ∷ n) (z5.0, z5.1, z5.2, g)))); after = z5.3 }
statement_back at w.If k vs s ts out h y =
    let z : Yields (operand 6 ∷ block (else_part ∷ act (branched at) ∷ k)) vs ts out = land (operand 6 ∷ block (else_part ∷ act (branched at) ∷ k)) vs s ts out h y in
    let z2 = z.2 in
    let z3 = z2.3 in
    let z4 = z3.4 in
    record {
      tree = if_ at z.0.tree z3.0 z4.0;
      next = z4.1;
      grouped = (z.0.grouped, z3.2, z4.2);
      spelled = λ n g. (ts, refl, z.0.spelled (mark.word w.BraceOpen ∷ statements_spelling z3.0 (mark.word w.BraceClose ∷ else_spelling z4.0 n)) (z2.0, z2.1, z2.2, z3.3 (else_spelling z4.0 n) (z4.3 n g)));
      after = with_values k (apply (branched at)
          (of_else z4.0 ∷ with_statements z3.0 (of_statements [] ∷ of_expression z.0.tree ∷ vs)))
          (of_statement (if_ at z.0.tree z3.0 z4.0) ∷ vs) z4.1 out (valued_if at z.0.tree z3.0 z4.0 vs) z4.4;
    }
statement_back at w.While k vs s ts out h y =
    let z : Yields (operand 6 ∷ block (act (repeated at) ∷ k)) vs ts out = land (operand 6 ∷ block (act (repeated at) ∷ k)) vs s ts out h y in
    let z2 = z.2 in
    let z3 = z2.3 in
    record {
      tree = while_ at z.0.tree z3.0;
      next = z3.1;
      grouped = (z.0.grouped, z3.2);
      spelled = λ n g. (ts, refl, z.0.spelled (mark.word w.BraceOpen ∷ statements_spelling z3.0 (mark.word w.BraceClose ∷ n)) (z2.0, z2.1, z2.2, z3.3 n g));
      after = with_values k (apply (repeated at)
          (with_statements z3.0 (of_statements [] ∷ of_expression z.0.tree ∷ vs)))
          (of_statement (while_ at z.0.tree z3.0) ∷ vs) z3.1 out (valued_while at z.0.tree z3.0 vs) z3.4;
    }
statement_back at w.For k vs s ts out h y =
    let z : Yields (a_name ∷ word w.In ∷ operand 6 ∷ block (act (turned at) ∷ k)) vs ts out = land (a_name ∷ word w.In ∷ operand 6 ∷ block (act (turned at) ∷ k)) vs s ts out h y in
    let z3 = z.3 in
    let z4 = z3.3 in
    let z5 = z4.2 in
    let z6 = z5.3 in
    record {
      tree = for_ at z.0 z4.0.tree z6.0;
      next = z6.1;
      grouped = (z4.0.grouped, z6.2);
      spelled = λ n g. (ts, refl, (z.1, z.2, (z3.0, z3.1, z3.2, z4.0.spelled (mark.word w.BraceOpen ∷ statements_spelling z6.0 (mark.word w.BraceClose ∷ n)) (z5.0, z5.1, z5.2, z6.3 n g))));
      after = with_values k (apply (turned at)
          (with_statements z6.0 (of_statements [] ∷ of_expression z4.0.tree ∷ of_name z.0 ∷ vs)))
          (of_statement (for_ at z.0 z4.0.tree z6.0) ∷ vs) z6.1 out (valued_for at z.0 z4.0.tree z6.0 vs) z6.4;
    }
statement_back at w.Echo k vs s ts out h y =
    let z : Yields (operand 6 ∷ word w.Semicolon ∷ act (said (echo at)) ∷ k) vs ts out = land (operand 6 ∷ word w.Semicolon ∷ act (said (echo at)) ∷ k) vs s ts out h y in
    let z2 = z.2 in
    record { tree = echo at z.0.tree; next = z2.1; grouped = z.0.grouped; spelled = λ n g. (ts, refl, z.0.spelled (mark.word w.Semicolon ∷ n) (z2.0, z2.1, z2.2, g)); after = z2.3 }
statement_back at w.Status k vs s ts out h y =
    let z : Yields (operand 6 ∷ word w.Semicolon ∷ act (said (status at)) ∷ k) vs ts out = land (operand 6 ∷ word w.Semicolon ∷ act (said (status at)) ∷ k) vs s ts out h y in
    let z2 = z.2 in
    record { tree = status at z.0.tree; next = z2.1; grouped = z.0.grouped; spelled = λ n g. (ts, refl, z.0.spelled (mark.word w.Semicolon ∷ n) (z2.0, z2.1, z2.2, g)); after = z2.3 }
statement_back at w.Return k vs s ts out h y =
    let z : Yields (operand 6 ∷ word w.Semicolon ∷ act (said (return at)) ∷ k) vs ts out = land (operand 6 ∷ word w.Semicolon ∷ act (said (return at)) ∷ k) vs s ts out h y in
    let z2 = z.2 in
    record { tree = return at z.0.tree; next = z2.1; grouped = z.0.grouped; spelled = λ n g. (ts, refl, z.0.spelled (mark.word w.Semicolon ∷ n) (z2.0, z2.1, z2.2, g)); after = z2.3 }
statement_back at w.Do k vs s ts out h y =
    let z : Yields (operand 6 ∷ word w.Semicolon ∷ act (said (do_ at)) ∷ k) vs ts out = land (operand 6 ∷ word w.Semicolon ∷ act (said (do_ at)) ∷ k) vs s ts out h y in
    let z2 = z.2 in
    record { tree = do_ at z.0.tree; next = z2.1; grouped = z.0.grouped; spelled = λ n g. (ts, refl, z.0.spelled (mark.word w.Semicolon ∷ n) (z2.0, z2.1, z2.2, g)); after = z2.3 }
statement_back at v k vs s ts out h y = no_state s h

-- ---- declarations

block_again : (ss : Statements) (n : List Mark) → block_spelling (statements_in ss) n ≡ statements_spelling ss n
block_again no_statement n = refl
block_again (statement s ss) n = ap (statement_spelling s) (block_again ss n)

block_grouped : (ss : Statements) → AreGroupedStatements ss → IsGroupedBlock (statements_in ss)
block_grouped no_statement g = tt
block_grouped (statement s ss) g = (g.0, block_grouped ss g.1)

block_spelled : (ss : Statements) (ts mid : List Token)
    → Spelled (λ n. statements_spelling ss (mark.word w.BraceClose ∷ n)) ts mid
    → Spelled (λ n. block_spelling (statements_in ss) (mark.word w.BraceClose ∷ n)) ts mid
block_spelled ss ts mid s = λ n g. subst (λ z. AreTokens z ts) (sym (block_again ss (mark.word w.BraceClose ∷ n))) (s n g)

pub declaration_back : (at : ℕ) (v : Word) (k : List Symbol) (vs : List Val) (s : State) (ts : List Token)
    (out : List Val) → begin_declaration at v (act adds_declaration ∷ declarations ∷ k) vs ≡ Some s
    → Yields s.0 s.1 ts out → Yields (declarations ∷ k) vs (token at (kind.fixed v) ∷ ts) out
declaration_back at w.Store k vs s ts out h y =
    let z : Yields (a_name ∷ word w.Semicolon ∷ act (stored at) ∷ act adds_declaration ∷ declarations ∷ k) vs ts out = land (a_name ∷ word w.Semicolon ∷ act (stored at) ∷ act adds_declaration ∷ declarations ∷ k) vs s ts out h y in
    let z3 = z.3 in
    let z4 = z3.3 in
    (declared.Store at z.0 ∷ z4.0, z4.1, (tt, z4.2), λ n g. (ts, refl, (z.1, z.2, (z3.0, z3.1, z3.2, z4.3 n g))), z4.4)
declaration_back at w.Table k vs s ts out h y =
    let z : Yields (a_name ∷ word w.Open ∷ act (puts (of_names [])) ∷ a_name ∷ act adds_name ∷ more_names w.Close ∷ word w.Semicolon ∷ act (tabled at) ∷ act adds_declaration ∷ declarations ∷ k) vs ts out = land (a_name ∷ word w.Open ∷ act (puts (of_names [])) ∷ a_name ∷ act adds_name ∷ more_names w.Close ∷ word w.Semicolon ∷ act (tabled at) ∷ act adds_declaration ∷ declarations ∷ k) vs s ts out h y in
    let z3 = z.3 in
    let z4 = z3.3 in
    let z5 = z4.3 in
    let z6 = z5.3 in
    let z7 = z6.3 in (
      declared.Table at z.0 (z4.0 ∷ z5.0) ∷ z7.0,
      z7.1,
      (no_name_is z4.0 z5.0, z7.2),
      λ n g. (ts, refl, (z.1, z.2, (z3.0, z3.1, z3.2, (z4.1, z4.2, z5.2 (mark.word w.Semicolon ∷ declarations_before z7.0 n) (z6.0, z6.1, z6.2, z7.3 n g))))),
      with_values k (with_declarations z7.0 (apply adds_declaration (apply (tabled at) (with_names (z4.0 ∷ z5.0) (of_names [] ∷ of_name z.0 ∷ vs))))) (with_declarations (declared.Table at z.0 (z4.0 ∷ z5.0) ∷ z7.0) vs) z7.1 out (ap (λ us. with_declarations z7.0 (apply adds_declaration us)) (valued_table at z.0 (z4.0 ∷ z5.0) vs)) z7.4,
    )
declaration_back at w.Function k vs s ts out h y =
    let z : Yields (a_name ∷ word w.Open ∷ act (puts (of_names [])) ∷ parameters ∷ block (act (defined at) ∷ act adds_declaration ∷ declarations ∷ k)) vs ts out = land (a_name ∷ word w.Open ∷ act (puts (of_names [])) ∷ parameters ∷ block (act (defined at) ∷ act adds_declaration ∷ declarations ∷ k)) vs s ts out h y in
    let z3 = z.3 in
    let z4 = z3.3 in
    let z5 = z4.3 in
    let z6 = z5.3 in
    let z7 = z6.4 in
    let ss : List Statement = statements_in z6.0 in
    let value : apply (defined at) (with_statements z6.0 (of_statements [] ∷ with_names z4.0 (of_names [] ∷ of_name z.0 ∷ vs))) ≡ of_declaration (declared.Function at z.0 z4.0 ss) ∷ vs =
    ap (apply (defined at)) (all_statements z6.0 [] (with_names z4.0 (of_names [] ∷ of_name z.0 ∷ vs)))
    ∙ ap (λ us. apply (defined at) (of_statements ss ∷ us)) (all_names z4.0 [] (of_name z.0 ∷ vs)) in (
      declared.Function at z.0 z4.0 ss ∷ z7.0,
      z7.1,
      (block_grouped z6.0 z6.2, z7.2),
      λ n g. (ts, refl, (z.1, z.2, (z3.0, z3.1, z3.2, z4.2 (mark.word w.BraceOpen ∷ block_spelling ss (mark.word w.BraceClose ∷ declarations_before z7.0 n)) (z5.0, z5.1, z5.2, block_spelled z6.0 z5.1 z6.1 z6.3 (declarations_before z7.0 n) (z7.3 n g))))),
      with_values k (with_declarations z7.0 (apply adds_declaration (apply (defined at) (with_statements z6.0 (of_statements [] ∷ with_names z4.0 (of_names [] ∷ of_name z.0 ∷ vs)))))) (with_declarations (declared.Function at z.0 z4.0 ss ∷ z7.0) vs) z7.1 out (ap (λ us. with_declarations z7.0 (apply adds_declaration us)) value) z7.4,
    )
declaration_back at w.Page k vs s ts out h y =
    let z : Yields (a_path ∷ block (act (paged at) ∷ act adds_declaration ∷ declarations ∷ k)) vs ts out = land (a_path ∷ block (act (paged at) ∷ act adds_declaration ∷ declarations ∷ k)) vs s ts out h y in
    let z3 = z.3 in
    let z4 = z3.3 in
    let z5 = z4.4 in
    let ss : List Statement = statements_in z4.0 in
    let value : apply (paged at) (with_statements z4.0 (of_statements [] ∷ of_name z.0 ∷ vs)) ≡ of_declaration (declared.Page at z.0 ss) ∷ vs = ap (apply (paged at)) (all_statements z4.0 [] (of_name z.0 ∷ vs)) in (
      declared.Page at z.0 ss ∷ z5.0,
      z5.1,
      (block_grouped z4.0 z4.2, z5.2),
      λ n g. (ts, refl, (z.1, z.2, (z3.0, z3.1, z3.2, block_spelled z4.0 z3.1 z4.1 z4.3 (declarations_before z5.0 n) (z5.3 n g)))),
      with_values k (with_declarations z5.0 (apply adds_declaration (apply (paged at) (with_statements z4.0 (of_statements [] ∷ of_name z.0 ∷ vs))))) (with_declarations (declared.Page at z.0 ss ∷ z5.0) vs) z5.1 out (ap (λ us. with_declarations z5.0 (apply adds_declaration us)) value) z5.4,
    )
declaration_back at v k vs s ts out h y = no_state s h

-- ---- all of them

by_word_back : (t : Kind) (begin : Word → Option State) (s : State) → by_word begin t ≡ Some s → (v : Word) × (t ≡ kind.fixed v) × (begin v ≡ Some s)
by_word_back (kind.fixed v) begin s h = (v, refl, h)
by_word_back (kind.name x) begin s h = no_state s h
by_word_back (kind.number n) begin s h = no_state s h
by_word_back (kind.text x) begin s h = no_state s h

at_word_first : (P : List Token → Type 0) (t : Token) (ts : List Token) (v : Word) → t.kind ≡ kind.fixed v → P (token t.at (kind.fixed v) ∷ ts) → P (t ∷ ts)
at_word_first P t ts v e p = subst P (sym (first_word t ts v e)) p

pub back : (t : Token) (k : List Symbol) (vs : List Val) (s : State) → feed t k vs ≡ Some s
    → (ts : List Token) (out : List Val) → Yields s.0 s.1 ts out → Yields k vs (t ∷ ts) out
back t [] vs s h ts out y = no_state s h
back t (act a ∷ k) vs s h ts out y = back t k (apply a vs) s h ts out y
back t (word v ∷ k) vs s h ts out y =
    elim (one_of (is_word v t.kind) (Some (k, vs)) None s h) [
      | inl q ↦ (t.at, ts, heads t.at v t.kind ts q.0, land k vs s ts out q.1 y)
      | inr q ↦ no_state s q.1
    ]
back t (a_name ∷ k) vs s h ts out y = let r = name_back t.at t.kind k vs s ts out h y in (r.0, ts, r.1, r.2)
back t (a_path ∷ k) vs s h ts out y = let r = path_back t.at t.kind k vs s ts out h y in (r.0, ts, r.1, r.2)
back t (a_comparison ∷ k) vs s h ts out y = comparison_back (comparison_of t.kind) t k vs s ts out refl h y
back t (operand l ∷ k) vs s h ts out y = operand_back l t k vs s ts out h y
back t (prefixes left ∷ k) vs s h ts out y = prefix_back t.at left t.kind k vs s ts out h y
back t (atom ∷ k) vs s h ts out y = let r = atom_back t.at t.kind k vs s ts out h y in (r.read, r.level_is, r.row_is, r.after)
back t (tail l left ∷ k) vs s h ts out y = tail_back (joint_of t.kind) l left t k vs s ts out refl (λ g. back t k vs s g ts out y) h y
back t (name_tail at x ∷ k) vs s h ts out y =
    elim (one_of (is_word w.Open t.kind) (Some (arguments w.Close ∷ act (called at x) ∷ k, of_expressions [] ∷ vs))
    (feed t k (of_expression (variable at x) ∷ vs)) s h) [
      | inl q ↦
          let z : Yields (arguments w.Close ∷ act (called at x) ∷ k) (of_expressions [] ∷ vs) ts out = land (arguments w.Close ∷ act (called at x) ∷ k) (of_expressions [] ∷ vs) s ts out q.1 y in (
            record { tree = call at x z.0; next = z.1; grouped = z.2; spelled = λ n g. (t ∷ ts, refl, (t.at, ts, heads t.at w.Open t.kind ts q.0, z.3 n g)) },
            omega arith,
            refl,
            with_values k (apply (called at x) (with_expressions z.0 (of_expressions [] ∷ vs)))
                (of_expression (call at x z.0) ∷ vs) z.1 out (valued_call at x z.0 vs) z.4,
          )
      | inr q ↦ (
        record { tree = variable at x; next = t ∷ ts; grouped = tt; spelled = λ n g. (t ∷ ts, refl, g) },
        omega arith,
        refl,
        back t k (of_expression (variable at x) ∷ vs) s q.1 ts out y,
      )
    ]
back t (arguments close ∷ k) vs s h ts out y =
    elim (one_of (is_word close t.kind) (Some (k, vs)) (begin_operand t.at t.kind 6 (act adds_expression ∷ more_arguments close ∷ k) vs) s h) [
      | inl q ↦ (no_expression, ts, tt, λ n g. (t.at, ts, heads t.at close t.kind ts q.0, g), land k vs s ts out q.1 y)
      | inr q ↦
          let a : Yields (operand 6 ∷ act adds_expression ∷ more_arguments close ∷ k) vs (t ∷ ts) out = operand_back 6 t (act adds_expression ∷ more_arguments close ∷ k) vs s ts out q.1 y in
          let z = a.2 in
          (expression a.0.tree z.0, z.1, (a.0.grouped, z.2), λ n g. a.0.spelled (more_spelling z.0 (mark.word close ∷ n)) (z.3 n g), z.4)
    ]
back t (more_arguments close ∷ k) vs s h ts out y =
    elim (one_of (is_word close t.kind) (Some (k, vs)) (if is_word w.Comma t.kind then Some (operand 6 ∷ act adds_expression ∷ more_arguments close ∷ k, vs) else None) s h) [
      | inl q ↦ (no_expression, ts, tt, λ n g. (t.at, ts, heads t.at close t.kind ts q.0, g), land k vs s ts out q.1 y)
      | inr q ↦ elim (one_of (is_word w.Comma t.kind) (Some (operand 6 ∷ act adds_expression ∷ more_arguments close ∷ k, vs)) None s q.1) [
        | inl q ↦
            let a : Yields (operand 6 ∷ act adds_expression ∷ more_arguments close ∷ k) vs ts out = land (operand 6 ∷ act adds_expression ∷ more_arguments close ∷ k) vs s ts out q.1 y in
            let z = a.2 in (
              expression a.0.tree z.0,
              z.1,
              (a.0.grouped, z.2),
              λ n g. (
                t.at,
                ts,
                heads t.at w.Comma t.kind ts q.0,
                a.0.spelled (more_spelling z.0 (mark.word close ∷ n)) (z.3 n g),
              ),
              z.4,
            )
        | inr q ↦ no_state s q.1
      ]
    ]
back t (parameters ∷ k) vs s h ts out y =
    elim (one_of (is_word w.Close t.kind) (Some (k, vs)) (take_name t.at t.kind (act adds_name ∷ more_names w.Close ∷ k) vs) s h) [
      | inl q ↦ ([], ts, λ n g. (t.at, ts, heads t.at w.Close t.kind ts q.0, g), land k vs s ts out q.1 y)
      | inr q ↦
          let r = name_back t.at t.kind (act adds_name ∷ more_names w.Close ∷ k) vs s ts out q.1 y in
          let z = r.2 in
          (r.0 ∷ z.0, z.1, λ n g. (ts, r.1, z.2 n g), z.3)
    ]
back t (more_names close ∷ k) vs s h ts out y =
    elim (one_of (is_word close t.kind) (Some (k, vs))
    (if is_word w.Comma t.kind then Some (a_name ∷ act adds_name ∷ more_names close ∷ k, vs) else None) s h) [
      | inl q ↦ ([], ts, λ n g. (t.at, ts, heads t.at close t.kind ts q.0, g), land k vs s ts out q.1 y)
      | inr q ↦ elim (one_of (is_word w.Comma t.kind) (Some (a_name ∷ act adds_name ∷ more_names close ∷ k, vs)) None s q.1) [
        | inl q ↦
            let a : Yields (a_name ∷ act adds_name ∷ more_names close ∷ k) vs ts out = land (a_name ∷ act adds_name ∷ more_names close ∷ k) vs s ts out q.1 y in
            let z = a.3 in
            (a.0 ∷ z.0, z.1, λ n g. (t.at, ts, heads t.at w.Comma t.kind ts q.0, (a.1, a.2, z.2 n g)), z.3)
        | inr q ↦ no_state s q.1
      ]
    ]
back t (a_query ∷ k) vs s h ts out y =
    let b = by_word_back t.kind (λ v. begin_query t.at v k vs) s h in
    let r = query_back t.at b.0 k vs s ts out b.2 y in
    (r.tree, r.next, r.grouped, λ n g. at_word_first (AreTokens (query_spelling r.tree n)) t ts b.0 b.1 (r.spelled n g), r.after)
back t (more_queries ∷ k) vs s h ts out y =
    elim (one_of (is_word w.BraceClose t.kind) (Some (k, vs)) (by_word (λ v. begin_query t.at v (act adds_query ∷ more_queries ∷ k) vs) t.kind) s h) [
      | inl q ↦ (no_query, ts, tt, λ n g. (t.at, ts, heads t.at w.BraceClose t.kind ts q.0, g), land k vs s ts out q.1 y)
      | inr q ↦
          let b = by_word_back t.kind (λ v. begin_query t.at v (act adds_query ∷ more_queries ∷ k) vs) s q.1 in
          let r = query_back t.at b.0 (act adds_query ∷ more_queries ∷ k) vs s ts out b.2 y in
          let z = r.after in
          (query r.tree z.0, z.1, (r.grouped, z.2), λ n g. at_word_first (AreTokens (query_spelling r.tree (queries_spelling z.0 (mark.word w.BraceClose ∷ n)))) t ts b.0 b.1 (r.spelled (queries_spelling z.0 (mark.word w.BraceClose ∷ n)) (z.3 n g)), z.4)
    ]
back t (filter ∷ k) vs s h ts out y =
    elim (one_of (is_word w.Where t.kind) (Some (test (more_tests ∷ k), vs)) (feed t k vs) s h) [
      | inl q ↦
          let a : Yields (test (more_tests ∷ k)) vs ts out = land (test (more_tests ∷ k)) vs s ts out q.1 y in
          let b = a.3 in
          let e = b.4 in
          let z = e.2 in (
            condition a.0 b.0 e.0.tree z.0,
            z.1,
            (e.1, e.0.grouped, z.2),
            λ n g. (
              t.at,
              ts,
              heads t.at w.Where t.kind ts q.0,
              (a.1, a.2, (b.1, b.2, b.3, e.0.spelled (and_spelling z.0 n) (z.3 n g))),
            ),
            z.4,
          )
      | inr q ↦ (no_condition, t ∷ ts, tt, λ n g. g, back t k vs s q.1 ts out y)
    ]
back t (more_tests ∷ k) vs s h ts out y =
    elim (one_of (is_word w.And t.kind) (Some (test (more_tests ∷ k), vs)) (feed t k vs) s h) [
      | inl q ↦
          let a : Yields (test (more_tests ∷ k)) vs ts out = land (test (more_tests ∷ k)) vs s ts out q.1 y in
          let b = a.3 in
          let e = b.4 in
          let z = e.2 in (
            condition a.0 b.0 e.0.tree z.0,
            z.1,
            (e.1, e.0.grouped, z.2),
            λ n g. (
              t.at,
              ts,
              heads t.at w.And t.kind ts q.0,
              (a.1, a.2, (b.1, b.2, b.3, e.0.spelled (and_spelling z.0 n) (z.3 n g))),
            ),
            z.4,
          )
      | inr q ↦ (no_condition, t ∷ ts, tt, λ n g. g, back t k vs s q.1 ts out y)
    ]
back t (more_sets ∷ k) vs s h ts out y =
    elim (one_of (is_word w.Comma t.kind) (Some (assigns (more_sets ∷ k), vs)) (feed t k vs) s h) [
      | inl q ↦
          let a : Yields (assigns (more_sets ∷ k)) vs ts out = land (assigns (more_sets ∷ k)) vs s ts out q.1 y in
          let b = a.3 in
          let e = b.3 in
          let z = e.2 in (
            assignment a.0 e.0.tree z.0,
            z.1,
            (e.0.grouped, z.2),
            λ n g. (
              t.at,
              ts,
              heads t.at w.Comma t.kind ts q.0,
              (a.1, a.2, (b.0, b.1, b.2, e.0.spelled (more_sets_spelling z.0 n) (z.3 n g))),
            ),
            z.4,
          )
      | inr q ↦ (no_assignment, t ∷ ts, tt, λ n g. g, back t k vs s q.1 ts out y)
    ]
back t (a_statement ∷ k) vs s h ts out y =
    let b = by_word_back t.kind (λ v. begin_statement t.at v k vs) s h in
    let r = statement_back t.at b.0 k vs s ts out b.2 y in
    (r.tree, r.next, r.grouped, λ n g. at_word_first (AreTokens (statement_spelling r.tree n)) t ts b.0 b.1 (r.spelled n g), r.after)
back t (statements ∷ k) vs s h ts out y =
    elim (one_of (is_word w.BraceClose t.kind) (Some (k, vs)) (by_word (λ v. begin_statement t.at v (act adds_statement ∷ statements ∷ k) vs) t.kind) s h) [
      | inl q ↦ (no_statement, ts, tt, λ n g. (t.at, ts, heads t.at w.BraceClose t.kind ts q.0, g), land k vs s ts out q.1 y)
      | inr q ↦
          let b = by_word_back t.kind (λ v. begin_statement t.at v (act adds_statement ∷ statements ∷ k) vs) s q.1 in
          let r = statement_back t.at b.0 (act adds_statement ∷ statements ∷ k) vs s ts out b.2 y in
          let z = r.after in
          (statement r.tree z.0, z.1, (r.grouped, z.2), λ n g. at_word_first (AreTokens (statement_spelling r.tree (statements_spelling z.0 (mark.word w.BraceClose ∷ n)))) t ts b.0 b.1 (r.spelled (statements_spelling z.0 (mark.word w.BraceClose ∷ n)) (z.3 n g)), z.4)
    ]
back t (else_part ∷ k) vs s h ts out y =
    elim (one_of (is_word w.Else t.kind) (Some (block (act otherwise ∷ k), vs)) (feed t k (of_else no_else ∷ vs)) s h) [
      | inl q ↦
          let a : Yields (block (act otherwise ∷ k)) vs ts out = land (block (act otherwise ∷ k)) vs s ts out q.1 y in
          let z = a.3 in (
            else_ z.0,
            z.1,
            z.2,
            λ n g. (t.at, ts, heads t.at w.Else t.kind ts q.0, (a.0, a.1, a.2, z.3 n g)),
            with_values k (apply otherwise (with_statements z.0 (of_statements [] ∷ vs)))
                (of_else (else_ z.0) ∷ vs) z.1 out (valued_else z.0 vs) z.4,
          )
      | inr q ↦ (no_else, t ∷ ts, tt, λ n g. g, back t k (of_else no_else ∷ vs) s q.1 ts out y)
    ]
back t (declarations ∷ k) vs s h ts out y =
    let b = by_word_back t.kind (λ v. begin_declaration t.at v (act adds_declaration ∷ declarations ∷ k) vs) s h in
    at_word_first (λ us. Yields (declarations ∷ k) vs us out) t ts b.0 b.1 (declaration_back t.at b.0 k vs s ts out b.2 y)
