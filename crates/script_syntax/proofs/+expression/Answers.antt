use Rattle.std.proofs.lemmas.Grind.{common_steps}
use Rattle.std.proofs.Common.{◌∙◌, ap, sym, refl, arith, ◌∷◌, [], ◌++◌, List, ◌≡◌, ◌-◌, length, map}
use Rattle.std.proofs.lemmas.Result.{err_from_is_err_and}
use Rattle.script_tree.specs.Syntax as tree
use Rattle.script_tree.specs.ExpressionView.{condition_of, assignment_of}
use Rattle.script_tree.specs.declared.syntax.expression.Assignment.{Assignment}
use Rattle.script_tree.specs.declared.syntax.expression.Condition.{Condition}
use Rattle.script_tokens.specs.Scans.{Scan}
use Rattle.script_tokens.specs.Feed.{rest_of}
use Rattle.script_tokens.specs.declared.word.Word.TheVariants as w
use Rattle.script_grammar.specs.Grouping.{most_repeats}
use Rattle.script_grammar.specs.declared.joint.Joint.TheVariants.{Indexing}
use Rattle.script_grammar.specs.Machine.{Symbol, Val, of_name, of_names, of_expression, of_expressions, of_comparison, of_tests, of_sets, of_query, of_queries, puts, adds_name, adds_expression, adds_test, adds_set, adds_query, joined_by, prefixed, bracketed, called, listed, transacted, inserted, selected, updated, deleted, expected, act, word, a_name, operand, prefixes, atom, tail, arguments, more_arguments, more_names, a_query, more_queries, filter, more_tests, more_sets, test, assignment, filtered, begin_query}
use Rattle.script_syntax.specs.Parses.{reading, fault_in, word_token, expression_value, expressions_value, tests_value, query_value}
use Rattle.script_syntax.proofs.Descend.{act_runs, fails, follows, begin_follows, behind_shorter, operand_more, operand_one, joint_runs, joint_stuck, joins, joint_fails, index_stuck, on_read, index_runs, no_prefix_runs, prefix_runs, map_push, arguments_runs, more_arguments_run, call_runs, more_queries_run, queries_end, filter_runs, more_tests_run, more_sets_run}
use Rattle.script_syntax.proofs.+expression.Goals as goal

-- ---- lists

pub expression::arguments-returns-clause-gives : goal.expression::arguments-returns-clause-gives
expression::arguments-returns-clause-gives t c =
    let l : List Symbol = operand 6 ∷ act adds_expression ∷ more_arguments c.args.close ∷ [] in
    follows expressions_value (arguments c.args.close ∷ []) (of_expressions [] ∷ []) c.args.tokens.now l
    (of_expressions c.in_ok-items.items ∷ []) c.args.tokens.now c.some_arguments.new.tokens c.some_arguments.result
    (λ k vs.
    arguments_runs c.args.close c.args.tokens.now (sym c.stands.ensures ∙ c.if-stands.false) k (of_expressions [] ∷ vs)
    ∙ ap (λ es. reading c.args.tokens.now (l ++ k) (of_expressions es ∷ vs)) (sym c.in_ok-items.ensures)) c.some_arguments.ensures.gives

pub expression::some_arguments-returns-clause-gives : goal.expression::some_arguments-returns-clause-gives
expression::some_arguments-returns-clause-gives t c =
    follows expressions_value (operand 6 ∷ act adds_expression ∷ more_arguments c.args.close ∷ []) (of_expressions c.args.items ∷ [])
    c.args.tokens.now (more_arguments c.args.close ∷ []) (of_expressions c.push.new.self ∷ []) c.operand.new.tokens
    c.more_arguments.new.tokens c.more_arguments.result
    (λ k vs.
    c.in_ok-operand.ensures.gives (act adds_expression ∷ more_arguments c.args.close ∷ k) (of_expressions c.args.items ∷ vs)
    ∙ act_runs adds_expression c.operand.new.tokens (more_arguments c.args.close ∷ k) (of_expression c.in_ok-operand.field-0 ∷ of_expressions c.args.items ∷ vs)
    ∙ ap (λ es. reading c.operand.new.tokens (more_arguments c.args.close ∷ k) (of_expressions es ∷ vs)) (sym c.in_ok-push.ensures.ok)) c.more_arguments.ensures.gives

pub expression::more_arguments-returns-in_err-take-clause-gives : goal.expression::more_arguments-returns-in_err-take-clause-gives
expression::more_arguments-returns-in_err-take-clause-gives t c =
    let p = err_from_is_err_and c.from_residual.result c.from_residual.ensures.1 in
    rw (p.1, p.2) (fails (more_arguments c.args.close ∷ []) (of_expressions c.args.items ∷ []) c.args.tokens.now (word w.Comma ∷ []) [] c.loop-alloc.tokens _
    (λ k vs. (
      operand 6 ∷ act adds_expression ∷ more_arguments c.args.close ∷ k,
      of_expressions c.loop-alloc.items ∷ vs,
      c.loop-alloc.invariant.told k vs
          ∙ more_arguments_run c.args.close c.loop-alloc.tokens (sym c.stands.ensures ∙ c.loop-alloc-test.true) k (of_expressions c.loop-alloc.items ∷ vs),
    )) c.in_err-take.ensures.gives)

pub expression::more_arguments-returns-in_err-operand-clause-gives : goal.expression::more_arguments-returns-in_err-operand-clause-gives
expression::more_arguments-returns-in_err-operand-clause-gives t c =
    let p = err_from_is_err_and c.from_residual-in_err-operand.result c.from_residual-in_err-operand.ensures.1 in
    rw (p.1, p.2) (fails (more_arguments c.args.close ∷ []) (of_expressions c.args.items ∷ []) c.args.tokens.now (operand 6 ∷ []) [] c.take.new.tokens _
    (λ k vs. (
      act adds_expression ∷ more_arguments c.args.close ∷ k,
      of_expressions c.loop-alloc.items ∷ vs,
      c.loop-alloc.invariant.told k vs
          ∙ more_arguments_run c.args.close c.loop-alloc.tokens (sym c.stands.ensures ∙ c.loop-alloc-test.true) k (of_expressions c.loop-alloc.items ∷ vs)
          ∙ c.in_ok-take.ensures.gives (operand 6 ∷ act adds_expression ∷ more_arguments c.args.close ∷ k) (of_expressions c.loop-alloc.items ∷ vs),
    )) c.in_err-operand.ensures.gives)

pub expression::more_arguments-loop-alloc-preserved : goal.expression::more_arguments-loop-alloc-preserved
expression::more_arguments-loop-alloc-preserved t c = record {
  told = λ k vs.
      c.loop-alloc.invariant.told k vs
      ∙ more_arguments_run c.args.close c.loop-alloc.tokens (sym c.stands.ensures ∙ c.loop-alloc-test.true) k (of_expressions c.loop-alloc.items ∷ vs)
      ∙ c.in_ok-take.ensures.gives (operand 6 ∷ act adds_expression ∷ more_arguments c.args.close ∷ k) (of_expressions c.loop-alloc.items ∷ vs)
      ∙ c.in_ok-operand.ensures.gives (act adds_expression ∷ more_arguments c.args.close ∷ k) (of_expressions c.loop-alloc.items ∷ vs)
      ∙ act_runs adds_expression c.operand.new.tokens (more_arguments c.args.close ∷ k)
      (of_expression c.in_ok-operand.field-0 ∷ of_expressions c.loop-alloc.items ∷ vs)
      ∙ rw c.in_ok-push.ensures.ok refl;
  shorter = omega (arith, c.loop-alloc.invariant.shorter, c.in_ok-take.ensures.shorter, c.in_ok-operand.ensures.shorter);
}

-- ---- atoms

pub expression::bracket-returns-clause-gives : goal.expression::bracket-returns-clause-gives
expression::bracket-returns-clause-gives t c = λ k vs.
    c.in_ok-inner.ensures.gives (act (bracketed c.args.at) ∷ k) vs
    ∙ act_runs (bracketed c.args.at) c.closed.new.tokens k (of_expression c.in_ok-inner.inner ∷ vs)
    ∙ ap (λ e. reading c.closed.new.tokens k (of_expression (tree.bracket c.args.at e) ∷ vs)) (sym c.in_ok-new.ensures.ok)

pub expression::list-returns-clause-gives : goal.expression::list-returns-clause-gives
expression::list-returns-clause-gives t c = λ k vs.
    c.in_ok-items.ensures.gives (act (listed c.args.at) ∷ k) vs
    ∙ act_runs (listed c.args.at) c.arguments.new.tokens k (of_expressions c.in_ok-items.items ∷ vs)

pub expression::named-returns-in_ok-items-clause-gives : goal.expression::named-returns-in_ok-items-clause-gives
expression::named-returns-in_ok-items-clause-gives t c = λ k vs.
    let s : c.skip.new.self ≡ rest_of c.args.tokens.now = c.skip.ensures in
    call_runs c.args.name.at c.args.name.text c.args.tokens.now (sym c.stands.ensures ∙ c.if-stands.true) k vs
    ∙ ap (λ ts. reading ts (arguments w.Close ∷ act (called c.args.name.at c.args.name.text) ∷ k) (of_expressions [] ∷ vs)) (sym s)
    ∙ c.in_ok-items.ensures.gives (act (called c.args.name.at c.args.name.text) ∷ k) vs
    ∙ act_runs (called c.args.name.at c.args.name.text) c.arguments.new.tokens k (of_expressions c.in_ok-items.items ∷ vs)

pub expression::indexed-returns-in-Err-clause-gives : goal.expression::indexed-returns-in-Err-clause-gives
expression::indexed-returns-in-Err-clause-gives t c =
    joint_fails (atom ∷ tail 0 (most_repeats 0) ∷ []) 0 c.loop-alloc.left (of_expression c.loop-alloc.value) c.args.tokens.now c.loop-alloc.tokens _
    c.loop-alloc.invariant.told (c.in-Err.ensures.gives (sym c.stands.ensures ∙ c.loop-alloc-test.true))

pub expression::indexed-loop-alloc-preserved : goal.expression::indexed-loop-alloc-preserved
expression::indexed-loop-alloc-preserved t c = record {
  told = λ k vs.
      c.loop-alloc.invariant.told k vs
      ∙ c.in-Ok.ensures.gives (sym c.stands.ensures ∙ c.loop-alloc-test.true) k (of_expression c.loop-alloc.value ∷ vs)
      ∙ act_runs (joined_by Indexing) c.place.new.tokens (tail 0 (c.loop-alloc.left - 1) ∷ k)
      (of_expression c.in-Ok.place ∷ of_expression c.loop-alloc.value ∷ vs)
      ∙ ap (λ e. reading c.place.new.tokens (tail 0 (c.loop-alloc.left - 1) ∷ k) (of_expression e ∷ vs)) (sym c.in_ok-value-2.ensures);
  shorter = omega (arith, c.loop-alloc.invariant.shorter, c.in-Ok.ensures.shorter);
}

pub expression::place-returns-then-left-eq0-clause-gives : goal.expression::place-returns-then-left-eq0-clause-gives
expression::place-returns-then-left-eq0-clause-gives t c =
    rw c.unexpected.ensures (λ h k vs.
    ap (λ n. fault_in (reading c.args.tokens.now (tail 0 n ∷ k) vs)) c.if-left-eq0.true
    ∙ index_stuck c.args.tokens.now h k vs)

pub expression::place-returns-clause-gives : goal.expression::place-returns-clause-gives
expression::place-returns-clause-gives t c =
    λ h. joins Indexing 0 c.args.left c.args.tokens.now c.skip.new.self c.closed.new.tokens (operand 6 ∷ word w.SquareClose ∷ []) c.closed.result
    (λ k vs.
    index_runs c.args.left c.args.tokens.now h (omega arith) k vs
    ∙ ap (λ ts. reading ts (operand 6 ∷ word w.SquareClose ∷ act (joined_by Indexing) ∷ tail 0 (c.args.left - 1) ∷ k) vs) (sym c.skip.ensures)) c.closed.ensures.gives

pub expression::place-returns-clause-more : goal.expression::place-returns-clause-more
expression::place-returns-clause-more t c = on_read c.closed.result (omega arith)

-- ---- levels

pub expression::operand-returns-then-level-eq1-clause-gives : goal.expression::operand-returns-then-level-eq1-clause-gives
expression::operand-returns-then-level-eq1-clause-gives t c =
    follows expression_value (operand c.args.level ∷ []) [] c.args.tokens.now
    (prefixes (most_repeats 1) ∷ []) [] c.args.tokens.now c.prefixed.new.tokens c.prefixed.result
    (λ k vs. ap (λ l. reading c.args.tokens.now (operand l ∷ k) vs) c.if-level-eq1.true ∙ operand_one c.args.tokens.now k vs) c.prefixed.ensures.gives

pub expression::operand-returns-in_err-value-clause-gives : goal.expression::operand-returns-in_err-value-clause-gives
expression::operand-returns-in_err-value-clause-gives t c =
    let p = err_from_is_err_and c.from_residual.result c.from_residual.ensures.1 in
    rw (p.1, p.2) (fails (operand c.args.level ∷ []) [] c.args.tokens.now (operand (c.args.level - 1) ∷ []) [] c.args.tokens.now _
    (λ k vs. (tail c.args.level (most_repeats c.args.level) ∷ k, vs, operand_more c.args.level c.args.tokens.now k vs (omega arith))) c.in_err-value.ensures.gives)

pub expression::operand-loop-joint-init : goal.expression::operand-loop-joint-init
expression::operand-loop-joint-init t c = record {
  big = omega arith;
  told = λ k vs.
      operand_more c.args.level c.args.tokens.now k vs (omega arith)
      ∙ c.in_ok-value.ensures.gives (tail c.args.level (most_repeats c.args.level) ∷ k) vs
      ∙ ap (λ n. reading c.operand.new.tokens (tail c.args.level n ∷ k) (of_expression c.in_ok-value.value ∷ vs)) (sym c.most_repeats-left.ensures);
  shorter = c.in_ok-value.ensures.shorter;
}

pub expression::operand-returns-in-Err-clause-gives : goal.expression::operand-returns-in-Err-clause-gives
expression::operand-returns-in-Err-clause-gives t c =
    joint_fails (operand c.args.level ∷ []) c.args.level c.loop-joint.left (of_expression c.loop-joint.value) c.args.tokens.now c.loop-joint.tokens _
    c.loop-joint.invariant.told (c.in-Err.ensures.gives c.in-Some.joint (sym c.joint_at.ensures ∙ c.in-Some.is))

pub expression::operand-loop-joint-preserved : goal.expression::operand-loop-joint-preserved
expression::operand-loop-joint-preserved t c = record {
  big = c.loop-joint.invariant.big;
  told = λ k vs.
      c.loop-joint.invariant.told k vs
      ∙ c.in-Ok.ensures.gives c.in-Some.joint (sym c.joint_at.ensures ∙ c.in-Some.is) k (of_expression c.loop-joint.value ∷ vs)
      ∙ act_runs (joined_by c.in-Some.joint) c.behind_joint.new.tokens (tail c.args.level (c.loop-joint.left - 1) ∷ k)
      (of_expression c.in-Ok.right ∷ of_expression c.loop-joint.value ∷ vs)
      ∙ ap (λ e. reading c.behind_joint.new.tokens (tail c.args.level (c.loop-joint.left - 1) ∷ k) (of_expression e ∷ vs)) (sym c.in_ok-value-2.ensures);
  shorter = omega (arith, c.loop-joint.invariant.shorter, c.in-Ok.ensures.shorter);
}

pub expression::behind_joint-returns-then-left-eq0-clause-gives : goal.expression::behind_joint-returns-then-left-eq0-clause-gives
expression::behind_joint-returns-then-left-eq0-clause-gives t c =
    rw c.unexpected.ensures (λ j h k vs.
    ap (λ n. fault_in (reading c.args.tokens.now (tail c.args.level n ∷ k) vs)) c.if-left-eq0.true
    ∙ joint_stuck c.args.level c.args.tokens.now j h k vs)

pub expression::behind_joint-returns-clause-gives : goal.expression::behind_joint-returns-clause-gives
expression::behind_joint-returns-clause-gives t c =
    λ j h. joins j c.args.level c.args.left c.args.tokens.now c.skip.new.self c.operand.new.tokens (operand (c.args.level - 1) ∷ []) c.operand.result
    (λ k vs.
    joint_runs c.args.level c.args.left c.args.tokens.now j h c.requires (omega arith) k vs
    ∙ ap (λ ts. reading ts (operand (c.args.level - 1) ∷ act (joined_by j) ∷ tail c.args.level (c.args.left - 1) ∷ k) vs) (sym c.skip.ensures)) c.operand.ensures.gives

pub expression::behind_joint-returns-clause-more : goal.expression::behind_joint-returns-clause-more
expression::behind_joint-returns-clause-more t c = on_read c.operand.result (omega arith)

pub expression::prefixed-returns-in_default-clause-gives : goal.expression::prefixed-returns-in_default-clause-gives
expression::prefixed-returns-in_default-clause-gives t c =
    follows expression_value (prefixes c.args.left ∷ []) [] c.args.tokens.now
    (atom ∷ tail 0 (most_repeats 0) ∷ []) [] c.args.tokens.now c.indexed.new.tokens c.indexed.result
    (λ k vs. no_prefix_runs c.args.left c.args.tokens.now (sym c.prefix_at.ensures ∙ c.in_default.is) k vs) c.indexed.ensures.gives

pub expression::prefixed-returns-in_err-value-clause-gives : goal.expression::prefixed-returns-in_err-value-clause-gives
expression::prefixed-returns-in_err-value-clause-gives t c =
    let p = err_from_is_err_and c.from_residual.result c.from_residual.ensures.1 in
    let s : c.skip.new.self ≡ rest_of c.args.tokens.now = c.skip.ensures in
    rw (p.1, p.2) (fails (prefixes c.args.left ∷ []) [] c.args.tokens.now (prefixes (c.args.left - 1) ∷ []) [] c.skip.new.self _
    (λ k vs. (
      act (prefixed c.in-Some.at c.in-Some.operator) ∷ k,
      vs,
      prefix_runs c.args.left c.args.tokens.now (c.in-Some.at, c.in-Some.operator) (sym c.prefix_at.ensures ∙ c.in-Some.is) (omega arith) k vs
          ∙ ap (λ ts. reading ts (prefixes (c.args.left - 1) ∷ act (prefixed c.in-Some.at c.in-Some.operator) ∷ k) vs) (sym s),
    )) c.in_err-value.ensures.gives)

pub expression::prefixed-returns-clause-gives : goal.expression::prefixed-returns-clause-gives
expression::prefixed-returns-clause-gives t c = λ k vs.
    let s : c.skip.new.self ≡ rest_of c.args.tokens.now = c.skip.ensures in
    prefix_runs c.args.left c.args.tokens.now (c.in-Some.at, c.in-Some.operator) (sym c.prefix_at.ensures ∙ c.in-Some.is) (omega arith) k vs
    ∙ ap (λ ts. reading ts (prefixes (c.args.left - 1) ∷ act (prefixed c.in-Some.at c.in-Some.operator) ∷ k) vs) (sym s)
    ∙ c.in_ok-value.ensures.gives (act (prefixed c.in-Some.at c.in-Some.operator) ∷ k) vs
    ∙ act_runs (prefixed c.in-Some.at c.in-Some.operator) c.prefixed.new.tokens k (of_expression c.in_ok-value.value ∷ vs)
    ∙ ap (λ e. reading c.prefixed.new.tokens k (of_expression (tree.unary c.in-Some.at c.in-Some.operator e) ∷ vs)) (sym c.in_ok-value-2.ensures.ok)

-- ---- statements of a transaction

pub query::assignments-returns-in_err-assignment-clause-gives : goal.query::assignments-returns-in_err-assignment-clause-gives
query::assignments-returns-in_err-assignment-clause-gives t c =
    let p = err_from_is_err_and c.from_residual.result c.from_residual.ensures.1 in
    rw (p.1, p.2) (fails (act (puts (of_sets [])) ∷ assignment (more_sets ∷ [])) [] c.args.tokens.now
    (a_name ∷ word w.Becomes ∷ operand 6 ∷ []) [] c.args.tokens.now _
    (λ k vs. (act adds_set ∷ more_sets ∷ k, of_sets [] ∷ vs, act_runs (puts (of_sets [])) c.args.tokens.now (assignment (more_sets ∷ k)) vs)) c.in_err-assignment.ensures.gives)

pub query::assignments-loop-alloc-init : goal.query::assignments-loop-alloc-init
query::assignments-loop-alloc-init t c =
    let x : Assignment = c.in_ok-assignment.field-0 in
    let pushed : c.push.new.self ≡ x ∷ [] = c.in_ok-push.ensures.ok ∙ ap (λ l. l ++ x ∷ []) c.new-sets.ensures in
    record {
      told = λ k vs.
          act_runs (puts (of_sets [])) c.args.tokens.now (assignment (more_sets ∷ k)) vs
          ∙ c.in_ok-assignment.ensures.gives (act adds_set ∷ more_sets ∷ k) (of_sets [] ∷ vs)
          ∙ act_runs adds_set c.assignment.new.tokens (more_sets ∷ k) (of_expression x.value ∷ of_name x.column ∷ of_sets [] ∷ vs)
          ∙ ap (λ l. reading c.assignment.new.tokens (more_sets ∷ k) (of_sets (map assignment_of l) ∷ vs)) (sym pushed);
      shorter = c.in_ok-assignment.ensures.shorter;
    }

pub query::assignments-loop-alloc-preserved : goal.query::assignments-loop-alloc-preserved
query::assignments-loop-alloc-preserved t c =
    let x : Assignment = c.in_ok-assignment-2.field-0 in
    let old : List Assignment = c.loop-alloc.sets in
    let pushed : map assignment_of old ++ assignment_of x ∷ [] ≡ map assignment_of c.push-in-loop-alloc.new.self = sym (ap (map assignment_of) c.in_ok-push-2.ensures.ok ∙ map_push assignment_of old x) in
    let s : c.skip.new.self ≡ rest_of c.loop-alloc.tokens = c.skip.ensures in
    record {
      told = λ k vs.
          c.loop-alloc.invariant.told k vs
          ∙ more_sets_run c.loop-alloc.tokens (sym c.stands.ensures ∙ c.loop-alloc-test.true) k (of_sets (map assignment_of old) ∷ vs)
          ∙ ap (λ ts. reading ts (assignment (more_sets ∷ k)) (of_sets (map assignment_of old) ∷ vs)) (sym s)
          ∙ c.in_ok-assignment-2.ensures.gives (act adds_set ∷ more_sets ∷ k) (of_sets (map assignment_of old) ∷ vs)
          ∙ act_runs adds_set c.assignment-in-loop-alloc.new.tokens (more_sets ∷ k)
          (of_expression x.value ∷ of_name x.column ∷ of_sets (map assignment_of old) ∷ vs)
          ∙ ap (λ l. reading c.assignment-in-loop-alloc.new.tokens (more_sets ∷ k) (of_sets l ∷ vs)) pushed;
      shorter = omega (
        arith,
        c.loop-alloc.invariant.shorter,
        behind_shorter c.loop-alloc.tokens,
        ap (λ (x : Scan). length x.tokens) s,
        c.in_ok-assignment-2.ensures.shorter,
      );
    }

pub query::more_tests-loop-alloc-preserved : goal.query::more_tests-loop-alloc-preserved
query::more_tests-loop-alloc-preserved t c =
    let x : Condition = c.in_ok-test.field-0 in
    let old : List Condition = c.loop-alloc.tests in
    let pushed : map condition_of old ++ condition_of x ∷ [] ≡ map condition_of c.push.new.self = sym (ap (map condition_of) c.in_ok-push.ensures.ok ∙ map_push condition_of old x) in
    let s : c.skip.new.self ≡ rest_of c.loop-alloc.tokens = c.skip.ensures in
    record {
      told = λ k vs.
          c.loop-alloc.invariant.told k vs
          ∙ more_tests_run c.loop-alloc.tokens (sym c.stands.ensures ∙ c.loop-alloc-test.true) k (of_tests (map condition_of old) ∷ vs)
          ∙ ap (λ ts. reading ts (test (more_tests ∷ k)) (of_tests (map condition_of old) ∷ vs)) (sym s)
          ∙ c.in_ok-test.ensures.gives (act adds_test ∷ more_tests ∷ k) (of_tests (map condition_of old) ∷ vs)
          ∙ act_runs adds_test c.test.new.tokens (more_tests ∷ k)
          (of_expression x.value ∷ of_comparison x.comparison ∷ of_name x.column ∷ of_tests
          (map condition_of old) ∷ vs)
          ∙ ap (λ l. reading c.test.new.tokens (more_tests ∷ k) (of_tests l ∷ vs)) pushed;
      shorter = omega (
        arith,
        c.loop-alloc.invariant.shorter,
        behind_shorter c.loop-alloc.tokens,
        ap (λ (x : Scan). length x.tokens) s,
        c.in_ok-test.ensures.shorter,
      );
    }

pub query::delete-returns-clause-gives : goal.query::delete-returns-clause-gives
query::delete-returns-clause-gives t c = λ k vs.
    c.in_ok-table.ensures.gives (act (deleted c.args.at) ∷ k) vs
    ∙ act_runs (deleted c.args.at) c.selection.new.tokens k (of_tests (map condition_of c.in_ok-table.tests) ∷ of_name c.in_ok-table.table ∷ vs)

pub query::expect-returns-in_ok-expected-in-Ok-clause-gives : goal.query::expect-returns-in_ok-expected-in-Ok-clause-gives
query::expect-returns-in_ok-expected-in-Ok-clause-gives t c = λ k vs.
    let cs = map condition_of c.in-Ok.tests in
    c.in_ok-count.ensures.gives (a_name ∷ filtered (act (expected c.args.at) ∷ k)) vs
    ∙ c.in-Ok.ensures.gives (act (expected c.args.at) ∷ k) (of_expression c.in_ok-count.count ∷ vs)
    ∙ act_runs (expected c.args.at) c.selection.new.tokens k (of_tests cs ∷ of_name c.in-Ok.table ∷ of_expression c.in_ok-count.count ∷ vs)
    ∙ ap (λ q. reading c.selection.new.tokens k (of_query q ∷ vs)) (sym c.in_ok-expected-in-Ok.ensures)

pub query::insert-returns-in_err-row-clause-gives : goal.query::insert-returns-in_err-row-clause-gives
query::insert-returns-in_err-row-clause-gives t c =
    let p = err_from_is_err_and c.from_residual-in_err-row.result c.from_residual-in_err-row.ensures.1 in
    rw (p.1, p.2) (fails (a_name ∷ word w.Open ∷ act (puts (of_expressions [])) ∷ operand 6 ∷ act adds_expression ∷ more_arguments w.Close ∷ word w.Semicolon ∷ act (inserted c.args.at) ∷ []) [] c.args.tokens.now
    (operand 6 ∷ act adds_expression ∷ more_arguments w.Close ∷ []) (of_expressions c.new.result ∷ []) c.take.new.tokens _
    (λ k vs.
    let l : List Symbol = word w.Semicolon ∷ act (inserted c.args.at) ∷ k in
    let us : List Val = of_name c.in_ok-table.table ∷ vs in (
      l,
      us,
      c.in_ok-table.ensures.gives (word w.Open ∷ act (puts (of_expressions [])) ∷ operand 6 ∷ act adds_expression ∷ more_arguments w.Close ∷ l) vs
          ∙ c.in_ok-take.ensures.gives (act (puts (of_expressions [])) ∷ operand 6 ∷ act adds_expression ∷ more_arguments w.Close ∷ l) us
          ∙ act_runs (puts (of_expressions [])) c.take.new.tokens (operand 6 ∷ act adds_expression ∷ more_arguments w.Close ∷ l) us
          ∙ ap (λ es. reading c.take.new.tokens (operand 6 ∷ act adds_expression ∷ more_arguments w.Close ∷ l) (of_expressions es ∷ us)) (sym c.new.ensures),
    )) c.in_err-row.ensures.gives)

pub query::insert-returns-in_err-take-2-clause-gives : goal.query::insert-returns-in_err-take-2-clause-gives
query::insert-returns-in_err-take-2-clause-gives t c =
    let p = err_from_is_err_and c.from_residual-in_err-take-2.result c.from_residual-in_err-take-2.ensures.1 in
    rw (p.1, p.2) (fails (a_name ∷ word w.Open ∷ act (puts (of_expressions [])) ∷ operand 6 ∷ act adds_expression ∷ more_arguments w.Close ∷ word w.Semicolon ∷ act (inserted c.args.at) ∷ []) [] c.args.tokens.now (word w.Semicolon ∷ []) [] c.some_arguments.new.tokens _
    (λ k vs.
    let l : List Symbol = word w.Semicolon ∷ act (inserted c.args.at) ∷ k in
    let us : List Val = of_name c.in_ok-table.table ∷ vs in (
      act (inserted c.args.at) ∷ k,
      of_expressions c.in_ok-row.row ∷ us,
      c.in_ok-table.ensures.gives (word w.Open ∷ act (puts (of_expressions [])) ∷ operand 6 ∷ act adds_expression ∷ more_arguments w.Close ∷ l) vs
          ∙ c.in_ok-take.ensures.gives (act (puts (of_expressions [])) ∷ operand 6 ∷ act adds_expression ∷ more_arguments w.Close ∷ l) us
          ∙ act_runs (puts (of_expressions [])) c.take.new.tokens (operand 6 ∷ act adds_expression ∷ more_arguments w.Close ∷ l) us
          ∙ ap (λ es. reading c.take.new.tokens (operand 6 ∷ act adds_expression ∷ more_arguments w.Close ∷ l) (of_expressions es ∷ us)) (sym c.new.ensures)
          ∙ c.in_ok-row.ensures.gives l us,
    )) c.in_err-take-2.ensures.gives)

pub query::insert-returns-clause-gives : goal.query::insert-returns-clause-gives
query::insert-returns-clause-gives t c = λ k vs.
    let l : List Symbol = word w.Semicolon ∷ act (inserted c.args.at) ∷ k in
    let us : List Val = of_name c.in_ok-table.table ∷ vs in
    c.in_ok-table.ensures.gives (word w.Open ∷ act (puts (of_expressions [])) ∷ operand 6 ∷ act adds_expression ∷ more_arguments w.Close ∷ l) vs
    ∙ c.in_ok-take.ensures.gives (act (puts (of_expressions [])) ∷ operand 6 ∷ act adds_expression ∷ more_arguments w.Close ∷ l) us
    ∙ act_runs (puts (of_expressions [])) c.take.new.tokens (operand 6 ∷ act adds_expression ∷ more_arguments w.Close ∷ l) us
    ∙ ap (λ es. reading c.take.new.tokens (operand 6 ∷ act adds_expression ∷ more_arguments w.Close ∷ l) (of_expressions es ∷ us)) (sym c.new.ensures)
    ∙ c.in_ok-row.ensures.gives l us
    ∙ c.in_ok-take-2.ensures.gives (act (inserted c.args.at) ∷ k) (of_expressions c.in_ok-row.row ∷ us)
    ∙ act_runs (inserted c.args.at) c.take-2.new.tokens k (of_expressions c.in_ok-row.row ∷ us)

pub query::select-returns-in_err-columns-clause-gives : goal.query::select-returns-in_err-columns-clause-gives
query::select-returns-in_err-columns-clause-gives t c =
    let p = err_from_is_err_and c.from_residual.result c.from_residual.ensures.1 in
    rw (p.1, p.2) (fails (a_name ∷ act adds_name ∷ more_names w.From ∷ a_name ∷ filtered (act (selected c.args.at) ∷ [])) (of_names [] ∷ []) c.args.tokens.now (a_name ∷ act adds_name ∷ more_names w.From ∷ []) (of_names c.new.result ∷ []) c.args.tokens.now _
    (λ k vs.
    let l : List Symbol = a_name ∷ filtered (act (selected c.args.at) ∷ k) in
    (l, vs, ap (λ xs. reading c.args.tokens.now (a_name ∷ act adds_name ∷ more_names w.From ∷ l) (of_names xs ∷ vs)) (sym c.new.ensures))) c.in_err-columns.ensures.gives)

pub query::select-returns-in_err-table-clause-gives : goal.query::select-returns-in_err-table-clause-gives
query::select-returns-in_err-table-clause-gives t c =
    let p = err_from_is_err_and c.from_residual-in_err-table.result c.from_residual-in_err-table.ensures.1 in
    rw (p.1, p.2) (fails (a_name ∷ act adds_name ∷ more_names w.From ∷ a_name ∷ filtered (act (selected c.args.at) ∷ [])) (of_names [] ∷ []) c.args.tokens.now (a_name ∷ filtered []) [] c.some_names.new.tokens _
    (λ k vs.
    let l : List Symbol = a_name ∷ filtered (act (selected c.args.at) ∷ k) in (
      act (selected c.args.at) ∷ k,
      of_names c.in_ok-columns.columns ∷ vs,
      ap (λ xs. reading c.args.tokens.now (a_name ∷ act adds_name ∷ more_names w.From ∷ l) (of_names xs ∷ vs)) (sym c.new.ensures)
          ∙ c.in_ok-columns.ensures.gives l vs,
    )) c.in_err-table.ensures.gives)

pub query::select-returns-clause-gives : goal.query::select-returns-clause-gives
query::select-returns-clause-gives t c = λ k vs.
    let l : List Symbol = a_name ∷ filtered (act (selected c.args.at) ∷ k) in
    ap (λ xs. reading c.args.tokens.now (a_name ∷ act adds_name ∷ more_names w.From ∷ l) (of_names xs ∷ vs)) (sym c.new.ensures)
    ∙ c.in_ok-columns.ensures.gives l vs
    ∙ c.in_ok-table.ensures.gives (act (selected c.args.at) ∷ k) (of_names c.in_ok-columns.columns ∷ vs)
    ∙ act_runs (selected c.args.at) c.selection.new.tokens k
    (of_tests (map condition_of c.in_ok-table.tests) ∷ of_name c.in_ok-table.table ∷ of_names c.in_ok-columns.columns ∷ vs)

pub query::update-returns-clause-gives : goal.query::update-returns-clause-gives
query::update-returns-clause-gives t c = λ k vs.
    let l : List Symbol = filtered (act (updated c.args.at) ∷ k) in
    let us : List Val = of_sets (map assignment_of c.in_ok-sets.sets) ∷ of_name c.in_ok-table.table ∷ vs in
    c.in_ok-table.ensures.gives (word w.Set ∷ act (puts (of_sets [])) ∷ assignment (more_sets ∷ l)) vs
    ∙ c.in_ok-take.ensures.gives (act (puts (of_sets [])) ∷ assignment (more_sets ∷ l)) (of_name c.in_ok-table.table ∷ vs)
    ∙ c.in_ok-sets.ensures.gives l (of_name c.in_ok-table.table ∷ vs)
    ∙ c.in_ok-tests.ensures.gives (act (updated c.args.at) ∷ k) us
    ∙ act_runs (updated c.args.at) c.filter.new.tokens k (of_tests (map condition_of c.in_ok-tests.tests) ∷ us)

pub query::transact-loop-alloc-init : goal.query::transact-loop-alloc-init
query::transact-loop-alloc-init t c =
    let pushed : c.push.new.self ≡ c.in_ok-query.field-0 ∷ [] = c.in_ok-push.ensures.ok ∙ ap (λ l. l ++ c.in_ok-query.field-0 ∷ []) c.new-queries.ensures in
    record {
      told = λ k vs.
          c.in_ok-take.ensures.gives (a_query ∷ act adds_query ∷ more_queries ∷ k) (of_queries [] ∷ vs)
          ∙ c.in_ok-query.ensures.gives (act adds_query ∷ more_queries ∷ k) (of_queries [] ∷ vs)
          ∙ act_runs adds_query c.query.new.tokens (more_queries ∷ k) (of_query c.in_ok-query.field-0 ∷ of_queries [] ∷ vs)
          ∙ ap (λ qs. reading c.query.new.tokens (more_queries ∷ k) (of_queries qs ∷ vs)) (sym pushed);
      shorter = omega (arith, c.in_ok-take.ensures.shorter, c.in_ok-query.ensures.shorter);
    }

pub query::transact-returns-in_err-query-2-clause-gives : goal.query::transact-returns-in_err-query-2-clause-gives
query::transact-returns-in_err-query-2-clause-gives t c =
    let p = err_from_is_err_and c.from_residual-in_err-query-2.result c.from_residual-in_err-query-2.ensures.1 in
    rw (p.1, p.2) (fails (word w.BraceOpen ∷ a_query ∷ act adds_query ∷ more_queries ∷ act (transacted c.args.at) ∷ []) (of_queries [] ∷ []) c.args.tokens.now (a_query ∷ []) [] c.loop-alloc.tokens _
    (λ k vs.
    let l : List Symbol = act (transacted c.args.at) ∷ k in (
      act adds_query ∷ more_queries ∷ l,
      of_queries c.loop-alloc.queries ∷ vs,
      c.loop-alloc.invariant.told l vs ∙ more_queries_run c.loop-alloc.tokens
          (sym c.stands.ensures ∙ c.loop-alloc-test.true) l (of_queries c.loop-alloc.queries ∷ vs),
    )) c.in_err-query-2.ensures.gives)

pub query::transact-loop-alloc-preserved : goal.query::transact-loop-alloc-preserved
query::transact-loop-alloc-preserved t c = record {
  told = λ k vs.
      c.loop-alloc.invariant.told k vs
      ∙ more_queries_run c.loop-alloc.tokens (sym c.stands.ensures ∙ c.loop-alloc-test.true) k (of_queries c.loop-alloc.queries ∷ vs)
      ∙ c.in_ok-query-2.ensures.gives (act adds_query ∷ more_queries ∷ k) (of_queries c.loop-alloc.queries ∷ vs)
      ∙ act_runs adds_query c.query-in-loop-alloc.new.tokens (more_queries ∷ k) (of_query c.in_ok-query-2.field-0 ∷ of_queries c.loop-alloc.queries ∷ vs)
      ∙ ap (λ qs. reading c.query-in-loop-alloc.new.tokens (more_queries ∷ k) (of_queries qs ∷ vs)) (sym c.in_ok-push-2.ensures.ok);
  shorter = omega (arith, c.loop-alloc.invariant.shorter, c.in_ok-query-2.ensures.shorter);
}

pub query::transact-returns-clause-gives : goal.query::transact-returns-clause-gives
query::transact-returns-clause-gives t c = λ k vs.
    let s : c.skip.new.self ≡ rest_of c.loop-alloc.tokens = c.skip.ensures in
    let l : List Symbol = act (transacted c.args.at) ∷ k in
    c.loop-alloc.invariant.told l vs
    ∙ queries_end c.loop-alloc.tokens (sym c.stands.ensures ∙ c.loop-alloc-test.false) l (of_queries c.loop-alloc.queries ∷ vs)
    ∙ ap (λ ts. reading ts l (of_queries c.loop-alloc.queries ∷ vs)) (sym s)
    ∙ act_runs (transacted c.args.at) c.skip.new.self k (of_queries c.loop-alloc.queries ∷ vs)

pub query::tests-returns-clause-gives : goal.query::tests-returns-clause-gives
query::tests-returns-clause-gives t c =
    let x : Condition = c.in_ok-test.field-0 in
    let pushed : c.push.new.self ≡ x ∷ [] = c.in_ok-push.ensures.ok ∙ ap (λ l. l ++ x ∷ []) c.new-tests.ensures in
    let s : c.skip.new.self ≡ rest_of c.args.tokens.now = c.skip.ensures in
    follows tests_value (act (puts (of_tests [])) ∷ filter ∷ []) [] c.args.tokens.now (more_tests ∷ [])
    (tests_value c.push.new.self) c.test.new.tokens c.more_tests.new.tokens c.more_tests.result
    (λ k vs.
    act_runs (puts (of_tests [])) c.args.tokens.now (filter ∷ k) vs
    ∙ filter_runs c.args.tokens.now (sym c.stands.ensures ∙ c.if-not-stands.false) k (of_tests [] ∷ vs)
    ∙ ap (λ ts. reading ts (test (more_tests ∷ k)) (of_tests [] ∷ vs)) (sym s)
    ∙ c.in_ok-test.ensures.gives (act adds_test ∷ more_tests ∷ k) (of_tests [] ∷ vs)
    ∙ act_runs adds_test c.test.new.tokens (more_tests ∷ k) (of_expression x.value ∷ of_comparison x.comparison ∷ of_name x.column ∷ of_tests [] ∷ vs)
    ∙ ap (λ l. reading c.test.new.tokens (more_tests ∷ k) (of_tests (map condition_of l) ∷ vs)) (sym pushed)) c.more_tests.ensures.gives

pub query::query_of-returns-in-Insert-clause-gives : goal.query::query_of-returns-in-Insert-clause-gives
query::query_of-returns-in-Insert-clause-gives t c =
    rw c.in-Insert.is (begin_follows query_value (word_token c.args.at w.Insert) (begin_query c.args.at w.Insert) c.args.tokens.now (a_name ∷ word w.Open ∷ act (puts (of_expressions [])) ∷ operand 6 ∷ act adds_expression ∷ more_arguments w.Close ∷ word w.Semicolon ∷ act (inserted c.args.at) ∷ []) [] c.insert.new.tokens c.insert.result (λ k vs. refl) c.insert.ensures.gives)

pub query::query_of-returns-in-Select-clause-gives : goal.query::query_of-returns-in-Select-clause-gives
query::query_of-returns-in-Select-clause-gives t c =
    rw c.in-Select.is (begin_follows query_value (word_token c.args.at w.Select)
    (begin_query c.args.at w.Select) c.args.tokens.now
    (a_name ∷ act adds_name ∷ more_names w.From ∷ a_name ∷ filtered (act (selected c.args.at) ∷ []))
    (of_names [] ∷ []) c.select.new.tokens c.select.result (λ k vs. refl) c.select.ensures.gives)

pub query::query_of-returns-in-Update-clause-gives : goal.query::query_of-returns-in-Update-clause-gives
query::query_of-returns-in-Update-clause-gives t c =
    rw c.in-Update.is (begin_follows query_value (word_token c.args.at w.Update)
    (begin_query c.args.at w.Update) c.args.tokens.now
    (a_name ∷ word w.Set ∷ act (puts (of_sets [])) ∷ assignment
    (more_sets ∷ filtered (act (updated c.args.at) ∷ []))) [] c.update.new.tokens c.update.result
    (λ k vs. refl) c.update.ensures.gives)

pub expression::bracket-returns-clause-shorter : goal.expression::bracket-returns-clause-shorter
expression::bracket-returns-clause-shorter c = grind (arith, common_steps)

pub expression::prefixed-returns-clause-shorter : goal.expression::prefixed-returns-clause-shorter
expression::prefixed-returns-clause-shorter c = grind (arith, common_steps)

pub query::delete-returns-clause-shorter : goal.query::delete-returns-clause-shorter
query::delete-returns-clause-shorter c = grind (arith, common_steps)

pub query::expect-returns-in_ok-expected-in-Ok-clause-shorter : goal.query::expect-returns-in_ok-expected-in-Ok-clause-shorter
query::expect-returns-in_ok-expected-in-Ok-clause-shorter c = grind (arith, common_steps)

pub query::insert-returns-clause-shorter : goal.query::insert-returns-clause-shorter
query::insert-returns-clause-shorter c = grind (arith, common_steps)

pub query::select-returns-clause-shorter : goal.query::select-returns-clause-shorter
query::select-returns-clause-shorter c = grind (arith, common_steps)

pub query::transact-returns-clause-shorter : goal.query::transact-returns-clause-shorter
query::transact-returns-clause-shorter c = grind (arith, common_steps)

pub query::update-returns-clause-shorter : goal.query::update-returns-clause-shorter
query::update-returns-clause-shorter c = grind (arith, common_steps)
