use Rattle.std.proofs.lemmas.Grind.{common_steps}
use Rattle.std.proofs.Common.{◌∙◌, ap, sym, refl, arith, ◌∷◌, [], ◌≡◌}
use Rattle.std.proofs.lemmas.Result.{err_from_is_err_and}
use Rattle.script_tree.specs.Syntax as tree
use Rattle.script_tree.specs.StatementView.{else_of}
use Rattle.script_tokens.specs.Feed.{rest_of}
use Rattle.script_tokens.specs.declared.word.Word.TheVariants as w
use Rattle.script_grammar.specs.Machine.{of_name, of_expression, of_statement, of_statements, of_else, puts, adds_statement, bound, said, branched, otherwise, repeated, turned, act, word, a_name, operand, a_statement, statements, else_part, block, begin_statement}
use Rattle.script_syntax.specs.Parses.{reading, word_token, statement_value}
use Rattle.script_syntax.proofs.Descend.{act_runs, fails, begin_follows, statements_run, else_runs}
use Rattle.script_syntax.proofs.statement.+statement.Goals as goal

pub block-loop-alloc-init : goal.block-loop-alloc-init
block-loop-alloc-init t c = record {
  told = λ k vs. c.in_ok-take.ensures.gives (act (puts (of_statements [])) ∷ statements ∷ k) vs
      ∙ act_runs (puts (of_statements [])) c.take.new.tokens (statements ∷ k) vs ∙ rw c.in_ok-statements.ensures refl;
  shorter = c.in_ok-take.ensures.shorter;
}

pub block-returns-in_err-statement-clause-gives : goal.block-returns-in_err-statement-clause-gives
block-returns-in_err-statement-clause-gives t c =
    let p = err_from_is_err_and c.from_residual-in_err-statement.result c.from_residual-in_err-statement.ensures.1 in
    rw (p.1, p.2) (fails (block []) [] c.args.tokens.now (a_statement ∷ []) [] c.loop-alloc.tokens _
    (λ k vs. (act adds_statement ∷ statements ∷ k, of_statements c.loop-alloc.statements ∷ vs, c.loop-alloc.invariant.told k vs ∙ statements_run c.loop-alloc.tokens (sym c.stands.ensures ∙ c.loop-alloc-test.true) k (of_statements c.loop-alloc.statements ∷ vs))) c.in_err-statement.ensures.gives)

pub block-loop-alloc-preserved : goal.block-loop-alloc-preserved
block-loop-alloc-preserved t c = record {
  told = λ k vs.
      c.loop-alloc.invariant.told k vs
      ∙ statements_run c.loop-alloc.tokens (sym c.stands.ensures ∙ c.loop-alloc-test.true) k (of_statements c.loop-alloc.statements ∷ vs)
      ∙ c.in_ok-statement.ensures.gives (act adds_statement ∷ statements ∷ k) (of_statements c.loop-alloc.statements ∷ vs)
      ∙ act_runs adds_statement c.statement.new.tokens (statements ∷ k) (of_statement c.in_ok-statement.field-0 ∷ of_statements c.loop-alloc.statements ∷ vs)
      ∙ rw c.in_ok-push.ensures.ok refl;
  shorter = omega (arith, c.loop-alloc.invariant.shorter, c.in_ok-statement.ensures.shorter);
}

pub if_statement-returns-in-Ok-clause-gives : goal.if_statement-returns-in-Ok-clause-gives
if_statement-returns-in-Ok-clause-gives t c = λ k vs.
    c.in_ok-condition.ensures.gives (else_part ∷ act (branched c.args.at) ∷ k) vs
    ∙ c.in-Ok.ensures.gives (act (branched c.args.at) ∷ k) (of_statements c.in_ok-condition.body ∷ of_expression c.in_ok-condition.condition ∷ vs)
    ∙ act_runs (branched c.args.at) c.otherwise.new.tokens k
    (of_else (else_of c.in-Ok.other) ∷ of_statements c.in_ok-condition.body ∷ of_expression c.in_ok-condition.condition ∷ vs)

pub otherwise-returns-clause-gives : goal.otherwise-returns-clause-gives
otherwise-returns-clause-gives t c = λ k vs.
    let s : c.skip.new.self ≡ rest_of c.args.tokens.now = c.skip.ensures in
    else_runs c.args.tokens.now (sym c.stands.ensures ∙ c.if-not-stands.false) k vs
    ∙ ap (λ ts. reading ts (block (act otherwise ∷ k)) vs) (sym s)
    ∙ c.in_ok-body.ensures.gives (act otherwise ∷ k) vs
    ∙ act_runs otherwise c.block.new.tokens k (of_statements c.in_ok-body.body ∷ vs)

pub while_statement-returns-clause-gives : goal.while_statement-returns-clause-gives
while_statement-returns-clause-gives t c = λ k vs.
    c.in_ok-condition.ensures.gives (act (repeated c.args.at) ∷ k) vs
    ∙ act_runs (repeated c.args.at) c.headed.new.tokens k (of_statements c.in_ok-condition.body ∷ of_expression c.in_ok-condition.condition ∷ vs)

pub for_statement-returns-clause-gives : goal.for_statement-returns-clause-gives
for_statement-returns-clause-gives t c = λ k vs.
    c.in_ok-name.ensures.gives (word w.In ∷ operand 6 ∷ block (act (turned c.args.at) ∷ k)) vs
    ∙ c.in_ok-take.ensures.gives (operand 6 ∷ block (act (turned c.args.at) ∷ k)) (of_name c.in_ok-name.name ∷ vs)
    ∙ c.in_ok-members.ensures.gives (act (turned c.args.at) ∷ k) (of_name c.in_ok-name.name ∷ vs)
    ∙ act_runs (turned c.args.at) c.headed.new.tokens k
    (of_statements c.in_ok-members.body ∷ of_expression c.in_ok-members.members ∷ of_name c.in_ok-name.name ∷ vs)

pub statement_of-returns-in-Let-clause-gives : goal.statement_of-returns-in-Let-clause-gives
statement_of-returns-in-Let-clause-gives t c =
    rw c.in-Let.is (begin_follows statement_value (word_token c.args.at w.Let)
    (begin_statement c.args.at w.Let) c.args.tokens.now
    (a_name ∷ word w.Becomes ∷ operand 6 ∷ word w.Semicolon ∷ act
    (bound (tree.let_ c.args.at)) ∷ []) [] c.let_statement.new.tokens c.let_statement.result
    (λ k vs. refl) c.let_statement.ensures.gives)

pub statement_of-returns-in-Set-clause-gives : goal.statement_of-returns-in-Set-clause-gives
statement_of-returns-in-Set-clause-gives t c =
    rw c.in-Set.is (begin_follows statement_value (word_token c.args.at w.Set)
    (begin_statement c.args.at w.Set) c.args.tokens.now
    (a_name ∷ word w.Becomes ∷ operand 6 ∷ word w.Semicolon ∷ act
    (bound (tree.set_ c.args.at)) ∷ []) [] c.set_statement.new.tokens c.set_statement.result
    (λ k vs. refl) c.set_statement.ensures.gives)

pub statement_of-returns-in-Echo-clause-gives : goal.statement_of-returns-in-Echo-clause-gives
statement_of-returns-in-Echo-clause-gives t c =
    rw c.in-Echo.is (begin_follows statement_value (word_token c.args.at w.Echo) (begin_statement c.args.at w.Echo) c.args.tokens.now (operand 6 ∷ word w.Semicolon ∷ act (said (tree.echo c.args.at)) ∷ []) [] c.echo_statement.new.tokens c.echo_statement.result (λ k vs. refl) c.echo_statement.ensures.gives)

pub statement_of-returns-in-Status-clause-gives : goal.statement_of-returns-in-Status-clause-gives
statement_of-returns-in-Status-clause-gives t c =
    rw c.in-Status.is (begin_follows statement_value (word_token c.args.at w.Status) (begin_statement c.args.at w.Status) c.args.tokens.now (operand 6 ∷ word w.Semicolon ∷ act (said (tree.status c.args.at)) ∷ []) [] c.status_statement.new.tokens c.status_statement.result (λ k vs. refl) c.status_statement.ensures.gives)

pub statement_of-returns-in-Return-clause-gives : goal.statement_of-returns-in-Return-clause-gives
statement_of-returns-in-Return-clause-gives t c =
    rw c.in-Return.is (begin_follows statement_value (word_token c.args.at w.Return) (begin_statement c.args.at w.Return) c.args.tokens.now (operand 6 ∷ word w.Semicolon ∷ act (said (tree.return c.args.at)) ∷ []) [] c.return_statement.new.tokens c.return_statement.result (λ k vs. refl) c.return_statement.ensures.gives)

pub statement_of-returns-in-Do-clause-gives : goal.statement_of-returns-in-Do-clause-gives
statement_of-returns-in-Do-clause-gives t c =
    rw c.in-Do.is (begin_follows statement_value (word_token c.args.at w.Do) (begin_statement c.args.at w.Do) c.args.tokens.now (operand 6 ∷ word w.Semicolon ∷ act (said (tree.do_ c.args.at)) ∷ []) [] c.do_statement.new.tokens c.do_statement.result (λ k vs. refl) c.do_statement.ensures.gives)

pub for_statement-returns-clause-shorter : goal.for_statement-returns-clause-shorter
for_statement-returns-clause-shorter c = grind (arith, common_steps)

pub if_statement-returns-in-Ok-clause-shorter : goal.if_statement-returns-in-Ok-clause-shorter
if_statement-returns-in-Ok-clause-shorter c = grind (arith, common_steps)

pub while_statement-returns-clause-shorter : goal.while_statement-returns-clause-shorter
while_statement-returns-clause-shorter c = grind (arith, common_steps)
