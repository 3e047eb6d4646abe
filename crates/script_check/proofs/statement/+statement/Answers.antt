use Rattle.std.proofs.lemmas.Grind.{common_steps}
use Rattle.std.proofs.Common.{◌-◌, ◌++◌, length, drop, sym, ap, ◌∙◌, arith}
use Rattle.script_check.specs.Least.{lower}
use Rattle.script_check.specs.Validity.{declared_where, with_name, expression_faults, block_faults}
use Rattle.script_check.proofs.Least.{lower_append, lower_none}
use Rattle.script_check.proofs.Lists.{then_next, then_before}
use Rattle.script_check.proofs.Blocks.{grows_then, after_grows, left_again, lighter_statement, block_next, block_end}
use Rattle.script_check.proofs.statement.+statement.Goals as goal

pub check_block-loop-statement-preserved : goal.check_block-loop-statement-preserved
check_block-loop-statement-preserved t c =
    let known = c.loop-statement.scope in
    let s = c.statement-item.result in
    record {
      grows = grows_then c.args.scope.now known c.check_statement.new.scope c.loop-statement.invariant.grows
          (rw c.in_ok-check_statement.ensures.known (after_grows known s));
      faults = block_next c.args.index.now known c.check_statement.new.scope c.args.block.now c.loop-statement.statement-index s c.loop-statement.found.least c.check_statement.new.found.least c.loop-statement-test.true c.statement-item.is c.in_ok-check_statement.ensures.known c.in_ok-check_statement.ensures.ok ∙ c.loop-statement.invariant.faults;
    }

pub check_block-returns-clause-known : goal.check_block-returns-clause-known
check_block-returns-clause-known t c =
    c.leave.ensures
    ∙ ap (λ n. drop (length c.loop-statement.scope - n) c.loop-statement.scope) c.len-known.ensures
    ∙ left_again c.args.scope.now c.loop-statement.scope c.loop-statement.invariant.grows

pub check_block-returns-clause-ok : goal.check_block-returns-clause-ok
check_block-returns-clause-ok t c =
    sym (block_end c.args.index.now c.loop-statement.scope c.args.block.now c.loop-statement.statement-index c.loop-statement.found.least c.loop-statement-test.false)
    ∙ c.loop-statement.invariant.faults

pub check_block-check_statement-requires : goal.check_block-check_statement-requires
check_block-check_statement-requires t c =
    let fewer = lighter_statement c.args.block.now c.loop-statement.statement-index c.statement-item.result c.loop-statement-test.true c.statement-item.is in
    (omega (arith, fewer, c.decreases), tt)

pub check_statement_node-returns-in_ok-declare-in-Let-clause-ok : goal.check_statement_node-returns-in_ok-declare-in-Let-clause-ok
check_statement_node-returns-in_ok-declare-in-Let-clause-ok t c =
    let known = c.args.scope.now in
    rw c.in-Let.is (then_before c.args.found.now.least c.check_expression.new.found.least c.declare.new.found.least (declared_where known c.in-Let.name) (expression_faults c.args.index.now known c.in-Let.value) c.check_expression.ensures c.in_ok-declare-in-Let.ensures.faults)

pub check_statement_node-returns-in_ok-check_block-in-For-clause-ok : goal.check_statement_node-returns-in_ok-check_block-in-For-clause-ok
check_statement_node-returns-in_ok-check_block-in-For-clause-ok t c =
    let ds = c.args.index.now in
    let known = c.args.scope.now in
    let l = c.args.found.now.least in
    let name = c.in-For.name in
    let inner = with_name known name.text in
    let head = declared_where known name ++ expression_faults ds known c.in-For.list in
    let before = c.declare-in-For.new.found.least in
    rw c.in-For.is (then_next l before c.check_block-in-For.new.found.least head (block_faults ds inner c.in-For.body)
    (then_before l c.check_expression-in-For.new.found.least before (declared_where known name) (expression_faults ds known c.in-For.list) c.check_expression-in-For.ensures c.in_ok-declare-in-For.ensures.faults)
    (c.in_ok-check_block-in-For.ensures.ok ∙ ap
    (λ k. lower before (block_faults ds k c.as_slice-in-For.result.now)) c.in_ok-declare-in-For.ensures.declared
    ∙ ap (λ ss. lower before (block_faults ds inner ss)) c.as_slice-in-For.ensures))

pub check_statement_node-returns-in_ok-check_block-in-If-clause-ok : goal.check_statement_node-returns-in_ok-check_block-in-If-clause-ok
check_statement_node-returns-in_ok-check_block-in-If-clause-ok t c = grind (arith, common_steps, lower_append, lower_none)

pub check_statement_node-returns-in-While-clause-ok : goal.check_statement_node-returns-in-While-clause-ok
check_statement_node-returns-in-While-clause-ok t c = grind (arith, common_steps, lower_append, lower_none)

pub check_statement_node-returns-in-Set-clause-ok : goal.check_statement_node-returns-in-Set-clause-ok
check_statement_node-returns-in-Set-clause-ok t c = grind (arith, common_steps, lower_append, lower_none)
