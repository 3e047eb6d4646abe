use Rattle.std.proofs.lemmas.Grind.{common_steps}
use Rattle.std.proofs.Common.{◌∙◌, ◌≡◌, ap, arith}
use Rattle.script_tree.specs.StatementView.{else_of}
use Rattle.script_tree.specs.StatementWeight.{statement_list_weight}
use Rattle.script_code.specs.Jumps.{scoped_block, scoped_else, turn_code}
use Rattle.script_code.specs.declared.instruction.Instruction.TheVariants as instruction
use Rattle.script_code.proofs.Emits.{statement_lighter, jump_written, branch_written}
use Rattle.script_code.proofs.emitter.Emitter.+emit_statements.Goals as goal

pub block-statement-requires : goal.block-statement-requires
block-statement-requires t c =
    let items = c.as_slice-s-items.result.now in
    let lighter = statement_lighter items c.loop-s.s-index c.s-item.result c.loop-s-test.true c.s-item.is in
    let same : statement_list_weight items ≡ statement_list_weight c.args.body.now = ap statement_list_weight c.as_slice-s-items.ensures in
    (omega (arith, lighter, same, c.decreases), tt)

pub first-returns-clause-code : goal.first-returns-clause-code
first-returns-clause-code t c =
    c.replace.ensures
    ∙ branch_written c.args.code.now.items (scoped_block c.args.self.now c.args.scope.now c.args.body.now) c.put.new.code.items c.scoped.new.code.items _ c.len-jump.result c.len.result
    (c.len-jump.ensures ∙ c.args.code.now.ok.0) c.in_ok-put.ensures c.in_ok-scoped.ensures.code (c.len.ensures ∙ c.scoped.new.code.ok.0)

pub second-returns-clause-code : goal.second-returns-clause-code
second-returns-clause-code t c =
    c.replace.ensures
    ∙ jump_written instruction.Jump c.args.code.now.items
    (scoped_else c.args.self.now c.args.scope.now
    (else_of c.args.other.now)) c.put.new.code.items c.other.new.code.items _ c.len-jump.result c.len.result
    (c.len-jump.ensures ∙ c.args.code.now.ok.0) c.in_ok-put.ensures c.in_ok-other.ensures.code (c.len.ensures ∙ c.other.new.code.ok.0)

pub body-returns-clause-code : goal.body-returns-clause-code
body-returns-clause-code t c =
    c.replace.ensures
    ∙ jump_written instruction.Jump c.args.code.now.items (scoped_block c.args.self.now c.args.scope.now c.args.body.now) c.put.new.code.items c.scoped.new.code.items _ c.len-jump.result c.len.result
    (c.len-jump.ensures ∙ c.args.code.now.ok.0) c.in_ok-put.ensures c.in_ok-scoped.ensures.code (c.len.ensures ∙ c.scoped.new.code.ok.0)

pub turns-returns-clause-code : goal.turns-returns-clause-code
turns-returns-clause-code t c =
    c.replace.ensures
    ∙ jump_written instruction.Each c.args.code.now.items (turn_code c.args.self.now c.args.scope.now c.args.x.now.text c.args.body.now) c.put.new.code.items c.turn.new.code.items _ c.len-jump.result c.len.result
    (c.len-jump.ensures ∙ c.args.code.now.ok.0) c.in_ok-put.ensures c.in_ok-turn.ensures.code (c.len.ensures ∙ c.turn.new.code.ok.0)

pub statement_node-returns-in-Let-clause-code : goal.statement_node-returns-in-Let-clause-code
statement_node-returns-in-Let-clause-code t c = rw c.in-Let.is (c.let_statement.ensures.code c.args.at)

pub statement_node-returns-in-While-clause-code : goal.statement_node-returns-in-While-clause-code
statement_node-returns-in-While-clause-code t c = rw c.in-While.is (c.while_loop.ensures.code c.args.at)

pub statement_node-returns-in-For-clause-code : goal.statement_node-returns-in-For-clause-code
statement_node-returns-in-For-clause-code t c = rw c.in-For.is (c.for_loop.ensures.code c.args.at)

pub block-loop-s-init : goal.block-loop-s-init
block-loop-s-init c = grind (arith, common_steps)

pub block-loop-s-preserved : goal.block-loop-s-preserved
block-loop-s-preserved c = grind (arith, common_steps)

pub block-returns-clause-code : goal.block-returns-clause-code
block-returns-clause-code c = grind (arith, common_steps)

pub body-overflow_sub-past : goal.body-overflow_sub-past
body-overflow_sub-past c = grind (arith, common_steps)

pub body-overflow_sub-past-2 : goal.body-overflow_sub-past-2
body-overflow_sub-past-2 c = grind (arith, common_steps)

pub body-replace-requires : goal.body-replace-requires
body-replace-requires c = grind (arith, common_steps)

pub first-overflow_sub-past : goal.first-overflow_sub-past
first-overflow_sub-past c = grind (arith, common_steps)

pub first-replace-requires : goal.first-replace-requires
first-replace-requires c = grind (arith, common_steps)

pub for_loop-overflow_sub-back : goal.for_loop-overflow_sub-back
for_loop-overflow_sub-back c = grind (arith, common_steps)

pub for_loop-overflow_sub-back-2 : goal.for_loop-overflow_sub-back-2
for_loop-overflow_sub-back-2 c = grind (arith, common_steps)

pub for_loop-returns-clause-code : goal.for_loop-returns-clause-code
for_loop-returns-clause-code c = grind (arith, common_steps)

pub scoped-returns-clause-code : goal.scoped-returns-clause-code
scoped-returns-clause-code c = grind (arith, common_steps)

pub second-overflow_sub-past : goal.second-overflow_sub-past
second-overflow_sub-past c = grind (arith, common_steps)

pub second-overflow_sub-past-2 : goal.second-overflow_sub-past-2
second-overflow_sub-past-2 c = grind (arith, common_steps)

pub second-replace-requires : goal.second-replace-requires
second-replace-requires c = grind (arith, common_steps)

pub statement_node-returns-in_ok-first-in-If-clause-code : goal.statement_node-returns-in_ok-first-in-If-clause-code
statement_node-returns-in_ok-first-in-If-clause-code c = grind (arith, common_steps)

pub turn-returns-clause-code : goal.turn-returns-clause-code
turn-returns-clause-code c = grind (arith, common_steps)

pub turn-returns-clause-scope : goal.turn-returns-clause-scope
turn-returns-clause-scope c = grind (arith, common_steps)

pub turns-overflow_sub-past : goal.turns-overflow_sub-past
turns-overflow_sub-past c = grind (arith, common_steps)

pub turns-overflow_sub-past-2 : goal.turns-overflow_sub-past-2
turns-overflow_sub-past-2 c = grind (arith, common_steps)

pub turns-replace-requires : goal.turns-replace-requires
turns-replace-requires c = grind (arith, common_steps)

pub while_loop-overflow_sub-back : goal.while_loop-overflow_sub-back
while_loop-overflow_sub-back c = grind (arith, common_steps)

pub while_loop-overflow_sub-back-2 : goal.while_loop-overflow_sub-back-2
while_loop-overflow_sub-back-2 c = grind (arith, common_steps)

pub while_loop-returns-clause-code : goal.while_loop-returns-clause-code
while_loop-returns-clause-code c = grind (arith, common_steps)
