use Rattle.std.proofs.Common.{◌∙◌, Ok, Err, ap, sym, subst}
use Rattle.basis.specs.UnlessMemory.{Answers}
use Rattle.multivalue.specs.Many.{member_value}
use Rattle.script_values.specs.declared.builtins.Called.TheVariants.{Value}
use Rattle.multi_nodes.specs.Members.{answer_at}
use Rattle.multi_nodes.proofs.Agreed.{agreed}
use Rattle.multi_nodes.proofs.evaluate.evaluate_so.Goals as goal

pub returns-then-not-may_issue-clause-have : goal.returns-then-not-may_issue-clause-have
returns-then-not-may_issue-clause-have g c i lt =
    let yes = sym c.requires ∙ c.if-agreed-3.true in
    let first = c.in-Ok-Operation.ensures.answers ∙ ap Ok c.in-Ok-Operation.field-0-is in
    (c.in-Ok-Operation.op, agreed c.args.group.now c.args.primitive c.args.operands.now yes i lt ∙ first)

pub returns-then-agreed-clause-have : goal.returns-then-agreed-clause-have
returns-then-agreed-clause-have g c i lt =
    let yes = sym c.requires ∙ c.if-agreed.true in
    let first = subst (λ e. Answers (λ x. x) (answer_at c.args.group.now c.args.primitive c.args.operands.now 0) (Err e)) c.in-Err-Other.field-0-is c.in-Err-Other.ensures.answers in
    agreed c.args.group.now c.args.primitive c.args.operands.now yes i lt ∙ first

pub returns-then-agreed-2-clause-have : goal.returns-then-agreed-2-clause-have
returns-then-agreed-2-clause-have g c i lt =
    let yes = sym c.requires ∙ c.if-agreed-2.true in
    let first = c.in-Ok-Value.ensures.answers ∙ ap Ok c.in-Ok-Value.field-0-is in
    agreed c.args.group.now c.args.primitive c.args.operands.now yes i lt ∙ first ∙ ap (λ m. Ok (Value (member_value m i))) (sym c.all.ensures)

pub returns-else-may_issue-clause-have : goal.returns-else-may_issue-clause-have
returns-else-may_issue-clause-have g c i lt = (_, c.in_ok-ops-in-Ok-Operation.ensures.have i lt)
