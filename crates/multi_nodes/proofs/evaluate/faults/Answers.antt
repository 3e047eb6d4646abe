use Rattle.std.proofs.Common.{rules, ◌≡◌, ◌∙◌, ◌+◌, Err, ap, arith, subst, below_more, length}
use Rattle.basis.specs.UnlessMemory.{Answers, UnlessMemory}
use Rattle.script_tree.specs.declared.fault.ScriptFault.{ScriptFault}
use Rattle.script_values.specs.declared.builtins.Called.{Called}
use Rattle.multi_nodes.specs.Members.{answer_at}
use Rattle.multi_nodes.proofs.Parting.{fails_otherwise, goes_alone}
use Rattle.multi_nodes.proofs.evaluate.faults.Goals as goal

pub loop-member-init : goal.loop-member-init
loop-member-init g c = record {
  begun = omega arith;
  got = below_more (λ i. answer_at c.args.group.now c.args.primitive c.args.operands.now i ≡ Err c.args.fault) 0
      (λ i lt. absurd (omega (arith, lt))) c.requires;
  cost = omega arith;
}

pub loop-member-preserved : goal.loop-member-preserved
loop-member-preserved g c =
    let same : c.in-Err-Other.other ≡ c.args.fault = search rules in
    let told = subst (λ e. Answers (λ x. x) (answer_at c.args.group.now c.args.primitive c.args.operands.now c.loop-member.member) (Err e)) c.in-Err-Other.field-0-is c.in-Err-Other.ensures.answers in
    let counted = subst (λ e. UnlessMemory {A = Called} {E = ScriptFault} (λ _. c.of_member.new.evaluations ≡ c.loop-member.evaluations + 1) (λ _. c.of_member.new.evaluations ≡ c.loop-member.evaluations + 1) (Err e)) c.in-Err-Other.field-0-is c.in-Err-Other.ensures.counts in
    record {
      begun = omega arith;
      got = below_more (λ i. answer_at c.args.group.now c.args.primitive c.args.operands.now i
          ≡ Err c.args.fault) c.loop-member.member c.loop-member.invariant.got (told ∙ ap Err same);
      cost = omega (arith, c.loop-member.invariant.cost, counted);
    }

pub returns-in-Ok-clause-apart : goal.returns-in-Ok-clause-apart
returns-in-Ok-clause-apart g c =
    let f = answer_at c.args.group.now c.args.primitive c.args.operands.now in
    goes_alone (length c.args.group.now) f c.loop-member.member (search rules) c.in-Ok.called c.args.fault c.requires c.in-Ok.ensures.answers

pub returns-then-ne-clause-apart : goal.returns-then-ne-clause-apart
returns-then-ne-clause-apart g c =
    let f = answer_at c.args.group.now c.args.primitive c.args.operands.now in
    let i = c.loop-member.member in
    let told = subst (λ e. Answers (λ x. x) (f i) (Err e)) c.in-Err-Other.field-0-is c.in-Err-Other.ensures.answers in
    fails_otherwise (length c.args.group.now) f i (search rules) c.in-Err-Other.other c.args.fault c.requires told (search rules)
