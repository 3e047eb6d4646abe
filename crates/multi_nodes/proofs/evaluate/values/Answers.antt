use Rattle.std.proofs.lemmas.Grind.{common_steps}
use Rattle.std.proofs.Common.{rules, ◌∙◌, [], ◌∷◌, length-append, Ok, Err, ap, arith, length, subst}
use Rattle.basis.specs.UnlessMemory.{Answers}
use Rattle.script_tree.specs.Datum.{null}
use Rattle.script_values.specs.declared.builtins.Called.TheVariants.{Value}
use Rattle.multi_nodes.specs.Members.{answer_at, members_at, request_at}
use Rattle.multi_nodes.proofs.Gathered.{one_put}
use Rattle.multi_nodes.proofs.OneKind.{one_kind}
use Rattle.multi_nodes.proofs.Parting.{fails_alone}
use Rattle.multi_nodes.proofs.evaluate.values.Goals as goal

pub loop-member-preserved : goal.loop-member-preserved
loop-member-preserved g c =
    let e = c.in-Ok-Value.ensures.answers ∙ ap Ok c.in-Ok-Value.field-0-is in
    let pushed = c.in_ok-push-in-Ok-Value.ensures.items in
    record {
      begun = omega arith;
      count = omega (arith, ap length pushed, length-append c.loop-member.values.items (c.in-Ok-Value.value ∷ []), c.loop-member.invariant.count);
      got = one_put (answer_at c.args.group.now c.args.primitive c.args.operands.now) (λ d. Ok (Value d)) c.loop-member.values.items c.push-in-Ok-Value.new.self.items c.in-Ok-Value.value null c.loop-member.member
          c.loop-member.invariant.count pushed c.loop-member.invariant.got e;
      cost = omega (arith, c.loop-member.invariant.cost, c.in-Ok-Value.ensures.counts);
    }

pub returns-in-Ok-Operation-clause-apart : goal.returns-in-Ok-Operation-clause-apart
returns-in-Ok-Operation-clause-apart g c =
    let qs = c.args.group.now in
    let ms = c.args.operands.now in
    let i = c.loop-member.member in
    absurd (one_kind (request_at qs 0) (request_at qs i) c.args.primitive (members_at 0 ms) (members_at i ms) c.args.first c.in-Ok-Operation.op
    c.requires (c.in-Ok-Operation.ensures.answers ∙ ap Ok c.in-Ok-Operation.field-0-is))

pub returns-in-Err-Other-clause-apart : goal.returns-in-Err-Other-clause-apart
returns-in-Err-Other-clause-apart g c =
    let f = answer_at c.args.group.now c.args.primitive c.args.operands.now in
    let i = c.loop-member.member in
    let told = subst (λ e. Answers (λ x. x) (f i) (Err e)) c.in-Err-Other.field-0-is c.in-Err-Other.ensures.answers in
    fails_alone (length c.args.group.now) f i (search rules) (Value c.args.first) c.in-Err-Other._fault c.requires told

pub loop-member-init : goal.loop-member-init
loop-member-init c = grind (arith, common_steps)

pub returns-clause-have : goal.returns-clause-have
returns-clause-have c = grind (arith, common_steps)

pub returns-clause-counts : goal.returns-clause-counts
returns-clause-counts c = grind (arith, common_steps)
