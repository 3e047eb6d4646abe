use Rattle.std.proofs.Common.{◌+◌, ◌∷◌, refl, sym, ap, ◌∙◌}
use Rattle.script_code.specs.declared.instruction.Instruction.TheVariants as instruction
use Rattle.multivalue.specs.Many.{member_value}
use Rattle.multi_nodes.specs.Members.{members_at}
use Rattle.multi_state.specs.Stacks.{stack_at}
use Rattle.multi_run.proofs.Running.{freely, passed, each_is, without_none}
use Rattle.multi_run.specs.Acts.{frames_at}
use Rattle.multi_run.proofs.run.Run.each.Goals as goal

pub returns-clause-acts : goal.returns-clause-acts
returns-clause-acts c n qs functions =
    let old = c.args.self.now in
    let m = c.in_ok-lists.lists in
    let st = record old.state { stack = c.pop.new.self } in
    let mid = record old { state = record st { stack = c.push_loop.new.self } } in
    freely n qs functions (instruction.Each c.args.count) old c.pass.new.self (ap (λ s. s.account) c.in_ok-pass.ensures.state)
    (λ next i.
    each_is qs functions old st refl m c.in_ok-lists.ensures c.args.count next i
    ∙ (λ z. next (frames_at i old.frames.items) (old.place + 1 + c.args.count) (sym (c.in_ok-push_loop.ensures i ∙ ap (λ d. d ∷ member_value m i ∷ stack_at i st.stack) (without_none (member_value m i))) z) (members_at i st.slots.items))
    ∙ passed next i mid c.pass.new.self c.args.count c.in_ok-pass.ensures.frames c.in_ok-pass.ensures.state c.in_ok-pass.ensures.place)
