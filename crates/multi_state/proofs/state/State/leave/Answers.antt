use Rattle.std.proofs.Common.{rules, ◌≡◌, take, refl, sym, ap, ◌∙◌}
use Rattle.script_code.specs.declared.instruction.Instruction.TheVariants as instruction
use Rattle.multi_nodes.specs.Members.{members_at}
use Rattle.multi_state.specs.Does.{onward}
use Rattle.multi_state.specs.Stacks.{stack_at}
use Rattle.multi_state.proofs.Following.{freely}
use Rattle.multi_state.proofs.Stacks.{slots_left}
use Rattle.multi_state.proofs.state.State.leave.Goals as goal

pub returns-clause-does : goal.returns-clause-does
returns-clause-does c n qs =
    let old = c.args.self.now in
    let new = record old { slots = c.truncate.new.self } in
    let left : c.truncate.new.self.items ≡ take c.args.count old.slots.items = search rules in
    freely n qs (instruction.Leave c.args.count) old new refl
    (λ a i z. onward a (stack_at i old.stack)
    ((sym (slots_left i c.args.count old.slots.items) ∙ ap (members_at i) (sym left)) z))
