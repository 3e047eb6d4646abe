use Rattle.std.proofs.Common.{◌+◌, [], ◌∷◌, refl, sym, ap, ◌∙◌}
use Rattle.std.specs.Prelude.{slice_set}
use Rattle.multi_state.proofs.Stacks.{slot_set}
use Rattle.script_code.specs.declared.instruction.Instruction.TheVariants as instruction
use Rattle.script_nodes.specs.declared.primitive.Primitive.TheVariants as node
use Rattle.multi_nodes.specs.Members.{members_at}
use Rattle.multivalue.specs.Many.{member_value}
use Rattle.multi_state.specs.Does.{onward}
use Rattle.multi_state.specs.Stacks.{stack_at}
use Rattle.multi_state.proofs.Following.{value_does, value_halts_so}
use Rattle.multi_state.proofs.Laws.{assign_is}
use Rattle.multi_state.proofs.state.State.assign.Goals as goal

pub returns-in-Ok-clause-does : goal.returns-in-Ok-clause-does
returns-in-Ok-clause-does g c =
    let qs = c.args.group.now in
    let old = c.args.self.now in
    let m = c.in_ok-operand.operand in
    let mid = record old { stack = c.pop.new.self } in
    let then' = c.value_of.new.self in
    let new = c.keep.new.self in
    let x = c.in-Ok.values in
    value_does c.args.evaluations.now c.value_of.new.evaluations qs (instruction.Assign c.args.slot) node.Pass (m ∷ []) old new (λ a i d. onward a (stack_at i mid.stack) (slice_set (members_at i mid.slots.items) c.args.slot d)) (λ a i r. assign_is qs old mid refl m c.in_ok-operand.ensures a i r c.args.slot) x then'.account c.keep.ensures.account
    (λ a i. λ z. onward a (stack_at i ((sym c.in-Ok.ensures.stack ∙ sym c.keep.ensures.stack) z)) ((ap (λ s. slice_set (members_at i s.items) c.args.slot (member_value x i)) (sym c.in-Ok.ensures.slots) ∙ sym (slot_set i c.args.slot then'.slots.items x) ∙ ap (members_at i) (sym c.keep.ensures.slots)) z)) c.in-Ok.ensures.does

pub returns-in-Err-clause-does : goal.returns-in-Err-clause-does
returns-in-Err-clause-does g c =
    let qs = c.args.group.now in
    let old = c.args.self.now in
    let m = c.in_ok-operand.operand in
    let mid = record old { stack = c.pop.new.self } in
    value_halts_so c.args.evaluations.now c.value_of.new.evaluations qs (instruction.Assign c.args.slot) node.Pass (m ∷ []) old c.value_of.new.self (λ a i d. onward a (stack_at i mid.stack) (slice_set (members_at i mid.slots.items) c.args.slot d)) (λ a i r. assign_is qs old mid refl m c.in_ok-operand.ensures a i r c.args.slot) c.in-Err.apart
    (λ a next i d. next a.frames (a.place + 1) _ _) c.in-Err.ensures.does
