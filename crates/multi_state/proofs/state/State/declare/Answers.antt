use Rattle.std.proofs.Common.{◌+◌, [], ◌∷◌, ◌++◌, refl, sym, ap, ◌∙◌}
use Rattle.multi_state.proofs.Stacks.{one_slot_more}
use Rattle.script_code.specs.declared.instruction.Instruction.TheVariants as instruction
use Rattle.script_nodes.specs.declared.primitive.Primitive.TheVariants as node
use Rattle.multi_nodes.specs.Members.{members_at}
use Rattle.multivalue.specs.Many.{member_value}
use Rattle.multi_state.specs.Does.{onward}
use Rattle.multi_state.specs.Stacks.{stack_at}
use Rattle.multi_state.proofs.Following.{value_does, value_halts_so}
use Rattle.multi_state.proofs.Laws.{declare_is}
use Rattle.multi_state.proofs.state.State.declare.Goals as goal

pub returns-in_ok-push-in-Ok-clause-does : goal.returns-in_ok-push-in-Ok-clause-does
returns-in_ok-push-in-Ok-clause-does g c =
    let qs = c.args.group.now in
    let old = c.args.self.now in
    let m = c.in_ok-operand.operand in
    let mid = record old { stack = c.pop.new.self } in
    let then' = c.value_of.new.self in
    let new = record then' { slots = c.push.new.self } in
    let x = c.in-Ok.values in
    value_does c.args.evaluations.now c.value_of.new.evaluations qs instruction.Declare node.Pass (m ∷ []) old new
    (λ a i d. onward a (stack_at i mid.stack) (members_at i mid.slots.items ++ d ∷ []))
    (λ a i r. declare_is qs old mid refl m c.in_ok-operand.ensures a i r) x then'.account refl
    (λ a i. λ z. onward a (stack_at i (sym c.in-Ok.ensures.stack z)) ((ap (λ s. members_at i s.items ++ member_value x i ∷ []) (sym c.in-Ok.ensures.slots) ∙ sym (one_slot_more i then'.slots.items x) ∙ ap (members_at i) (sym c.in_ok-push-in-Ok.ensures.items)) z)) c.in-Ok.ensures.does

pub returns-in-Err-clause-does : goal.returns-in-Err-clause-does
returns-in-Err-clause-does g c =
    let qs = c.args.group.now in
    let old = c.args.self.now in
    let m = c.in_ok-operand.operand in
    let mid = record old { stack = c.pop.new.self } in
    value_halts_so c.args.evaluations.now c.value_of.new.evaluations qs instruction.Declare node.Pass
    (m ∷ []) old c.value_of.new.self (λ a i d. onward a (stack_at i mid.stack)
    (members_at i mid.slots.items ++ d ∷ []))
    (λ a i r. declare_is qs old mid refl m c.in_ok-operand.ensures a i r) c.in-Err.apart
    (λ a next i d. next a.frames (a.place + 1) _ _) c.in-Err.ensures.does
