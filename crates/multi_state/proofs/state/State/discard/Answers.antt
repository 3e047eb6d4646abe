use Rattle.std.proofs.Common.{◌+◌, [], ◌∷◌, refl, sym}
use Rattle.script_code.specs.declared.instruction.Instruction.TheVariants as instruction
use Rattle.script_nodes.specs.declared.primitive.Primitive.TheVariants as node
use Rattle.multi_nodes.specs.Members.{members_at}
use Rattle.multi_state.specs.Does.{onward}
use Rattle.multi_state.specs.Stacks.{stack_at}
use Rattle.multi_state.proofs.Following.{value_does, value_halts_so}
use Rattle.multi_state.proofs.Laws.{discard_is}
use Rattle.multi_state.proofs.state.State.discard.Goals as goal

pub returns-in-Ok-clause-does : goal.returns-in-Ok-clause-does
returns-in-Ok-clause-does g c =
    let qs = c.args.group.now in
    let old = c.args.self.now in
    let m = c.in_ok-operand.operand in
    let mid = record old { stack = c.pop.new.self } in
    let then' = c.value_of.new.self in
    let new = then' in
    let x = c.in-Ok.values in
    value_does c.args.evaluations.now c.value_of.new.evaluations qs instruction.Discard node.Pass (m ∷ []) old new
    (λ a i d. onward a (stack_at i mid.stack) (members_at i mid.slots.items))
    (λ a i r. discard_is qs old mid refl m c.in_ok-operand.ensures a i r) x then'.account refl
    (λ a i. λ z. onward a (stack_at i (sym c.in-Ok.ensures.stack z)) (members_at i (sym c.in-Ok.ensures.slots z).items)) c.in-Ok.ensures.does

pub returns-in-Err-clause-does : goal.returns-in-Err-clause-does
returns-in-Err-clause-does g c =
    let qs = c.args.group.now in
    let old = c.args.self.now in
    let m = c.in_ok-operand.operand in
    let mid = record old { stack = c.pop.new.self } in
    value_halts_so c.args.evaluations.now c.value_of.new.evaluations qs instruction.Discard node.Pass
    (m ∷ []) old c.value_of.new.self (λ a i d. onward a (stack_at i mid.stack) (members_at i mid.slots.items))
    (λ a i r. discard_is qs old mid refl m c.in_ok-operand.ensures a i r) c.in-Err.apart
    (λ a next i d. next a.frames (a.place + 1) _ _) c.in-Err.ensures.does
