use Rattle.std.proofs.Common.{◌≡◌, ℕ, [], ◌∷◌, ◌∙◌, refl, ap}
use Rattle.multivalue.specs.Many.{member_value}
use Rattle.multi_state.specs.Stacks.{stack_at}
use Rattle.script_code.specs.declared.instruction.Instruction.TheVariants as instruction
use Rattle.script_nodes.specs.declared.primitive.Primitive.TheVariants as node
use Rattle.multi_state.proofs.Following.{puts_does}
use Rattle.multi_state.proofs.Laws.{binary_is}
use Rattle.multi_state.proofs.state.State.binary.Goals as goal

pub returns-clause-does : goal.returns-clause-does
returns-clause-does g c =
    let qs = c.args.group.now in
    let old = c.args.self.now in
    let mid = record old { stack = c.pop-2.new.self } in
    let x = c.in_ok-left.left in
    let y = c.in_ok-right.right in
    let both : (i : ℕ) → stack_at i old.stack ≡ member_value y i ∷ member_value x i ∷ stack_at i mid.stack = λ i. c.in_ok-right.ensures i ∙ ap (λ st. member_value y i ∷ st) (c.in_ok-left.ensures i) in
    puts_does c.args.evaluations.now c.put.new.evaluations qs (instruction.Binary c.args.operator)
    (node.Binary c.args.operator) (x ∷ y ∷ []) old mid c.put.new.self c.put.result refl
    (λ a i r. binary_is qs old mid refl x y both a i r c.args.operator) c.put.ensures.puts
