use Rattle.std.proofs.Common.{[], ◌∷◌, refl}
use Rattle.script_code.specs.declared.instruction.Instruction.TheVariants as instruction
use Rattle.script_nodes.specs.declared.primitive.Primitive.TheVariants as node
use Rattle.multi_state.proofs.Following.{puts_does}
use Rattle.multi_state.proofs.Laws.{unary_is}
use Rattle.multi_state.proofs.state.State.unary.Goals as goal

pub returns-clause-does : goal.returns-clause-does
returns-clause-does g c =
    let qs = c.args.group.now in
    let old = c.args.self.now in
    let mid = record old { stack = c.pop.new.self } in
    puts_does c.args.evaluations.now c.put.new.evaluations qs (instruction.Unary c.args.operator) (node.Unary c.args.operator) (c.in_ok-operand.operand ∷ []) old mid c.put.new.self c.put.result refl (λ a i r. unary_is qs old mid refl c.in_ok-operand.operand c.in_ok-operand.ensures a i r c.args.operator) c.put.ensures.puts
