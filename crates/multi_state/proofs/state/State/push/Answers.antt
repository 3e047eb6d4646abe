use Rattle.std.proofs.Common.{[], refl}
use Rattle.script_code.specs.declared.instruction.Instruction.TheVariants as instruction
use Rattle.script_nodes.specs.declared.primitive.Primitive.TheVariants as node
use Rattle.multi_state.proofs.Following.{puts_does}
use Rattle.multi_state.proofs.Laws.{push_is}
use Rattle.multi_state.proofs.state.State.push.Goals as goal

pub returns-clause-does : goal.returns-clause-does
returns-clause-does g c =
    let qs = c.args.group.now in
    let old = c.args.self.now in
    let mid = old in
    puts_does c.args.evaluations.now c.put.new.evaluations qs (instruction.Push c.args.value.now)
    (node.Literal c.args.value) [] old mid c.put.new.self c.put.result refl
    (push_is qs old mid refl c.args.value (λ i. refl)) c.put.ensures.puts
