use Rattle.std.proofs.Common.{◌≡◌, ℕ, [], ◌∙◌, refl, sym, ap}
use Rattle.script_code.specs.CodeRun.{topmost}
use Rattle.multi_nodes.specs.Members.{members_at}
use Rattle.multi_state.specs.Stacks.{stack_at}
use Rattle.script_code.specs.declared.instruction.Instruction.TheVariants as instruction
use Rattle.script_nodes.specs.declared.primitive.Primitive.TheVariants as node
use Rattle.multi_state.proofs.Following.{puts_does}
use Rattle.multi_state.proofs.Laws.{list_is}
use Rattle.multi_state.proofs.state.State.list.Goals as goal

pub returns-clause-does : goal.returns-clause-does
returns-clause-does g c =
    let qs = c.args.group.now in
    let old = c.args.self.now in
    let mid = record old { stack = c.take.new.self } in
    let ms = c.as_slice.result.now in
    let values : (i : ℕ) → topmost c.args.count (stack_at i old.stack) [] ≡ members_at i ms = λ i. c.in_ok-values.ensures.values i ∙ ap (members_at i) (sym c.as_slice.ensures.value) in
    puts_does c.args.evaluations.now c.put.new.evaluations qs
    (instruction.List c.args.count) node.List ms old mid c.put.new.self c.put.result refl
    (λ a i r. list_is qs old mid refl c.args.count ms values c.in_ok-values.ensures.left a i r) c.put.ensures.puts
