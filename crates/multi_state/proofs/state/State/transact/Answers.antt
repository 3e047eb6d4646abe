use Rattle.std.proofs.Common.{◌≡◌, ℕ, [], ◌∙◌, drop, rules, refl, sym, ap}
use Rattle.script_code.specs.CodeRun.{topmost, all_taken}
use Rattle.multi_nodes.specs.Members.{members_at}
use Rattle.multi_state.specs.Stacks.{stack_at}
use Rattle.script_code.specs.declared.instruction.Instruction.TheVariants as instruction
use Rattle.script_nodes.specs.declared.primitive.Primitive.TheVariants as node
use Rattle.multi_state.proofs.Following.{puts_does}
use Rattle.multi_state.proofs.Laws.{transact_is}
use Rattle.multi_state.proofs.state.State.transact.Goals as goal

pub returns-clause-does : goal.returns-clause-does
returns-clause-does g c =
    let qs = c.args.group.now in
    let old = c.args.self.now in
    let mid = record old { stack = c.take.new.self } in
    let ms = c.as_slice.result.now in
    let all : c.all_taken-count.result ≡ all_taken c.args.shapes.now = search rules in
    let values : (i : ℕ) → topmost (all_taken c.args.shapes.now) (stack_at i old.stack) [] ≡ members_at i ms = λ i. ap (λ n. topmost n (stack_at i old.stack) []) (sym all) ∙ c.in_ok-values.ensures.values i ∙ ap (members_at i) (sym c.as_slice.ensures.value) in
    let left : (i : ℕ) → drop (all_taken c.args.shapes.now) (stack_at i old.stack) ≡ stack_at i mid.stack = λ i. ap (λ n. drop n (stack_at i old.stack)) (sym all) ∙ c.in_ok-values.ensures.left i in
    puts_does c.args.evaluations.now c.put.new.evaluations qs (instruction.Transact c.args.shapes.now)
    (node.Transact c.args.shapes) ms old mid c.put.new.self c.put.result refl
    (λ a i r. transact_is qs old mid refl c.args.shapes ms values left a i r) c.put.ensures.puts
