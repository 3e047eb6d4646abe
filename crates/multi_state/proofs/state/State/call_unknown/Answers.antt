use Rattle.std.proofs.Common.{◌≡◌, ℕ, [], refl, sym, ap, ◌∙◌}
use Rattle.script_code.specs.declared.instruction.Instruction.TheVariants as instruction
use Rattle.script_nodes.specs.declared.primitive.Primitive.TheVariants as node
use Rattle.script_code.specs.CodeRun.{topmost}
use Rattle.script_meaning.specs.Evaluate.{on}
use Rattle.script_meaning.specs.Run.{give}
use Rattle.group_laws.proofs.Onward.{ends}
use Rattle.multi_nodes.specs.Members.{members_at}
use Rattle.multi_state.specs.Stacks.{stack_at}
use Rattle.multi_state.proofs.Following.{value_halts_so}
use Rattle.multi_state.proofs.Laws.{call_unknown_is}
use Rattle.multi_state.proofs.state.State.call_unknown.Goals as goal

pub returns-clause-does : goal.returns-clause-does
returns-clause-does g c =
    let qs = c.args.group.now in
    let old = c.args.self.now in
    let mid = record old { stack = c.take.new.self } in
    let ms = c.as_slice.result.now in
    let values : (i : ℕ) → topmost c.args.count (stack_at i old.stack) [] ≡ members_at i ms = λ i. c.in_ok-values.ensures.values i ∙ ap (members_at i) (sym c.as_slice.ensures.value) in
    value_halts_so c.args.evaluations.now c.value.new.evaluations qs (instruction.CallUnknown c.args.count) node.Unknown ms old c.value.new.self (λ a i d. give (on [])) (λ a i r. call_unknown_is qs old mid refl c.args.count ms values c.in_ok-values.ensures.left a i r) c.in-Err.apart (λ a next i d. ends (on [])) c.in-Err.ensures.does
