use Rattle.std.proofs.Common.{◌≡◌, ◌+◌, [], ◌∷◌, Ok, Err, length, refl, sym, ap, subst, ◌∙◌}
use Rattle.script_code.specs.declared.instruction.Instruction.TheVariants as instruction
use Rattle.script_nodes.specs.declared.primitive.Primitive.TheVariants as node
use Rattle.script_nodes.specs.NodeLaws.{print_text}
use Rattle.script_tree.specs.declared.fault.ScriptFault.TheVariants.{TooLarge}
use Rattle.script_meaning.specs.Run.{after, ◌>>◌}
use Rattle.group_laws.specs.Steady.{IsSteadyBut, only}
use Rattle.group_laws.proofs.NodesGive.{prints_small, prints_text}
use Rattle.group_laws.proofs.Onward.{printing}
use Rattle.multivalue.specs.Many.{member_value}
use Rattle.multi_nodes.specs.Members.{members_at, request_at}
use Rattle.multi_state.specs.AllDo.{node_at}
use Rattle.multi_state.specs.Spending.{AllPrint, PrintsPart}
use Rattle.multi_state.specs.Does.{onward}
use Rattle.multi_state.specs.Stacks.{stack_at}
use Rattle.multi_state.proofs.Following.{value_halts, value_then, value_stops}
use Rattle.multi_state.proofs.Laws.{echo_is}
use Rattle.multi_state.proofs.Parting.{after_both}
use Rattle.multi_state.proofs.state.State.echo.Goals as goal

pub returns-in-Ok-print-clause-does : goal.returns-in-Ok-print-clause-does
returns-in-Ok-print-clause-does g c =
    let qs = c.args.group.now in
    let old = c.args.self.now in
    let m = c.in_ok-operand.operand in
    let mid = record old { stack = c.pop.new.self } in
    let then' = c.value_of.new.self in
    let new = record then' { account = c.print.new.self } in
    let x = c.in-Ok.texts in
    let n : length c.requests.result.now ≡ length qs = ap length c.requests.ensures.requests in
    let done = subst (λ k. AllPrint k x then'.account (Ok tt) c.print.new.self) n c.in-Ok-print.ensures.prints in
    value_then c.args.evaluations.now c.value_of.new.evaluations qs instruction.Echo node.Echo (m ∷ []) old new
    (λ a i d r. after (print_text d r) (λ _. onward a (stack_at i mid.stack) (members_at i mid.slots.items)))
    (λ a i r. echo_is qs old mid refl m c.in_ok-operand.ensures a i r
    ∙ after_both (node_at qs node.Echo (m ∷ []) i r) print_text
    (λ _. onward a (stack_at i mid.stack) (members_at i mid.slots.items))) x then'.account print_text
    (λ a i z r. after (print_text (member_value x i) r)
    (λ _. onward a (stack_at i (sym c.in-Ok.ensures.stack z))
    (members_at i (sym c.in-Ok.ensures.slots z).items))) c.in-Ok.ensures.does done

pub returns-in-Err-print-clause-does : goal.returns-in-Err-print-clause-does
returns-in-Err-print-clause-does g c =
    let qs = c.args.group.now in
    let old = c.args.self.now in
    let m = c.in_ok-operand.operand in
    let mid = record old { stack = c.pop.new.self } in
    let then' = c.value_of.new.self in
    let new = record then' { account = c.print.new.self } in
    let x = c.in-Ok.texts in
    let n : length c.requests.result.now ≡ length qs = ap length c.requests.ensures.requests in
    let e = c.in-Err-print.apart in
    let done = subst (λ k. AllPrint k x then'.account (Err e) c.print.new.self) n c.in-Err-print.ensures.prints in
    value_stops c.args.evaluations.now c.value_of.new.evaluations qs instruction.Echo node.Echo (m ∷ []) old new
    (λ a i d r. after (print_text d r) (λ _. onward a (stack_at i mid.stack) (members_at i mid.slots.items)))
    (λ a i r. echo_is qs old mid refl m c.in_ok-operand.ensures a i r
    ∙ after_both (node_at qs node.Echo (m ∷ []) i r) print_text
    (λ _. onward a (stack_at i mid.stack) (members_at i mid.slots.items))) x then'.account print_text e
    (PrintsPart (length qs) x then'.account) (λ parts. parts)
    (λ a i z r. after (print_text (member_value x i) r)
    (λ _. onward a (stack_at i (sym c.in-Ok.ensures.stack z))
    (members_at i (sym c.in-Ok.ensures.slots z).items))) c.in-Ok.ensures.does done

pub returns-in-Err-clause-does : goal.returns-in-Err-clause-does
returns-in-Err-clause-does g c =
    let qs = c.args.group.now in
    let old = c.args.self.now in
    let m = c.in_ok-operand.operand in
    let mid = record old { stack = c.pop.new.self } in
    value_halts c.args.evaluations.now c.value_of.new.evaluations qs instruction.Echo node.Echo
    (m ∷ []) old c.value_of.new.self (λ a i d r. after (print_text d r)
    (λ _. onward a (stack_at i mid.stack) (members_at i mid.slots.items)))
    (λ a i r. echo_is qs old mid refl m c.in_ok-operand.ensures a i r
    ∙ after_both (node_at qs node.Echo (m ∷ []) i r) print_text
    (λ _. onward a (stack_at i mid.stack) (members_at i mid.slots.items))) c.in-Err.apart
    (only TooLarge) (λ i lt. prints_small (request_at qs i) (members_at i (m ∷ [])))
    (λ a next i d may.
    let t = prints_text (request_at qs i) (members_at i (m ∷ [])) d may in
    let then' = onward a (stack_at i mid.stack) (members_at i mid.slots.items) in
    subst (λ x. IsSteadyBut (only TooLarge) (print_text x >> then')) (sym t.1)
    (printing t.0 then' (next a.frames (a.place + 1) (stack_at i mid.stack) (members_at i mid.slots.items))))
    c.in-Err.ensures.does
