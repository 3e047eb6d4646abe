use Rattle.std.proofs.Common.{◌≡◌, ◌+◌, [], ◌∷◌, Ok, Err, length, refl, sym, ap, subst, ◌∙◌}
use Rattle.script_code.specs.declared.instruction.Instruction.TheVariants as instruction
use Rattle.script_nodes.specs.declared.primitive.Primitive.TheVariants as node
use Rattle.script_nodes.specs.NodeLaws.{set_status_to}
use Rattle.script_meaning.specs.Run.{after}
use Rattle.group_laws.proofs.Onward.{setting}
use Rattle.multivalue.specs.Many.{member_value}
use Rattle.multi_nodes.specs.Members.{members_at}
use Rattle.multi_state.specs.AllDo.{node_at}
use Rattle.multi_state.specs.Spending.{AllSet}
use Rattle.multi_state.specs.Does.{onward}
use Rattle.multi_state.specs.Stacks.{stack_at}
use Rattle.multi_state.proofs.Following.{value_halts_so, value_then, value_stops}
use Rattle.multi_state.proofs.Laws.{status_is}
use Rattle.multi_state.proofs.Parting.{after_both}
use Rattle.multi_state.proofs.state.State.status.Goals as goal

pub returns-in-Ok-set_status-clause-does : goal.returns-in-Ok-set_status-clause-does
returns-in-Ok-set_status-clause-does g c =
    let qs = c.args.group.now in
    let old = c.args.self.now in
    let m = c.in_ok-operand.operand in
    let mid = record old { stack = c.pop.new.self } in
    let then' = c.value_of.new.self in
    let new = record then' { account = c.set_status.new.self } in
    let x = c.in-Ok.statuses in
    let n : length c.requests.result.now ≡ length qs = ap length c.requests.ensures.requests in
    let done = subst (λ k. AllSet k x then'.account (Ok tt) c.set_status.new.self) n c.in-Ok-set_status.ensures.sets in
    value_then c.args.evaluations.now c.value_of.new.evaluations qs instruction.Status node.Status (m ∷ []) old new
    (λ a i d r. after (set_status_to d r) (λ _. onward a (stack_at i mid.stack) (members_at i mid.slots.items)))
    (λ a i r. status_is qs old mid refl m c.in_ok-operand.ensures a i r
    ∙ after_both (node_at qs node.Status (m ∷ []) i r) set_status_to
    (λ _. onward a (stack_at i mid.stack) (members_at i mid.slots.items))) x then'.account set_status_to
    (λ a i z r. after (set_status_to (member_value x i) r)
    (λ _. onward a (stack_at i (sym c.in-Ok.ensures.stack z))
    (members_at i (sym c.in-Ok.ensures.slots z).items))) c.in-Ok.ensures.does done

pub returns-in-Err-set_status-clause-does : goal.returns-in-Err-set_status-clause-does
returns-in-Err-set_status-clause-does g c =
    let qs = c.args.group.now in
    let old = c.args.self.now in
    let m = c.in_ok-operand.operand in
    let mid = record old { stack = c.pop.new.self } in
    let then' = c.value_of.new.self in
    let new = record then' { account = c.set_status.new.self } in
    let x = c.in-Ok.statuses in
    let n : length c.requests.result.now ≡ length qs = ap length c.requests.ensures.requests in
    let e = c.in-Err-set_status.apart in
    let done = subst (λ k. AllSet k x then'.account (Err e) c.set_status.new.self) n c.in-Err-set_status.ensures.sets in
    value_stops c.args.evaluations.now c.value_of.new.evaluations qs instruction.Status node.Status (m ∷ []) old new
    (λ a i d r. after (set_status_to d r) (λ _. onward a (stack_at i mid.stack) (members_at i mid.slots.items)))
    (λ a i r. status_is qs old mid refl m c.in_ok-operand.ensures a i r
    ∙ after_both (node_at qs node.Status (m ∷ []) i r) set_status_to
    (λ _. onward a (stack_at i mid.stack) (members_at i mid.slots.items))) x then'.account set_status_to e
    ⊥ (λ no. absurd no)
    (λ a i z r. after (set_status_to (member_value x i) r)
    (λ _. onward a (stack_at i (sym c.in-Ok.ensures.stack z))
    (members_at i (sym c.in-Ok.ensures.slots z).items))) c.in-Ok.ensures.does done

pub returns-in-Err-clause-does : goal.returns-in-Err-clause-does
returns-in-Err-clause-does g c =
    let qs = c.args.group.now in
    let old = c.args.self.now in
    let m = c.in_ok-operand.operand in
    let mid = record old { stack = c.pop.new.self } in
    value_halts_so c.args.evaluations.now c.value_of.new.evaluations qs instruction.Status node.Status
    (m ∷ []) old c.value_of.new.self (λ a i d r. after (set_status_to d r)
    (λ _. onward a (stack_at i mid.stack) (members_at i mid.slots.items)))
    (λ a i r. status_is qs old mid refl m c.in_ok-operand.ensures a i r
    ∙ after_both (node_at qs node.Status (m ∷ []) i r) set_status_to
    (λ _. onward a (stack_at i mid.stack) (members_at i mid.slots.items))) c.in-Err.apart
    (λ a next i d. setting d (onward a (stack_at i mid.stack) (members_at i mid.slots.items))
    (next a.frames (a.place + 1) (stack_at i mid.stack) (members_at i mid.slots.items)))
    c.in-Err.ensures.does
