use Rattle.std.proofs.Common.{rules, ◌≡◌, ◌<◌, ◌+◌, ◌-◌, true, false, [], ◌∷◌, Ok, Err, length, refl, sym, ap, subst}
use Rattle.script_code.specs.declared.instruction.Instruction.TheVariants as instruction
use Rattle.script_nodes.specs.declared.primitive.Primitive.TheVariants as node
use Rattle.group_laws.proofs.NodesGive.{member_decides}
use Rattle.multi_nodes.specs.Members.{members_at, request_at}
use Rattle.multi_state.specs.AllDo.{AllDecide}
use Rattle.multi_run.proofs.Running.{decided, decide_halts, passed_one, next_turn, turn_is, turn_rest, turn_steady}
use Rattle.multi_run.proofs.run.Run.turn.Goals as goal

pub returns-in_ok-push_loop-in-Ok-push-clause-acts : goal.returns-in_ok-push_loop-in-Ok-push-clause-acts
returns-in_ok-push_loop-in-Ok-push-clause-acts g c functions =
    let qs = c.args.group.now in
    let old = c.args.self.now in
    let m = c.in_ok-lists.lists in
    let k = c.in_ok-lists.passed in
    let n = c.args.count in
    let st = record old.state { stack = c.pop_loop.new.self } in
    let new = record old { place = c.saturating_sub-self.result; state = record st { stack = c.push_loop.new.self; slots = c.push.new.self; account = c.decide.new.self } } in
    let x = c.in-Ok.members in
    let one : c.from_ref-operands.result.now ≡ m ∷ [] = c.from_ref-operands.ensures.value in
    let h = subst (λ ms. AllDecide c.args.evaluations.now c.decide.new.evaluations qs (node.Member k) ms old.state.account (Ok true) c.decide.new.self) one
    (subst (λ b. AllDecide c.args.evaluations.now c.decide.new.evaluations qs (node.Member k) c.from_ref-operands.result.now old.state.account (Ok b) c.decide.new.self) c.in-Ok-true.field-0-test c.in-Ok-true.ensures.decides) in
    let place : c.saturating_sub-self.result ≡ old.place - n = search rules in
    let more : c.in-Some.more ≡ k + 1 = search rules in
    let members : length c.requests.result.now ≡ length qs = ap length c.requests.ensures.requests in
    decided c.args.evaluations.now c.decide.new.evaluations qs functions (instruction.Turn n) (node.Member k)
    (m ∷ []) old new (turn_rest qs functions old st refl m k n)
    (turn_is qs functions old st refl m k c.in_ok-lists.ensures n) true c.decide.new.self refl h
    (λ next i lt. next_turn next i n k c.in-Some.more old st new m x refl place more c.in_ok-push_loop-in-Ok-push.ensures c.in-Ok-push.ensures.items (c.in-Ok.ensures i (subst (λ j. i < j) (sym members) lt)))

pub returns-in_ok-pass-in-Ok-false-clause-acts : goal.returns-in_ok-pass-in-Ok-false-clause-acts
returns-in_ok-pass-in-Ok-false-clause-acts g c functions =
    let qs = c.args.group.now in
    let old = c.args.self.now in
    let m = c.in_ok-lists.lists in
    let k = c.in_ok-lists.passed in
    let n = c.args.count in
    let st = record old.state { stack = c.pop_loop.new.self } in
    let mid = record old { state = record st { account = c.decide.new.self } } in
    let one : c.from_ref-operands.result.now ≡ m ∷ [] = c.from_ref-operands.ensures.value in
    let h = subst (λ ms. AllDecide c.args.evaluations.now c.decide.new.evaluations qs (node.Member k) ms old.state.account (Ok false) c.decide.new.self) one
    (subst (λ b. AllDecide c.args.evaluations.now c.decide.new.evaluations qs (node.Member k) c.from_ref-operands.result.now old.state.account (Ok b) c.decide.new.self) c.in-Ok-false.field-0-test c.in-Ok-false.ensures.decides) in
    let pass = c.in_ok-pass-in-Ok-false.ensures in
    decided c.args.evaluations.now c.decide.new.evaluations qs functions (instruction.Turn n) (node.Member k)
    (m ∷ []) old c.pass.new.self (turn_rest qs functions old st refl m k n)
    (turn_is qs functions old st refl m k c.in_ok-lists.ensures n) false c.decide.new.self
    (ap (λ s. s.account) pass.state) h
    (λ next i lt. passed_one next i mid c.pass.new.self pass.frames pass.state pass.place)

pub returns-in-Err-clause-acts : goal.returns-in-Err-clause-acts
returns-in-Err-clause-acts g c functions =
    let qs = c.args.group.now in
    let old = c.args.self.now in
    let m = c.in_ok-lists.lists in
    let k = c.in_ok-lists.passed in
    let n = c.args.count in
    let st = record old.state { stack = c.pop_loop.new.self } in
    let new = record old { state = record st { account = c.decide.new.self } } in
    let one : c.from_ref-operands.result.now ≡ m ∷ [] = c.from_ref-operands.ensures.value in
    let h = subst (λ ms. AllDecide c.args.evaluations.now c.decide.new.evaluations qs (node.Member k) ms old.state.account (Err c.in-Err.apart) c.decide.new.self) one c.in-Err.ensures.decides in
    decide_halts c.args.evaluations.now c.decide.new.evaluations qs functions (instruction.Turn n) (node.Member k)
    (m ∷ []) old new (turn_rest qs functions old st refl m k n)
    (turn_is qs functions old st refl m k c.in_ok-lists.ensures n) c.in-Err.apart
    (λ i. member_decides (request_at qs i) k (members_at i (m ∷ []))) (turn_steady qs functions old st refl m k n) h
