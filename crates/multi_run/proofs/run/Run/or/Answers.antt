use Rattle.std.proofs.Common.{◌≡◌, ◌+◌, true, false, [], ◌∷◌, Ok, Err, refl, sym, ap, subst, ◌∙◌}
use Rattle.script_code.specs.declared.instruction.Instruction.TheVariants as instruction
use Rattle.script_nodes.specs.declared.primitive.Primitive.TheVariants as node
use Rattle.group_laws.proofs.NodesGive.{decides}
use Rattle.multi_nodes.specs.Members.{members_at, request_at}
use Rattle.multi_state.specs.AllDo.{AllDecide}
use Rattle.multi_run.proofs.Running.{decided, decide_halts, passed, passed_one, or_is, or_rest, or_steady}
use Rattle.multi_run.specs.Acts.{frames_at}
use Rattle.multi_run.proofs.run.Run.or.Goals as goal

pub returns-in_ok-pass-in-Ok-true-clause-acts : goal.returns-in_ok-pass-in-Ok-true-clause-acts
returns-in_ok-pass-in-Ok-true-clause-acts g c functions =
    let qs = c.args.group.now in
    let old = c.args.self.now in
    let m = c.in_ok-values.values in
    let st = record old.state { stack = c.pop.new.self } in
    let mid = record old { state = record st { stack = c.push.new.self; account = c.decide.new.self } } in
    let one : c.from_ref-operands.result.now ≡ m ∷ [] = c.from_ref-operands.ensures.value in
    let h = subst (λ ms. AllDecide c.args.evaluations.now c.decide.new.evaluations qs node.Decide ms old.state.account (Ok true) c.decide.new.self) one (subst (λ b. AllDecide c.args.evaluations.now c.decide.new.evaluations qs node.Decide c.from_ref-operands.result.now old.state.account (Ok b) c.decide.new.self) c.in-Ok-true.field-0-test c.in-Ok-true.ensures.decides) in
    decided c.args.evaluations.now c.decide.new.evaluations qs functions (instruction.Or c.args.count) node.Decide
    (m ∷ []) old c.pass.new.self (or_rest qs functions old st refl m c.in_ok-values.ensures c.args.count)
    (or_is qs functions old st refl m c.in_ok-values.ensures c.args.count) true c.decide.new.self
    (ap (λ s. s.account) c.in_ok-pass-in-Ok-true.ensures.state) h
    (λ next i lt. (λ z. next (frames_at i old.frames.items) (old.place + 1 + c.args.count) (sym (c.in_ok-push-in-Ok-true.ensures i) z) (members_at i st.slots.items)) ∙ passed next i mid c.pass.new.self c.args.count c.in_ok-pass-in-Ok-true.ensures.frames c.in_ok-pass-in-Ok-true.ensures.state c.in_ok-pass-in-Ok-true.ensures.place)

pub returns-in_ok-pass-in-Ok-false-clause-acts : goal.returns-in_ok-pass-in-Ok-false-clause-acts
returns-in_ok-pass-in-Ok-false-clause-acts g c functions =
    let qs = c.args.group.now in
    let old = c.args.self.now in
    let m = c.in_ok-values.values in
    let st = record old.state { stack = c.pop.new.self } in
    let mid = record old { state = record st { stack = c.pop.new.self; account = c.decide.new.self } } in
    let one : c.from_ref-operands.result.now ≡ m ∷ [] = c.from_ref-operands.ensures.value in
    let h = subst (λ ms. AllDecide c.args.evaluations.now c.decide.new.evaluations qs node.Decide ms old.state.account (Ok false) c.decide.new.self) one (subst (λ b. AllDecide c.args.evaluations.now c.decide.new.evaluations qs node.Decide c.from_ref-operands.result.now old.state.account (Ok b) c.decide.new.self) c.in-Ok-false.field-0-test c.in-Ok-false.ensures.decides) in
    decided c.args.evaluations.now c.decide.new.evaluations qs functions (instruction.Or c.args.count) node.Decide
    (m ∷ []) old c.pass-in-Ok-false.new.self
    (or_rest qs functions old st refl m c.in_ok-values.ensures c.args.count)
    (or_is qs functions old st refl m c.in_ok-values.ensures c.args.count) false c.decide.new.self
    (ap (λ s. s.account) c.in_ok-pass-in-Ok-false.ensures.state) h
    (λ next i lt. passed_one next i mid c.pass-in-Ok-false.new.self c.in_ok-pass-in-Ok-false.ensures.frames c.in_ok-pass-in-Ok-false.ensures.state c.in_ok-pass-in-Ok-false.ensures.place)

pub returns-in-Err-clause-acts : goal.returns-in-Err-clause-acts
returns-in-Err-clause-acts g c functions =
    let qs = c.args.group.now in
    let old = c.args.self.now in
    let m = c.in_ok-values.values in
    let st = record old.state { stack = c.pop.new.self } in
    let new = record old { state = record st { account = c.decide.new.self } } in
    let one : c.from_ref-operands.result.now ≡ m ∷ [] = c.from_ref-operands.ensures.value in
    let h = subst (λ ms. AllDecide c.args.evaluations.now c.decide.new.evaluations qs node.Decide ms old.state.account (Err c.in-Err.apart) c.decide.new.self) one c.in-Err.ensures.decides in
    decide_halts c.args.evaluations.now c.decide.new.evaluations qs functions
    (instruction.Or c.args.count) node.Decide (m ∷ []) old new
    (or_rest qs functions old st refl m c.in_ok-values.ensures c.args.count)
    (or_is qs functions old st refl m c.in_ok-values.ensures c.args.count) c.in-Err.apart
    (λ i. decides (request_at qs i) (members_at i (m ∷ [])))
    (or_steady qs functions old st refl m c.in_ok-values.ensures c.args.count) h
