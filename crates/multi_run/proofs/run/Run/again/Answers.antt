use Rattle.std.proofs.Common.{◌≡◌, ◌-◌, true, false, [], ◌∷◌, Ok, refl, sym, ap, subst, rules}
use Rattle.script_code.specs.declared.instruction.Instruction.TheVariants as instruction
use Rattle.script_nodes.specs.declared.primitive.Primitive.TheVariants as node
use Rattle.group_laws.proofs.NodesGive.{decides}
use Rattle.multi_nodes.specs.Members.{members_at, request_at}
use Rattle.multi_state.specs.AllDo.{AllDecide}
use Rattle.multi_state.specs.Stacks.{stack_at}
use Rattle.multi_run.proofs.Running.{decided, decide_halts, passed_one, again_is, again_rest, again_steady}
use Rattle.multi_run.specs.Acts.{frames_at}
use Rattle.multi_run.proofs.run.Run.again.Goals as goal

pub returns-in-Ok-true-clause-acts : goal.returns-in-Ok-true-clause-acts
returns-in-Ok-true-clause-acts g c functions =
    let qs = c.args.group.now in
    let old = c.args.self.now in
    let m = c.in_ok-values.values in
    let st = record old.state { stack = c.pop.new.self } in
    let mid = record old { state = record st { stack = c.pop.new.self; account = c.decide.new.self } } in
    let h = subst (λ b. AllDecide c.args.evaluations.now c.decide.new.evaluations qs node.Decide (m ∷ []) old.state.account (Ok b) c.decide.new.self) c.in-Ok-true.field-0-test c.in-Ok-true.ensures.decides in
    let new = record mid { place = c.saturating_sub-self.result } in
    let place : c.saturating_sub-self.result ≡ old.place - c.args.count = search rules in
    decided c.args.evaluations.now c.decide.new.evaluations qs functions (instruction.Again c.args.count) node.Decide
    (m ∷ []) old new (again_rest qs functions old st refl m c.in_ok-values.ensures c.args.count)
    (again_is qs functions old st refl m c.in_ok-values.ensures c.args.count) true c.decide.new.self refl h
    (λ next i lt z. next (frames_at i old.frames.items) (sym place z) (stack_at i st.stack) (members_at i st.slots.items))

pub returns-in-Ok-false-clause-acts : goal.returns-in-Ok-false-clause-acts
returns-in-Ok-false-clause-acts g c functions =
    let qs = c.args.group.now in
    let old = c.args.self.now in
    let m = c.in_ok-values.values in
    let st = record old.state { stack = c.pop.new.self } in
    let mid = record old { state = record st { stack = c.pop.new.self; account = c.decide.new.self } } in
    let h = subst (λ b. AllDecide c.args.evaluations.now c.decide.new.evaluations qs node.Decide (m ∷ []) old.state.account (Ok b) c.decide.new.self) c.in-Ok-false.field-0-test c.in-Ok-false.ensures.decides in
    decided c.args.evaluations.now c.decide.new.evaluations qs functions (instruction.Again c.args.count) node.Decide
    (m ∷ []) old c.pass.new.self (again_rest qs functions old st refl m c.in_ok-values.ensures c.args.count)
    (again_is qs functions old st refl m c.in_ok-values.ensures c.args.count) false c.decide.new.self
    (ap (λ s. s.account) c.in_ok-pass-in-Ok-false.ensures.state) h
    (λ next i lt. passed_one next i mid c.pass.new.self c.in_ok-pass-in-Ok-false.ensures.frames c.in_ok-pass-in-Ok-false.ensures.state c.in_ok-pass-in-Ok-false.ensures.place)

pub returns-clause-acts : goal.returns-clause-acts
returns-clause-acts g c functions =
    let qs = c.args.group.now in
    let old = c.args.self.now in
    let m = c.in_ok-values.values in
    let st = record old.state { stack = c.pop.new.self } in
    let new = record old { state = record st { account = c.decide.new.self } } in
    let h = c.in-Err.ensures.decides in
    decide_halts c.args.evaluations.now c.decide.new.evaluations qs functions
    (instruction.Again c.args.count) node.Decide (m ∷ []) old new
    (again_rest qs functions old st refl m c.in_ok-values.ensures c.args.count)
    (again_is qs functions old st refl m c.in_ok-values.ensures c.args.count) c.in-Err.apart
    (λ i. decides (request_at qs i) (members_at i (m ∷ [])))
    (again_steady qs functions old st refl m c.in_ok-values.ensures c.args.count) h
