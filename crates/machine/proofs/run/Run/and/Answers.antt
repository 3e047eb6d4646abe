use Rattle.std.proofs.Common.{◌≡◌, false, sym, ap, subst, ◌∙◌}
use Rattle.script_meaning.specs.Run.{decide, goes}
use Rattle.machine.specs.Does.{Comes}
use Rattle.machine.specs.Gives.{progress_of}
use Rattle.machine.proofs.Parts.{and_jumps}
use Rattle.machine.proofs.run.Run.and.Goals as goal

pub returns-in_ok-push-in-Ok-false-clause-acts : goal.returns-in_ok-push-in-Ok-false-clause-acts
returns-in_ok-push-in-Ok-false-clause-acts c q functions next ops more ends =
    let m = c.args.self.now in
    let s = c.pop.new.self in
    let x = c.in_ok-operand.operand in
    let p = progress_of s.account ops more in
    let r = progress_of c.decide.new.self ops more in
    let d : decide x p ≡ goes false r = ap (λ v. decide v p) (sym c.value.ensures) ∙ c.in-Ok-false.ensures.gives ops more ∙ ap (λ b. goes b r) c.in-Ok-false.field-0-test in
    subst (λ o. Comes next ops more c.jump.result c.jump.new.self o)
    (sym (and_jumps q functions next m.frames c.args.place c.args.count m.state.stack s.stack c.push.new.self m.state.slots.items s.slots.items x (progress_of m.state.account ops more) p r
    c.in_ok-operand.ensures.pops (ap (λ v. v.items) c.in_ok-operand.ensures.slots)
    (ap (λ a. progress_of a ops more) c.in_ok-operand.ensures.account) d c.in_ok-push-in-Ok-false.ensures))
    (c.jump.ensures.acts q functions next ops more ends)
