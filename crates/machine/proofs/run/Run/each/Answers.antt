use Rattle.std.proofs.Common.{◌≡◌, ◌∷◌, sym, ap, subst, ◌∙◌}
use Rattle.machine.specs.Does.{Comes}
use Rattle.machine.specs.Gives.{progress_of}
use Rattle.machine.proofs.Parts.{each_jumps}
use Rattle.machine.proofs.run.Run.each.Goals as goal

pub returns-clause-acts : goal.returns-clause-acts
returns-clause-acts c q functions next ops more ends =
    let m = c.args.self.now in
    let s = c.pop.new.self in
    let t = c.push_copy.new.self in
    let x = c.in_ok-left.left in
    let copied = c.in_default.ensures in
    let st : c.push.new.self ≡ x ∷ x ∷ s.stack = c.in_ok-push.ensures ∙ ap (λ l. x ∷ l) (copied.stack ∙ ap (λ v. v ∷ s.stack) c.value.ensures) in
    let slots = ap (λ v. v.items) (copied.slots ∙ c.in_ok-left.ensures.slots) in
    let account = ap (λ a. progress_of a ops more) (copied.account ∙ c.in_ok-left.ensures.account) in
    subst (λ o. Comes next ops more c.jump.result c.jump.new.self o)
    (sym (each_jumps q functions next m.frames c.args.place c.args.count m.state.stack s.stack c.push.new.self m.state.slots.items t.slots.items x
    (progress_of m.state.account ops more) (progress_of t.account ops more) (progress_of t.account ops more)
    c.in_ok-left.ensures.pops slots account st))
    (c.jump.ensures.acts q functions next ops more ends)
