use Rattle.std.proofs.Common.{◌∷◌, ap, sym, subst, ◌∙◌, ◌+◌}
use Rattle.script_code.specs.declared.instruction.Instruction.TheVariants.{Index}
use Rattle.machine.specs.Does.{Leaves}
use Rattle.machine.specs.Gives.{progress_of}
use Rattle.machine.proofs.Parts.{steps_alike}
use Rattle.machine.proofs.state.State.index.Goals as goal

pub returns-clause-does : goal.returns-clause-does
returns-clause-does c q functions next fs pc ops more =
    let m = c.args.self.now in
    let s = c.pop.new.self in
    subst (λ o. Leaves (next fs (pc + 1)) ops more c.index_at-done.result c.index_at-done.new.self o)
    (steps_alike q functions Index next fs pc (c.value.result.now ∷ s.stack) m.stack s.slots.items m.slots.items
    (progress_of s.account ops more) (progress_of m.account ops more)
    (ap (λ v. v ∷ s.stack) c.value.ensures ∙ sym c.in_ok-place.ensures.pops) (ap (λ v. v.items) c.in_ok-place.ensures.slots)
    (ap (λ a. progress_of a ops more) c.in_ok-place.ensures.account))
    (c.index_at-done.ensures.does q functions next fs pc ops more)
