use Rattle.std.proofs.Common.{◌≡◌, ◌∷◌, Ok, sym, ap, subst, ◌∙◌}
use Rattle.basis.specs.UnlessMemory.{Answers}
use Rattle.script_meaning.specs.Evaluate.{call_made}
use Rattle.script_meaning.specs.Run.{after, issue, ◌>>◌}
use Rattle.script_values.specs.CallsMade.{made}
use Rattle.script_values.specs.declared.builtins.Called.TheVariants.{Operation}
use Rattle.machine.specs.Does.{Leaves}
use Rattle.machine.specs.Gives.{progress_of, spend}
use Rattle.machine.proofs.Parts.{calls_issue}
use Rattle.machine.proofs.state.State.called.Goals as goal

pub returns-in-Operation-clause-does : goal.returns-in-Operation-clause-does
returns-in-Operation-clause-does c call answers then' ops more =
    let op = c.in-Operation.op in
    let is : c.args.called ≡ Ok (Operation op) = c.in_ok-value.was ∙ ap Ok c.in-Operation.is in
    let came : made call ≡ Ok (Operation op) = subst (λ r. Answers (λ x. x) (made call) r) is answers in
    let p = progress_of c.args.self.now.account ops more in
    let r = progress_of c.charge.new.self ops more in
    let e : (spend >> call_made call) p ≡ issue op r = ap (λ o. after o (λ u. call_made call)) (c.in_default.ensures.gives ops more) ∙ calls_issue call op r came in
    subst (λ o. Leaves then' ops more c.issue.result c.issue.new.self o)
    (sym (ap (λ o. after o (λ d. then' (d ∷ c.args.self.now.stack) c.args.self.now.slots.items)) e))
    (c.issue.ensures.does then' ops more)
