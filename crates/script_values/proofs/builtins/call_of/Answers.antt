use Rattle.std.proofs.Common.{[], ◌∷◌, ◌∙◌, subst}
use Rattle.basis.specs.UnlessMemory.{Answers}
use Rattle.script_meaning.specs.BuiltinCalls.{built_in}
use Rattle.script_values.specs.CallsMade.{made}
use Rattle.script_values.proofs.FirstThree.{first_three}
use Rattle.script_values.proofs.builtins.call_of.Goals as goal

pub returns : goal.returns
returns c =
    let q = c.args.request.now in
    let store = c.args.store.now in
    let seen = c.new-arguments.ensures in
    let same = (λ i. built_in q store c.args.builtin (seen.first i ∷ seen.second i ∷ seen.third i ∷ [])) ∙ first_three q store c.args.builtin c.args.values.now in
    subst (λ call. Answers (λ x. x) (made call) c.call_with.result) same c.call_with.ensures
