use Rattle.std.proofs.Common.{◌≡◌, ◌∙◌, sym}
use Rattle.script_tree.specs.Alike.{same_act}
use Rattle.script_tree.proofs.SameActs.{same_acts, same_exactly}
use Rattle.script_tree.proofs.operation.Act.is_same.Goals as goal

pub returns-clause-same : goal.returns-clause-same
returns-clause-same c = c.eq.ensures ∙ same_acts c.args.self.now c.args.other.now

pub returns-clause-exact : goal.returns-clause-exact
returns-clause-exact c =
    let same : c.eq.result ≡ same_act c.args.self.now c.args.other.now = c.eq.ensures ∙ same_acts c.args.self.now c.args.other.now in
    let exact = same_exactly c.args.self.now c.args.other.now in
    (λ e. exact.0 (sym same ∙ e), λ e. same ∙ exact.1 e)
