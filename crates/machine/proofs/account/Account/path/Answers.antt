use Rattle.std.proofs.Common.{Some, ap, sym, ◌∙◌}
use Rattle.machine.specs.Decided.{decided_in}
use Rattle.machine.proofs.Trails.{same_decisions}
use Rattle.machine.proofs.account.Account.path.Goals as goal

pub returns : goal.returns
returns c ops more =
    let a = c.args.self.now in
    ap (λ ds. record { page = Some c.args.page; decisions = ds; steps = a.steps; end = c.args.end })
    (c.in_ok-decisions_of.ensures ∙ ap decided_in c.as_slice.ensures.value
    ∙ sym (same_decisions a.trail.items ops))
