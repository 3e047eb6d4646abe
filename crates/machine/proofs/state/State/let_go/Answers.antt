use Rattle.std.proofs.Common.{ap, ◌∙◌}
use Rattle.std.specs.Prelude.{slice_set}
use Rattle.machine.proofs.Slots.{last_stays}
use Rattle.machine.proofs.state.State.let_go.Goals as goal

pub returns-clause-slots : goal.returns-clause-slots
returns-clause-slots c d =
    ap (λ vs. slice_set vs c.args.slot d) c.put.ensures.slots ∙ last_stays c.args.self.now.slots.items c.args.slot c.null.result d
