use Rattle.machine.specs.Gives.{progress_of}
use Rattle.machine.proofs.Parts.{decides}
use Rattle.machine.proofs.account.Account.decide.Goals as goal

pub returns-clause-gives : goal.returns-clause-gives
returns-clause-gives c ops more =
    decides c.args.value.now c.in_ok-holds.holds (progress_of c.args.self.now ops more)
    (progress_of c.charge.new.self ops more) (progress_of c.note.new.self ops more)
    (c.in_ok-charge.ensures.gives ops more) c.in_ok-holds.ensures (c.in_ok-note.ensures.gives ops more)
