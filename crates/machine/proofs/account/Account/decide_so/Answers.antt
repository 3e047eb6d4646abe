use Rattle.machine.specs.Gives.{progress_of}
use Rattle.machine.proofs.Parts.{decides_so}
use Rattle.machine.proofs.account.Account.decide_so.Goals as goal

pub returns-clause-gives : goal.returns-clause-gives
returns-clause-gives c ops more =
    decides_so c.args.holds (progress_of c.args.self.now ops more) (progress_of c.charge.new.self ops more) (progress_of c.note.new.self ops more)
    (c.in_ok-charge.ensures.gives ops more) (c.in_ok-note.ensures.gives ops more)
