use Rattle.log_checker.specs.Entries.{spot_at}
use Rattle.log_checker.proofs.EntryTests.{foreign_act, foreign_choice}
use Rattle.log_checker.proofs.entries.is_foreign.Goals as goal

pub returns-then-not-is_of_program : goal.returns-then-not-is_of_program
returns-then-not-is_of_program c = λ program past of.
    foreign_act program (spot_at c.args.object.now past c.args.entry.now) c.is_of_program.result
    (c.is_of_program.ensures.told program of) c.if-not-is_of_program.true

pub returns-else-not-is_of_program : goal.returns-else-not-is_of_program
returns-else-not-is_of_program c = λ program past of.
    foreign_choice program (spot_at c.args.object.now past c.args.entry.now) c.is_of_program.result c.choice_is_of.result (c.is_of_program.ensures.told program of)
    c.if-not-is_of_program.false c.choice_is_of.ensures
