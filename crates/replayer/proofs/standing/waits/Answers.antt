use Rattle.std.proofs.Common.{sym, ◌∙◌}
use Rattle.replayer.specs.Standings.{departed_in}
use Rattle.replayer.proofs.HeadFacts.{answers_waits, asks_waits}
use Rattle.replayer.proofs.standing.waits.Goals as goal

pub returns-in-Answers : goal.returns-in-Answers
returns-in-Answers c = λ e at.
    answers_waits c.args.trace.now c.args.standings.now c.args.place e c.in-Answers.field-0 c.partner.result c.is_departed.result at (sym c.in-Answers.is ∙ c.head.ensures e at)
    c.partner.ensures c.is_departed.ensures

pub returns-in-Asks : goal.returns-in-Asks
returns-in-Asks c = λ e at. asks_waits (departed_in c.args.trace.now c.args.standings.now) e c.in-Asks.field-0 (sym c.in-Asks.is ∙ c.head.ensures e at)
