use Rattle.precedence_graph.proofs.Departing.{asks_here, departs_here}
use Rattle.precedence_graph.proofs.answered.request_answered.Goals as goal

pub returns-in-Asks : goal.returns-in-Asks
returns-in-Asks c = asks_here c.args.trace.now c.args.place c.in-Asks.field-0 c.head.result c.requires.within c.head.ensures c.in-Asks.is

pub returns-in-Answers : goal.returns-in-Answers
returns-in-Answers c =
    departs_here c.args.trace.now c.args.place c.in-Answers.field-0 c.head.result c.partner.result
    c.requires.balanced c.requires.within c.head.ensures c.in-Answers.is c.partner.ensures
