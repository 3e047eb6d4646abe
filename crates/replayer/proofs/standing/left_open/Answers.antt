use Rattle.std.proofs.Common.{◌≡◌, ◌∙◌, sym, ap, true, false}
use Rattle.replayer.specs.Standings.{standing_at, is_departed, departed_in}
use Rattle.replayer.proofs.HeadFacts.{asks_left, answers_left}
use Rattle.replayer.proofs.standing.left_open.Goals as goal

pub returns-then-is_departed : goal.returns-then-is_departed
returns-then-is_departed c = λ e is.
    let departed : true ≡ departed_in c.args.trace.now c.args.standings.now c.in-Asks.rid = sym c.if-is_departed.true ∙ c.is_departed.ensures ∙ ap (λ o. is_departed (standing_at c.args.standings.now o)) c.place.ensures.place in
    asks_left (departed_in c.args.trace.now c.args.standings.now) e c.in-Asks.rid true (sym c.in-Asks.is ∙ is) departed

pub returns-else-is_departed : goal.returns-else-is_departed
returns-else-is_departed c = λ e is.
    let left : false ≡ departed_in c.args.trace.now c.args.standings.now c.in-Asks.rid = sym c.if-is_departed.false ∙ c.is_departed.ensures ∙ ap (λ o. is_departed (standing_at c.args.standings.now o)) c.place.ensures.place in
    asks_left (departed_in c.args.trace.now c.args.standings.now) e c.in-Asks.rid false (sym c.in-Asks.is ∙ is) left

pub returns-in-Answers : goal.returns-in-Answers
returns-in-Answers c = λ e is. answers_left (departed_in c.args.trace.now c.args.standings.now) e c.in-Answers.field-0 (sym c.in-Answers.is ∙ is)
