use Rattle.std.proofs.Common.{length, subst, ap, ◌∙◌}
use Rattle.multi_nodes.specs.Answers.{Counts}
use Rattle.multi_nodes.specs.Charges.{evaluations_if}
use Rattle.multi_nodes.proofs.Prices.{price_is}
use Rattle.multi_nodes.proofs.evaluate.evaluate_members.Goals as goal

pub returns-clause-counts : goal.returns-clause-counts
returns-clause-counts g c =
    let qs = c.args.group.now in
    subst (λ x. Counts c.args.evaluations.now c.evaluate_so.new.evaluations x (length qs) c.evaluate_so.result)
    (ap (λ a. evaluations_if a (length qs)) c.agree-agreed.ensures.agree
    ∙ price_is qs c.args.operands.now c.args.primitive c.agree-agreed.ensures.some) c.evaluate_so.ensures.counts
