use Rattle.std.proofs.Common.{◌≡◌, ℕ, Ok, sym, ap, ◌∙◌, rules, below_more}
use Rattle.script_meaning.specs.Operands.{status_in}
use Rattle.multivalue.specs.Many.{member_value}
use Rattle.multi_state.proofs.spending.are_statuses.Goals as goal

pub loop-member-preserved : goal.loop-member-preserved
loop-member-preserved c =
    let here : (status : ℕ) × (status_in c.in-Some.value.now ≡ Ok status) = search rules in
    below_more (λ i. (status : ℕ) × (status_in (member_value c.args.statuses.now i) ≡ Ok status)) c.loop-member.member c.loop-member.invariant (here.0, ap status_in (sym c.in-Some.ensures.1) ∙ here.1)
