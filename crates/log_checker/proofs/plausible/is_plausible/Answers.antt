use Rattle.std.proofs.Common.{◌≡◌, ◌∙◌, inl, inr, ap, sym, to_z, of_z, w64, rules}
use Rattle.std.proofs.Math.Facts.{to_z-of_z}
use Rattle.script_tree.specs.Objects.{is_nothing, is_reading, is_roll, reading, none}
use Rattle.script_tree.specs.declared.operation.Act.{Act}
use Rattle.log_checker.proofs.EntryTests.{takes_now, plausible_is}
use Rattle.log_checker.proofs.plausible.is_plausible.Goals as goal

pub returns-in-Now : goal.returns-in-Now
returns-in-Now c = λ cell awaits.
    c.is_reading.ensures
    ∙ ap (λ n. is_reading c.args.choice (reading n)) (to_z-of_z c.ranges.last)
    ∙ ap (λ act. takes_now c.args.last act c.args.choice) (sym c.in-Now.is)
    ∙ plausible_is c.args.last c.args.act.now c.args.choice cell awaits

pub returns-in-Roll : goal.returns-in-Roll
returns-in-Roll c =
    let back : to_z w64 (of_z w64 c.in-Roll.bound) ≡ c.in-Roll.bound = search rules in
    λ cell awaits.
    c.is_roll.ensures
    ∙ ap (λ n. is_roll n c.args.choice none) back
    ∙ ap (λ act. takes_now c.args.last act c.args.choice) (sym c.in-Roll.is)
    ∙ plausible_is c.args.last c.args.act.now c.args.choice cell awaits

pub returns-in-Read : goal.returns-in-Read
returns-in-Read c = λ cell awaits.
    let alike = λ (act : Act) (e : c.args.act.now ≡ act). ap (λ a. takes_now c.args.last a c.args.choice) (sym e) in
    let takes : is_nothing c.args.choice ≡ takes_now c.args.last c.args.act.now c.args.choice = elim c.in-Read.is [
      | inl is ↦ alike _ is
      | inr (inl w) ↦ alike _ w.1
      | inr (inr (inl g)) ↦ alike _ g.1
      | inr (inr (inr (inl p))) ↦ alike _ p.2
      | inr (inr (inr (inr (inl r)))) ↦ alike _ r.1
      | inr (inr (inr (inr (inr t)))) ↦ alike _ t.1
    ] in
    c.is_nothing.ensures ∙ takes ∙ plausible_is c.args.last c.args.act.now c.args.choice cell awaits
