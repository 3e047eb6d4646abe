use Rattle.std.proofs.Common.{[], ◌∷◌, ◌+◌, drop, sym, ap, ◌∙◌}
use Rattle.script_check.specs.Least.{lower}
use Rattle.script_check.specs.Validity.{with_names, declared_where, declared_in_turn}
use Rattle.script_check.proofs.Least.{lower_none}
use Rattle.script_check.proofs.Lists.{left, none_left, then_rest}
use Rattle.script_check.proofs.scope.Scope.declare_all.Goals as goal

pub loop-name-preserved : goal.loop-name-preserved
loop-name-preserved c =
    let xs = c.args.names.now in
    let rest = drop (c.loop-name.name-index + 1) xs in
    let x = c.name-item.result in
    let here = left xs c.loop-name.name-index x c.loop-name-test.true c.name-item.is in
    let old = c.loop-name.self in
    record {
      declared = ap (λ s. with_names s rest) c.in_ok-declare.ensures.declared ∙ ap (with_names old) (sym here) ∙ c.loop-name.invariant.declared;
      faults =
          ap (λ s. lower c.declare.new.found.least (declared_in_turn s rest)) c.in_ok-declare.ensures.declared
          ∙ then_rest c.loop-name.found.least c.declare.new.found.least (declared_where old x)
          (declared_in_turn (with_names old (x ∷ [])) rest) c.in_ok-declare.ensures.faults
          ∙ ap (λ ys. lower c.loop-name.found.least (declared_in_turn old ys)) (sym here)
          ∙ c.loop-name.invariant.faults;
    }

pub returns-clause-faults : goal.returns-clause-faults
returns-clause-faults c =
    sym (lower_none c.loop-name.found.least)
    ∙ ap (λ ys. lower c.loop-name.found.least (declared_in_turn c.loop-name.self ys))
    (sym (none_left c.args.names.now c.loop-name.name-index c.loop-name-test.false))
    ∙ c.loop-name.invariant.faults
