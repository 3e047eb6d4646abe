use Rattle.std.proofs.Common.{◌∙◌}
use Rattle.script_check.specs.Passes.{body_faults}
use Rattle.script_check.proofs.Lists.{one_on, all_on}
use Rattle.script_check.proofs.declaration.check_bodies.Goals as goal

pub loop-declaration-preserved : goal.loop-declaration-preserved
loop-declaration-preserved c = record {
  faults =
      one_on (λ earlier. body_faults c.args.index.now) c.args.declarations.now c.loop-declaration.declaration-index c.declaration-item.result c.loop-declaration.found.least c.check_body.new.found.least c.loop-declaration-test.true c.declaration-item.is c.in_ok-check_body.ensures
      ∙ c.loop-declaration.invariant.faults;
}

pub returns : goal.returns
returns c = all_on (λ earlier. body_faults c.args.index.now) c.args.declarations.now c.loop-declaration.declaration-index c.args.found.now.least c.loop-declaration.found.least c.loop-declaration-test.false c.loop-declaration.invariant.faults
