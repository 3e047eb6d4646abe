use Rattle.std.proofs.Common.{◌≡◌, take, drop}
use Rattle.script_check.specs.Least.{lower}
use Rattle.script_check.specs.Validity.{in_turn}
use Rattle.script_check.specs.Passes.{body_faults, bodies_faults}
use Rattle.script_check.proofs.declaration.check_bodies.Given as goal

abbrev pub invariant-loop-declaration : goal.invariant-loop-declaration
invariant-loop-declaration l = record {
  faults : lower l.found.least (in_turn (λ earlier. body_faults l.index) (take l.declaration-index l.declarations)
      (drop l.declaration-index l.declarations)) ≡ lower l.fn.found.least (bodies_faults l.index l.declarations);
}
