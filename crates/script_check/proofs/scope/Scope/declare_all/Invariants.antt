use Rattle.std.proofs.Common.{◌≡◌, drop}
use Rattle.script_check.specs.Least.{lower}
use Rattle.script_check.specs.Validity.{with_names, declared_in_turn}
use Rattle.script_check.proofs.scope.Scope.declare_all.Given as goal

abbrev pub invariant-loop-name : goal.invariant-loop-name
invariant-loop-name l = record {
  declared : with_names l.self (drop l.name-index l.names) ≡ with_names l.fn.self l.names;
  faults : lower l.found.least (declared_in_turn l.self (drop l.name-index l.names)) ≡ lower l.fn.found.least (declared_in_turn l.fn.self l.names);
}
