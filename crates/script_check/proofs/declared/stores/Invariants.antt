use Rattle.std.proofs.Common.{◌≡◌, [], take, drop}
use Rattle.script_check.specs.Least.{lower}
use Rattle.script_check.specs.Validity.{in_turn}
use Rattle.script_check.specs.Indexes.{TellsStores}
use Rattle.script_check.specs.Passes.{store_twice}
use Rattle.script_check.proofs.declared.stores.Given as goal

abbrev pub invariant-loop-declaration : goal.invariant-loop-declaration
invariant-loop-declaration l = record {
  stores : TellsStores (take l.declaration-index l.declarations) l.stores;
  faults : lower l.found.least (in_turn store_twice (take l.declaration-index l.declarations)
      (drop l.declaration-index l.declarations)) ≡ lower l.fn.found.least (in_turn store_twice [] l.declarations);
}
