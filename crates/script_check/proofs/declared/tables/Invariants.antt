use Rattle.std.proofs.Common.{◌≡◌, [], take, drop}
use Rattle.script_check.specs.Least.{lower}
use Rattle.script_check.specs.Validity.{in_turn}
use Rattle.script_check.specs.Indexes.{TellsTables}
use Rattle.script_check.specs.Passes.{table_twice}
use Rattle.script_check.proofs.declared.tables.Given as goal

abbrev pub invariant-loop-declaration : goal.invariant-loop-declaration
invariant-loop-declaration l = record {
  tables : TellsTables (take l.declaration-index l.declarations) l.tables;
  faults : lower l.found.least (in_turn table_twice (take l.declaration-index l.declarations)
      (drop l.declaration-index l.declarations)) ≡ lower l.fn.found.least (in_turn table_twice [] l.declarations);
}
