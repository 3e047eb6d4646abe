use Rattle.std.proofs.Common.{◌≡◌, drop}
use Rattle.std.specs.Option.{option_copied}
use Rattle.script_check.specs.Least.{lower}
use Rattle.script_check.specs.Validity.{columns_faults}
use Rattle.script_check.proofs.query.check_columns.Given as goal

abbrev pub invariant-loop-name : goal.invariant-loop-name
invariant-loop-name l = record {
  faults : lower l.found.least (columns_faults (option_copied l.table) (drop l.name-index l.names))
      ≡ lower l.fn.found.least (columns_faults (option_copied l.table) l.names);
}
