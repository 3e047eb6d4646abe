use Rattle.std.proofs.Common.{◌≡◌, [], take, drop}
use Rattle.script_check.specs.Least.{lower}
use Rattle.script_check.specs.Validity.{in_turn}
use Rattle.script_check.specs.Indexes.{TellsPages}
use Rattle.script_check.specs.Passes.{page_twice}
use Rattle.script_check.proofs.declaration.check_pages.Given as goal

abbrev pub invariant-loop-declaration : goal.invariant-loop-declaration
invariant-loop-declaration l = record {
  pages : TellsPages (take l.declaration-index l.declarations) l.pages;
  faults : lower l.found.least (in_turn page_twice (take l.declaration-index l.declarations)
      (drop l.declaration-index l.declarations)) ≡ lower l.fn.found.least (in_turn page_twice [] l.declarations);
}
