use Rattle.std.proofs.Common.{◌≡◌, [], take, drop}
use Rattle.script_check.specs.Least.{lower}
use Rattle.script_check.specs.Validity.{in_turn}
use Rattle.script_check.specs.Indexes.{TellsFunctions}
use Rattle.script_check.specs.Passes.{function_twice}
use Rattle.script_check.proofs.declared.functions.Given as goal

abbrev pub invariant-loop-declaration : goal.invariant-loop-declaration
invariant-loop-declaration l = record {
  functions : TellsFunctions (take l.declaration-index l.declarations) l.functions;
  faults : lower l.found.least (in_turn (function_twice l.version) (take l.declaration-index l.declarations)
      (drop l.declaration-index l.declarations))
      ≡ lower l.fn.found.least (in_turn (function_twice l.version) [] l.declarations);
}
