use Rattle.std.proofs.Common.{◌≡◌, ◌++◌, drop}
use Rattle.script_code.specs.Code.{texts}
use Rattle.script_code.proofs.scope.Scope.of.Given as goal

-- the names so far, and those that are left
abbrev pub invariant-loop-name : goal.invariant-loop-name
invariant-loop-name l = l.scope ++ texts (drop l.name-index l.names) ≡ texts l.names
