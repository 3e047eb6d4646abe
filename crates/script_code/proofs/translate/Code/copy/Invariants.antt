use Rattle.std.proofs.Common.{◌≡◌, take}
use Rattle.script_code.proofs.translate.Code.copy.Given as goal

abbrev pub invariant-loop-instruction : goal.invariant-loop-instruction
invariant-loop-instruction l = l.instructions.items ≡ take l.instruction-index l.instruction-items
