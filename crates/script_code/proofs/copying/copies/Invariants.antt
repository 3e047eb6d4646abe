use Rattle.std.proofs.Common.{◌≡◌, take}
use Rattle.script_code.proofs.copying.copies.Given as goal

abbrev pub invariant-loop-shape : goal.invariant-loop-shape
invariant-loop-shape l = l.copies ≡ take l.shape-index l.shape-items
