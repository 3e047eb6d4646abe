use Rattle.std.proofs.Common.{◌≡◌, take}
use Rattle.script_check.specs.Counts.{counts_of}
use Rattle.script_check.proofs.counts.counts_of.Given as goal

abbrev pub invariant-loop-declaration : goal.invariant-loop-declaration
invariant-loop-declaration l = record {
  told : l.counts ≡ counts_of (take l.declaration-index l.declarations);
}
