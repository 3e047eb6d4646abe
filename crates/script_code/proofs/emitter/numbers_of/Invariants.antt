use Rattle.std.proofs.Common.{◌≡◌, ◌≤◌, ℕ, List, drop}
use Rattle.script_check.proofs.Told.{told}
use Rattle.script_code.specs.Callees.{number_from}
use Rattle.script_code.proofs.emitter.numbers_of.Given as goal

-- what is told so far, and by what is left
abbrev pub invariant-loop-declaration : goal.invariant-loop-declaration
invariant-loop-declaration l = record {
  few : l.count ≤ l.declaration-index;
  told : (f : List ℕ) → told (λ n. n) l.numbers f (number_from l.count f (drop l.declaration-index l.declaration-items)) ≡ number_from 0 f l.declaration-items;
}
