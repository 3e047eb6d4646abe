use Rattle.std.proofs.Common.{◌≡◌, ℕ, List, drop, ◌||◌}
use Rattle.script_tree.specs.Fit.{declares_store}
use Rattle.object_cells.specs.Stores.{has_store, AreEmpty}
use Rattle.object_cells.proofs.stores.Stores.new.Given as goal

abbrev pub invariant-loop-declaration : goal.invariant-loop-declaration
invariant-loop-declaration l = record {
  declared : (s : List ℕ) → (declares_store (drop l.declaration-index l.declarations) s || has_store l.by_name.entries s) ≡ declares_store l.declarations s;
  empty : AreEmpty l.by_name.entries;
}
