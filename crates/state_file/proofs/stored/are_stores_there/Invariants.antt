use Rattle.std.proofs.Common.{◌≡◌, drop}
use Rattle.std.specs.List.{list_all}
use Rattle.object_cells.specs.Stores.{has_store}
use Rattle.state_file.proofs.stored.are_stores_there.Given as goal

abbrev pub invariant-loop-store : goal.invariant-loop-store
invariant-loop-store l =
    list_all (λ s. has_store l.objects.stores s.0) (drop l.store-index l.stores) ≡ list_all (λ s. has_store l.objects.stores s.0) l.stores
