use Rattle.std.proofs.Common.{◌≡◌, ◌<◌, ℕ, length, take, flat_map, Some}
use Rattle.basis.specs.Lists.{nth}
use Rattle.audit_meaning.specs.Nodes.{nodes_in}
use Rattle.audit_order.specs.Shows.{offset}
use Rattle.audit_order.proofs.numbering.number_nodes.Given as goal

abbrev pub invariant-loop-place : goal.invariant-loop-place
invariant-loop-place l = record {
  names : l.names.items ≡ flat_map (nodes_in l.report) (take l.place l.trace);
  count : length l.offsets.items ≡ l.place;
  offsets : (i : ℕ) → i < l.place → nth l.offsets.items i ≡ Some (offset l.trace l.report i);
}
