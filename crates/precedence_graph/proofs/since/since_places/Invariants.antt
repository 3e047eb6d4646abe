use Rattle.std.proofs.Common.{◌≡◌, ◌<◌, ℕ, length, Some}
use Rattle.basis.specs.Lists.{nth}
use Rattle.precedence_graph.specs.Since.{IsSince}
use Rattle.precedence_graph.proofs.since.since_places.Given as goal

abbrev pub invariant-loop-place : goal.invariant-loop-place
invariant-loop-place l = record {
  count : length l.since.items ≡ l.place;
  each : (i : ℕ) → i < l.place → (w : ℕ) × (nth l.since.items i ≡ Some w) × IsSince l.trace i w;
  now : IsSince l.trace l.place l.greatest;
}
