use Rattle.std.proofs.Common.{◌≡◌, ◌<◌, ℕ, length, slice_index_or}
use Rattle.versioned_store.specs.Firsts.{firsts_in}
use Rattle.versioned_store.specs.Sources.{IsSource}
use Rattle.versioned_store.proofs.Firsts.{AreFirsts}
use Rattle.versioned_store.proofs.sources.sources_of.Given as goal

abbrev pub invariant-loop-entry : goal.invariant-loop-entry
invariant-loop-entry l = record {
  place : l.position ≡ l.entry-index;
  firsts : AreFirsts l.entries (firsts_in (λ k. k.now) l.firsts.entries) l.entry-index;
  count : length l.sources.items ≡ l.entry-index;
  each : (p d : ℕ) → p < length l.sources.items → IsSource l.entries p (slice_index_or l.sources.items p d);
}
