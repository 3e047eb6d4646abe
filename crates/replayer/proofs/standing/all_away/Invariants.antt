use Rattle.std.proofs.Common.{◌≡◌, ℕ, get_or, vec_len}
use Rattle.replayer.specs.declared.standing.Standing.TheVariants.{Away}
use Rattle.replayer.proofs.standing.all_away.Given as goal

abbrev pub invariant-loop : goal.invariant-loop
invariant-loop l = record {
  len : vec_len l.standings ≡ l.counter;
  away : (k : ℕ) → get_or l.standings.items k Away ≡ Away;
}
