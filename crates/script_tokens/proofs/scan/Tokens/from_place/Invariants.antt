use Rattle.std.proofs.Common.{◌≡◌, ◌<◌, ◌+◌, ◌^◌, length}
use Rattle.script_tokens.specs.Scans.{scan}
use Rattle.script_tokens.proofs.scan.Tokens.from_place.Given as goal

abbrev pub invariant-loop-rest : goal.invariant-loop-rest
invariant-loop-rest l = record {
  place_fits : l.at + length l.rest < 2 ^ 63;
  told : scan l.bytes l.initial.at l.depth 0 ≡ scan l.rest l.at l.depth 0;
}

abbrev pub decreases-loop-rest : goal.decreases-loop-rest
decreases-loop-rest l = length l.rest
