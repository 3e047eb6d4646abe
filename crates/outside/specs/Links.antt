-- What is told of a link, and what calls do to it.
use Rattle.std.specs.Prelude.{◌≡◌, ℕ, ◌≤◌, Bool, false, List, [], length, take, drop, Option, Some, Result, Ok, Err}
use Rattle.std.specs.Option.{option_map, ForSome}
use Rattle.outside.specs.Counts.{next_count}
use Rattle.outside.specs.Streams.{IsTakenFrom, IsGivenFrom, and_then}
use Rattle.outside.specs.declared.fault.Fault.{Fault}
use Rattle.outside.specs.declared.fault.Fault.TheVariants.{Failed, Memory}

-- The bytes that are left to read and those written so far, where that is told, how often the link
-- has failed, and whether it is told that it never fails.
pub record LinkTold : Type 0 where
  pub left : Option (List ℕ)
  pub written : Option (List ℕ)
  pub faults : ℕ
  pub never_fails : Bool

-- these bytes to read, and nothing done yet
abbrev pub new_link : List ℕ → Bool → LinkTold
new_link bytes never_fails = record {
  left = Some bytes;
  written = Some [];
  faults = 0;
  never_fails = never_fails;
}

-- one more fault
abbrev pub with_fault : LinkTold → LinkTold
with_fault told = record told { faults = next_count told.faults }

-- A call that was refused took and gave nothing.
abbrev pub IsLinkRefused : LinkTold → LinkTold → Fault → Type 0
IsLinkRefused old new Failed = (new ≡ with_fault old) × (old.never_fails ≡ false)
IsLinkRefused old new Memory = new ≡ old

-- A read into a piece that was `before` and is `after`.
abbrev pub IsLinkRead : LinkTold → LinkTold → List ℕ → List ℕ → Result ℕ Fault → Type 0
IsLinkRead old new before after (Ok count) =
    (new ≡ record old { left = option_map (drop count) old.left }) × (count ≤ length before)
    × ForSome old.left (λ bytes. IsGivenFrom bytes before after count)
IsLinkRead old new before after (Err fault) = IsLinkRefused old new fault

-- A write of bytes from the front of these.
abbrev pub IsLinkWrite : LinkTold → LinkTold → List ℕ → Result ℕ Fault → Type 0
IsLinkWrite old new bytes (Ok count) =
    IsTakenFrom bytes count
    × (new ≡ record old { written = and_then old.written (take count bytes) })
IsLinkWrite old new bytes (Err fault) = IsLinkRefused old new fault
