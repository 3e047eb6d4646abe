-- The records of the code, as definitions see them.
use Rattle.std.specs.Prelude.{ℕ, List}
use Rattle.wire.specs.Recorded.{payloads_at, StandAt}
use Rattle.wire.specs.declared.records.Records.TheInside.{Inside}

-- the payloads that a file's records have
abbrev pub payloads_in : Inside → List (List ℕ)
payloads_in r = payloads_at r.bytes.items r.places.items

-- A record is spelled at each place that is kept.
abbrev pub AreRecords : Inside → Type 0
AreRecords r = StandAt r.bytes.items r.places.items
