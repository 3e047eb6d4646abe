-- The payloads of the records of a file.
use Rattle.std.specs.Prelude.{◌≡◌, ℕ, ◌+◌, ◌<◌, List, length, map, take, drop, get_or}
use Rattle.std.specs.Int.{w32, from_be_bytes}
use Rattle.basis.specs.UnlessMemory.{UnlessMemory}
use Rattle.wire.specs.Files.{Format, Spells, IsFault}
use Rattle.wire.specs.Spellings.{Reading, IsFieldAt, bytes_field}

-- the payload of the record that begins at a place: its length stands in 4 bytes
abbrev pub payload_at : List ℕ → ℕ → List ℕ
payload_at bytes at = take (from_be_bytes w32 (take 4 (drop at bytes))) (drop (at + 4) bytes)

-- the payloads of the records that begin at these places
abbrev pub payloads_at : List ℕ → List ℕ → List (List ℕ)
payloads_at bytes places = map (payload_at bytes) places

-- A record is spelled at each place.
abbrev pub StandAt : List ℕ → List ℕ → Type 0
StandAt bytes places =
    (i : ℕ) → i < length places →
    (next : ℕ) × IsFieldAt bytes_field bytes (get_or places i 0) (payload_at bytes (get_or places i 0)) next

-- The file spells items, and these are the payloads of their records.
pub record SpellsPayloads {A : Type 0} (format : Format A) (bytes : List ℕ) (payloads : List (List ℕ)) : Type 0 where
  pub items : List A
  pub spelled : Spells format bytes items
  pub payloads_are : payloads ≡ map format.payload items

-- the payloads of a file's records, or its fault, unless memory ran out
abbrev pub Splits : {A : Type 0} → Format A → List ℕ → Reading (List (List ℕ)) → Type 0
Splits format bytes result = UnlessMemory (SpellsPayloads format bytes) (λ fault. IsFault format bytes fault.at) result
