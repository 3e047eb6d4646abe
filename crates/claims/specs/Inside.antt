-- What stands in the numbers and in a seat.
use Rattle.std.specs.Prelude.{◌≡◌, ◌<◌, ◌^◌, []}
use Rattle.claims.specs.declared.claims.Claims.TheInside as claims
use Rattle.claims.specs.declared.claims.ClaimSeat.TheInside as seats
use Rattle.claims.specs.Seats.{Numbers, Seat}

-- which numbers these are
abbrev pub numbers_in : claims.Inside → Numbers
numbers_in c = record { table = c.table.shared.table_id; limit = c.limit }

-- The table has two words and no slot, and was told the limit.
pub record IsTable (c : claims.Inside) : Type 0 where
  pub words : c.table.shared.table_id.words ≡ 2
  pub slots : c.table.shared.table_id.slots ≡ 0
  pub key : c.table.shared.key ≡ c.limit
  pub room : c.limit < 2 ^ 63

-- which seat this is
abbrev pub seat_in : seats.Inside → Seat
seat_in s = record { table = s.seat.table_id; view = s.seat.me.0 }

-- It has a part and holds no slot, and was told what its view says.
pub record IsLive (s : seats.Inside) : Type 0 where
  pub part : 0 < s.seat.me.0.parts
  pub no_slot : s.seat.me.1 ≡ []
  pub none_left : s.none_left ≡ s.seat.me.0.none_left
