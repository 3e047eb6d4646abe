-- What contracts see of the numbers and of a seat.
use Rattle.std.specs.Prelude.{◌≡◌, ℕ}
use Rattle.atomic_table.specs.Seated.{TableId}
use Rattle.claims.specs.declared.view.View.{View}
use Rattle.claims.specs.Views.{first_view, joint_view}

-- numbers to draw: the name of their table, and the limit below which they are
pub record Numbers : Type 0 where
  pub table : TableId
  pub limit : ℕ

-- a seat: the name of its table, and what it knows
pub record Seat : Type 0 where
  pub table : TableId
  pub view : View

-- The seat draws from these numbers.
abbrev pub IsSeatOf : Numbers → Seat → Type 0
IsSeatOf numbers seat = (seat.table ≡ numbers.table) × (seat.view.limit ≡ numbers.limit)

-- the first seat of the numbers
abbrev pub first_seat : Numbers → Seat
first_seat numbers = record { table = numbers.table; view = first_view numbers.limit }

-- the seat with another view, of the same table
abbrev pub with_view : (View → View) → Seat → Seat
with_view change seat = record seat { view = change seat.view }

-- the seat after it took in another
abbrev pub joint_seat : Seat → Seat → Seat
joint_seat seat other = with_view (λ view. joint_view view other.view) seat
