-- What a clause reads of a desk and of its seats.
use Rattle.std.specs.Prelude.{◌≡◌, Some}
use Rattle.atomic_table.specs.declared.shared.Seat.{Seat}
use Rattle.desk.specs.declared.bench.Bench.{Ghosts}
use Rattle.shared_desk.specs.InOrder.{DeskSlot}
use Rattle.shared_desk.specs.declared.rule.View.{View}
use Rattle.shared_desk.specs.declared.shared.Desk.{Desk}
use Rattle.shared_desk.specs.declared.shared.DeskSeat.{DeskSeat}

module _ {X J S E R : Type 0} where
  -- the state that the desk opened with
  abbrev pub start_of : Desk X J S E R → S
  start_of desk = desk.table.shared.key.value

  -- The seat of the table is one of the desk's.
  pub record IsAtDesk (desk : Desk X J S E R) (seat : Seat (DeskSlot S E R J) (View S E R)) : Type 0 where
    pub table : seat.table_id ≡ desk.table.shared.table_id
    pub start : seat.me.0.start ≡ Some (start_of desk)

module _ {X J S E R : Type 0} {g : Ghosts X S E R} where
  -- what the seat knows
  abbrev pub view : DeskSeat X J S E R g → View S E R
  view seat = seat.seat.me.0

  -- The seat is one of the desk's.
  abbrev pub IsSeatOf : Desk X J S E R → DeskSeat X J S E R g → Type 0
  IsSeatOf desk seat = IsAtDesk desk seat.seat
