-- What a seat knows, and how that changes where seats are split off and joined.
use Rattle.std.specs.Prelude.{◌≡◌, ℕ, ◌+◌, nat_lt, Some, None, false, List, [], ◌∷◌, ◌++◌, length, if◌then◌else◌}
use Rattle.desk.specs.declared.bench.Call.{Call}
use Rattle.shared_desk.specs.declared.rule.View.{View}

module _ {E R : Type 0} where
  -- the longer of two histories that were seen
  abbrev pub longer : List (Call E R) → List (Call E R) → List (Call E R)
  longer a b = if nat_lt (length a) (length b) then b else a

  -- the other of them
  abbrev pub shorter : List (Call E R) → List (Call E R) → List (Call E R)
  shorter a b = if nat_lt (length a) (length b) then a else b

module _ {S E R : Type 0} where
  -- how many seats it is by now: itself, and those that it has taken in
  abbrev pub seats : View S E R → ℕ
  seats v = length v.numbers

  -- The seat has taken in all that it has split off.
  abbrev pub HasAllSeats : View S E R → Type 0
  HasAllSeats v = seats v ≡ v.split_off + 1

  -- the first seat of a desk that opens in this state
  abbrev pub first_view : S → View S E R
  first_view state = record {
    start = Some state;
    number = 0;
    split_off = 0;
    numbers = 0 ∷ [];
    calls = [];
    seen = [];
    front = [];
    ticket = None;
    turn = false;
  }

  -- the first seat, when it has split off one more
  abbrev pub with_split : View S E R → View S E R
  with_split v = record v { split_off = v.split_off + 1 }

  -- the seat that is split off: it has the next number, has made no calls, and has seen what the first has
  abbrev pub new_view : View S E R → View S E R
  new_view v = record {
    start = v.start;
    number = v.split_off + 1;
    split_off = 0;
    numbers = (v.split_off + 1) ∷ [];
    calls = [];
    seen = v.seen;
    front = [];
    ticket = None;
    turn = false;
  }

  -- the first of two seats, when it has taken in the second
  abbrev pub with_joined : View S E R → View S E R → View S E R
  with_joined v w = record v {
    numbers = v.numbers ++ w.numbers;
    calls = v.calls ++ w.calls;
    seen = longer v.seen w.seen;
    front = shorter v.seen w.seen;
  }

  -- a seat that was taken in
  abbrev pub spent_view : View S E R
  spent_view = record {
    start = None;
    number = 0;
    split_off = 0;
    numbers = [];
    calls = [];
    seen = [];
    front = [];
    ticket = None;
    turn = false;
  }
