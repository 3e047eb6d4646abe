-- The rule of a desk. Its words are the next ticket, the ticket that is served, and how many calls were made.
use Rattle.std.specs.Prelude.{◌≡◌, ℕ, ◌+◌, ◌<◌, ◌≤◌, ◌^◌, ◌%◌, ◌==◌, nat_lt, Some, None, Option, true, List, [], ◌∷◌, length, sum_by, count_by}
use Rattle.std.specs.Prelude.{if◌then◌else◌}
use mathlib.Core.Option.{some, none, Option as May}
use lib.ListN.{get_elem?}
use Rattle.atomic_table.specs.Table.{State}
use Rattle.desk.specs.declared.bench.Call.{Call}
use Rattle.shared_desk.specs.declared.kept.Kept.{Kept}
use Rattle.shared_desk.specs.Kept.{calls_of, KeepsCalls}
use Rattle.desk.specs.Runs.{Runs, calls_by, StartsWith}
use Rattle.shared_desk.specs.declared.rule.View.{View}
use Rattle.shared_desk.specs.declared.shared.TheConstants.{MOST_SEATS}
use Rattle.shared_desk.specs.Views.{seats}

-- what the slot holds: the state and the journal after the calls so far, or nothing where a seat took it out
abbrev pub DeskSlot : Type 0 → Type 0 → Type 0 → Type 0 → Type 0
DeskSlot S E R J = Option (Kept S E R J)

-- a desk's table at one time
abbrev pub DeskState : Type 0 → Type 0 → Type 0 → Type 0 → Type 0
DeskState S E R J = State (DeskSlot S E R J) (View S E R)

-- one for a ticket
abbrev pub ticket_count : Option ℕ → ℕ
ticket_count None = 0
ticket_count (Some ticket) = 1

-- one for a number that was made
abbrev pub once_below : ℕ → ℕ → ℕ
once_below number made = if nat_lt number made then 1 else 0

module _ {S E R : Type 0} where
  -- how many tickets the seat has
  abbrev pub waiting : View S E R → ℕ
  waiting v = ticket_count v.ticket

  -- how often the seat has the number
  abbrev pub times_held : ℕ → View S E R → ℕ
  times_held number v = count_by (λ n. n == number) v.numbers

  -- The seat at a place of the table has that number, and has seen how the history begins; the first one has counted all.
  pub record KnowsHistory (start : S) (history : List (Call E R)) (made place : ℕ) (v : View S E R) : Type 0 where
    pub opened : v.start ≡ Some start
    pub numbered : v.number ≡ place
    pub own : times_held place v ≡ 1
    pub counted : place ≡ 0 → v.split_off + 1 ≡ made
    pub seen : StartsWith history v.seen
    pub front : StartsWith history v.front

  -- The calls of a seat are those from its numbers.
  pub record HasItsCalls (history : List (Call E R)) (v : View S E R) : Type 0 where
    pub held : (number : ℕ) → times_held number v ≡ 1 → calls_by number v.calls ≡ calls_by number history
    pub bare : (number : ℕ) → times_held number v ≡ 0 → calls_by number v.calls ≡ []

  -- Each number that was made is held once.
  pub record AreNumbered (made : ℕ) (views : List (View S E R)) : Type 0 where
    pub one_each : length views ≡ made
    pub few : made ≤ MOST_SEATS
    pub seated : sum_by seats views ≡ made
    pub once : (number : ℕ) → sum_by (times_held number) views ≡ once_below number made

  -- Each ticket from the one that is served to the next one is with one seat.
  pub record AreInLine (served next : ℕ) (views : List (View S E R)) : Type 0 where
    pub count : next ≡ served + sum_by waiting views
    pub between : (place : ℕ) (v : View S E R) (ticket : ℕ) → get_elem? views place ≡ some v → v.ticket ≡ Some ticket
        → (served ≤ ticket) × (ticket < next)
    pub apart : (i j : ℕ) (v w : View S E R) (ticket : ℕ) → get_elem? views i ≡ some v → get_elem? views j ≡ some w → v.ticket ≡ Some ticket
        → w.ticket ≡ Some ticket → i ≡ j

  -- A seat that has the turn is the one who has it: its ticket is served, and it has seen all.
  pub record IsServed (history : List (Call E R)) (served : ℕ) (who : Option ℕ) (place : ℕ) (v : View S E R) : Type 0 where
    pub who_is : who ≡ Some place
    pub ticket_is : v.ticket ≡ Some served
    pub seen_is : v.seen ≡ history
    pub live : 0 < seats v

  -- One seat has the turn, or none.
  pub record IsOneTurn (history : List (Call E R)) (served : ℕ) (who : Option ℕ) (views : List (View S E R)) : Type 0 where
    pub served_is : (place : ℕ) (v : View S E R) → get_elem? views place ≡ some v → v.turn ≡ true → IsServed history served who place v
    pub has_turn : (place : ℕ) → who ≡ Some place → (v : View S E R) × (get_elem? views place ≡ some v) × (v.turn ≡ true)

  -- Each seat has its own calls, and numbers that weren't made have none.
  pub record AreCalled (history : List (Call E R)) (made : ℕ) (views : List (View S E R)) : Type 0 where
    pub own : (place : ℕ) (v : View S E R) → get_elem? views place ≡ some v → HasItsCalls history v
    pub unmade : (number : ℕ) → made ≤ number → calls_by number history ≡ []

module _ {S E R J : Type 0} (steps : S → ℕ → E → R → S → Type 0) (start : S) (keeps : List (Call E R) → J → Type 0) where
  -- These are the calls of the history, the state after it, and its journal.
  pub record IsAfter (history : List (Call E R)) (h : Kept S E R J) : Type 0 where
    pub calls : calls_of h ≡ history
    pub runs : Runs steps start history h.state
    pub journal : KeepsCalls keeps h

  -- The slot has the history and its state, or is with who has the turn.
  pub record IsKept (history : List (Call E R)) (who : Option ℕ) (homes : List (May (DeskSlot S E R J))) : Type 0 where
    pub home : who ≡ None → (h : Kept S E R J) × (homes ≡ some (Some h) ∷ []) × IsAfter history h
    pub away : (place : ℕ) → who ≡ Some place → homes ≡ none ∷ []

  -- There is one history. Seats take turns at it, in the order of their tickets.
  pub record IsInOrder (s : DeskState S E R J) : Type 0 where
    pub history : List (Call E R)
    pub served : ℕ
    pub next : ℕ
    pub made : ℕ
    pub who : Option ℕ
    pub words_are : s.words ≡ next % 2 ^ 64 ∷ served % 2 ^ 64 ∷ length history ∷ []
    pub numbered : AreNumbered made s.views
    pub in_line : AreInLine served next s.views
    pub one_turn : IsOneTurn history served who s.views
    pub called : AreCalled history made s.views
    pub known : (place : ℕ) (v : View S E R) → get_elem? s.views place ≡ some v → 0 < seats v → KnowsHistory start history made place v
    pub kept : IsKept history who s.homes
