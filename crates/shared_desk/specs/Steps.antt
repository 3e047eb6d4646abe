-- What each step tells the seat that takes it, and what a seat has between the steps of a call.
use Rattle.std.specs.Prelude.{◌≡◌, ℕ, ◌<◌, ◌≤◌, ◌^◌, ◌%◌, ◌==◌, Some, None, Option, true, false}
use Rattle.std.specs.Prelude.{MatchBool, List, [], ◌∷◌, ◌++◌, length, unwrap_or}
use Rattle.atomic_table.specs.Table.{Step, Me}
use Rattle.desk.specs.declared.bench.Call.{Call}
use Rattle.shared_desk.specs.declared.kept.Kept.{Kept}
use Rattle.shared_desk.specs.Kept.{calls_of, KeepsCalls}
use Rattle.desk.specs.Runs.{Runs, StartsWith}
use Rattle.shared_desk.specs.declared.rule.View.{View}
use Rattle.shared_desk.specs.Views.{seats}
use Rattle.shared_desk.specs.Calls.{MayFind}
use Rattle.shared_desk.specs.InOrder.{DeskSlot, IsAfter}

-- what a seat of the table has: what it knows, and the slots that are out with it
abbrev pub Hand : Type 0 → Type 0 → Type 0 → Type 0 → Type 0
Hand S E R J = Me (DeskSlot S E R J) (View S E R)

module _ {S E R : Type 0} where
  -- the seat, when its ticket is this
  abbrev pub with_ticket : View S E R → Option ℕ → View S E R
  with_ticket v ticket = record v { ticket = ticket; turn = false }

  -- the seat, when it has its turn and has seen the history
  abbrev pub with_turn : View S E R → List (Call E R) → View S E R
  with_turn v history = record v { seen = history; turn = true }

  -- the seat in its turn, when it has made a call
  abbrev pub with_call : View S E R → Call E R → View S E R
  with_call v c = record v { calls = v.calls ++ c ∷ []; seen = v.seen ++ c ∷ [] }

module _ {S E R J : Type 0} where
  -- The seat has neither ticket nor turn nor slot.
  pub record Rests (m : Hand S E R J) : Type 0 where
    pub no_slot : m.1 ≡ []
    pub no_ticket : m.0.ticket ≡ None
    pub no_turn : m.0.turn ≡ false
    pub live : 0 < seats m.0

  -- The seat has its turn, and the slot, out of which it took what was there.
  pub record HasEmptySlot (m : Hand S E R J) : Type 0 where
    pub turn : m.0.turn ≡ true
    pub slot : m.1 ≡ (0, None) ∷ []

  -- The slot that the seat has holds what it has seen, with this call at its end.
  pub record HoldsCall (m : Hand S E R J) (c : Call E R) : Type 0 where
    pub held : Kept S E R J
    pub slot : m.1 ≡ (0, Some held) ∷ []
    pub calls : calls_of held ≡ m.0.seen ++ c ∷ []

  -- A ticket was drawn, of which the word shows the remainder.
  pub record TicketIsDrawn (st : Step (DeskSlot S E R J)) (m : Hand S E R J) (found : ℕ) (n : Hand S E R J) : Type 0 where
    pub ticket : ℕ
    pub left : n ≡ (with_ticket m.0 (Some ticket), m.1)
    pub shown : found ≡ ticket % 2 ^ 64

  -- Nothing changed, and it was seen that the seat's front is one of what it has seen.
  abbrev pub FrontIsSeen : Step (DeskSlot S E R J) → Hand S E R J → ℕ → Hand S E R J → Type 0
  FrontIsSeen st m found n =
      (n ≡ m) × (length m.0.front ≤ length m.0.seen → StartsWith m.0.seen m.0.front)

  -- The call in the slot was counted.
  pub record CallIsCounted (st : Step (DeskSlot S E R J)) (m : Hand S E R J) (found : ℕ) (n : Hand S E R J) : Type 0 where
    pub left : (c : Call E R) → HoldsCall m c → n ≡ (with_call m.0 c, m.1)

  -- The turn was ended, and the slot went home.
  pub record TurnIsEnded (st : Step (DeskSlot S E R J)) (m : Hand S E R J) (found : ℕ) (n : Hand S E R J) : Type 0 where
    pub left : n ≡ (with_ticket m.0 None, [])

  -- The call that this value has behind what the seat had seen was counted, and the seat has the slot with the value.
  pub record HasCounted (v : View S E R) (h : Kept S E R J) (m : Hand S E R J) : Type 0 where
    pub left : (c : Call E R) → calls_of h ≡ v.seen ++ c ∷ [] → m ≡ (with_call v c, (0, Some h) ∷ [])

  -- The seat ended its turn with the call that this value has behind what the seat had seen.
  pub record EndsWithCall (v : View S E R) (h : Kept S E R J) (m : Hand S E R J) : Type 0 where
    pub left : (c : Call E R) → calls_of h ≡ v.seen ++ c ∷ [] → m ≡ (with_ticket (with_call v c) None, [])

module _ {S E R J : Type 0} (steps : S → ℕ → E → R → S → Type 0) (start : S) (keeps : List (Call E R) → J → Type 0) where
  -- The seat has its turn: it has drawn a ticket, and has the slot with the history and the state after it.
  pub record HasTurn (v : View S E R) (m : Hand S E R J) : Type 0 where
    pub ticket : ℕ
    pub held : Kept S E R J
    pub left : m ≡ (with_turn (with_ticket v (Some ticket)) (calls_of held), (0, Some held) ∷ [])
    pub found : MayFind steps start v (calls_of held) held.state
    pub journal : KeepsCalls keeps held

  -- The seat has its turn, and took this value out of the slot.
  pub record HasTaken (v : View S E R) (h : Kept S E R J) (m : Hand S E R J) : Type 0 where
    pub ticket : ℕ
    pub left : m ≡ (with_turn (with_ticket v (Some ticket)) (calls_of h), (0, None) ∷ [])
    pub found : MayFind steps start v (calls_of h) h.state
    pub journal : KeepsCalls keeps h

  -- The value has a call of the seat behind what the seat has seen.
  pub record HasNewCall (v : View S E R) (h : Kept S E R J) : Type 0 where
    pub new_call : Call E R
    pub by_seat : new_call.seat ≡ v.number
    pub calls : calls_of h ≡ v.seen ++ new_call ∷ []
    pub runs : Runs steps start (calls_of h) h.state
    pub journal : KeepsCalls keeps h

  -- The seat has its turn, and the slot with what it has seen.
  pub record HasFullSlot (m : Hand S E R J) : Type 0 where
    pub turn : m.0.turn ≡ true
    pub held : Kept S E R J
    pub slot : m.1 ≡ (0, Some held) ∷ []
    pub kept : IsAfter steps start keeps m.0.seen held

module _ {S E R J : Type 0} (steps : S → ℕ → E → R → S → Type 0) (keeps : List (Call E R) → J → Type 0) where
  -- The seat's ticket is served, so that it has its turn.
  pub record IsTurned (m n : Hand S E R J) : Type 0 where
    pub held : Kept S E R J
    pub left : n ≡ (with_turn m.0 (calls_of held), (0, Some held) ∷ m.1)
    pub found : (start : S) → m.0.start ≡ Some start → MayFind steps start m.0 (calls_of held) held.state
    pub journal : KeepsCalls keeps held

  -- It was seen which ticket is served: the seat's own, or else nothing changed.
  abbrev pub TurnIsSeen : Step (DeskSlot S E R J) → Hand S E R J → ℕ → Hand S E R J → Type 0
  TurnIsSeen st m found n = MatchBool (found == unwrap_or m.0.ticket 0 % 2 ^ 64) (IsTurned m n) (n ≡ m)
