-- Histories: lists of calls, of whatever events and replies.
use Rattle.std.specs.Prelude.{◌≡◌, ℕ, ◌==◌, List, [], ◌∷◌, ◌++◌, if◌then◌else◌}
use Rattle.desk.specs.declared.bench.Call.{Call}

module _ {E R : Type 0} where
  -- a call from a seat: its event, and its reply
  abbrev pub call : ℕ → E → R → Call E R
  call seat event reply = record { seat = seat; event = event; reply = reply }

  -- the calls that came from one seat
  abbrev pub calls_by : ℕ → List (Call E R) → List (Call E R)
  calls_by seat [] = []
  calls_by seat (c ∷ cs) = if c.seat == seat then c ∷ calls_by seat cs else calls_by seat cs

  -- The history is the one that was seen, or goes on from there.
  abbrev pub StartsWith : List (Call E R) → List (Call E R) → Type 0
  StartsWith history seen = (rest : List (Call E R)) × (history ≡ seen ++ rest)

module _ {S E R : Type 0} (steps : S → ℕ → E → R → S → Type 0) where
  -- The calls lead, one after the other, from the first state to the second.
  abbrev pub Runs : S → List (Call E R) → S → Type 0
  Runs s [] t = s ≡ t
  Runs s (c ∷ cs) t = (m : S) × steps s c.seat c.event c.reply m × Runs m cs t
