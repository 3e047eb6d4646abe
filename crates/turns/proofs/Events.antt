-- What events make of a recording.
use Rattle.std.proofs.Common.{◌≡◌, ◌≢◌, ◌∙◌, cond, ℕ, Option, refl, ap, sym}
use Rattle.std.proofs.lemmas.Bool.{ne_eqb}
use Rattle.history.specs.Recordings.{Recorded, room_of, happening_at, Takes}
use Rattle.history.specs.Rooms.{Room, onward}
use Rattle.history.specs.Seats.{at_seat, seated}
use Rattle.history.specs.Visits.{Visit}
use Rattle.history.specs.declared.event.Event.{Event}
use Rattle.history.specs.declared.event.Event.TheVariants as asks
use Rattle.history.specs.declared.event.Reply.{Reply}
use Rattle.history.specs.declared.happening.Happening.{Happening}
use Rattle.history.specs.declared.happening.Happening.TheVariants.{Arrive, Act, Depart}
use Rattle.turns.specs.ByTurns.{seat_in}
use Rattle.turns.specs.Turned.{Happens}

seat_of : (room : Room) (seat : ℕ) (event : Event) → seat_in (happening_at room seat event) ≡ seat
seat_of room seat (asks.Arrive request) = refl
seat_of room seat (asks.Act op offer) = refl
seat_of room seat (asks.Depart response path) = refl

pub happens : (seat : ℕ) (event : Event) (reply : Reply) (old new : Recorded) → Takes old seat event reply new
    → Happens seat (happening_at (room_of old) seat event) old new
happens seat event reply old new taken = record {
  here = seat_of (room_of old) seat event;
  allowed = taken.allowed;
  left = taken.left;
  program = taken.program;
}

-- ---- other seats

elsewhere : (a b : ℕ) (v : Option Visit) (open_at : ℕ → Option Visit) → a ≢ b → seated a v open_at b ≡ open_at b
elsewhere a b v open_at ne = ap (λ here. cond here v (open_at b)) (ne_eqb a b ne)

stays_open : (r : Room) (h : Happening) (x : ℕ) → seat_in h ≢ x → (onward r h).open_at x ≡ r.open_at x
stays_open r (Arrive seat rid request) x ne = elsewhere seat x _ r.open_at ne
stays_open r (Act seat rid number op choice) x ne = elsewhere seat x _ r.open_at ne
stays_open r (Depart seat rid response path) x ne = elsewhere seat x _ r.open_at ne

-- at other seats the same is open
pub stays : {seat : ℕ} {h : Happening} {old new : Recorded} → Happens seat h old new → (x : ℕ) → x ≢ seat → at_seat new.visits x ≡ at_seat old.visits x
stays {h = h} {old = old} did x ne =
    ap (λ (r : Room). r.open_at x) did.left ∙ stays_open (room_of old) h x (λ e. ne (sym e ∙ did.here))
