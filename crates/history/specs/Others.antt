-- A step at one seat changes nothing in what may come from another.
use Rattle.std.specs.Prelude.{◌≡◌, ◌≢◌, ℕ, Option}
use Rattle.std.proofs.Common.{◌∙◌, ap, sym, subst, cond}
use Rattle.std.proofs.lemmas.Bool.{ne_eqb}
use Rattle.history.specs.Recordings.{Recorded, MayCome, MayFollow, Takes, room_of, happening_at}
use Rattle.history.specs.Rooms.{Room, onward}
use Rattle.history.specs.Seats.{at_seat, seated}
use Rattle.history.specs.Visits.{Visit}
use Rattle.history.specs.declared.event.Event.{Event}
use Rattle.history.specs.declared.event.Event.TheVariants as asks
use Rattle.history.specs.declared.event.Reply.{Reply}

-- what is open at another seat stays so
elsewhere : (a b : ℕ) (v : Option Visit) (open_at : ℕ → Option Visit) → a ≢ b → seated a v open_at b ≡ open_at b
elsewhere a b v open_at ne = ap (λ here. cond here v (open_at b)) (ne_eqb a b ne)

-- what is open at a seat stays so by what happens at another
stays_open : (room : Room) (a b : ℕ) (event : Event) → a ≢ b → (onward room (happening_at room a event)).open_at b ≡ room.open_at b
stays_open room a b (asks.Arrive request) ne = elsewhere a b _ room.open_at ne
stays_open room a b (asks.Act op offer) ne = elsewhere a b _ room.open_at ne
stays_open room a b (asks.Depart response path) ne = elsewhere a b _ room.open_at ne

-- an event that is taken at one seat leaves what may come from another
pub leaves_others : (s t : Recorded) (a b : ℕ) (e f : Event) (r : Reply) → Takes s a e r t → a ≢ b
    → (MayCome s b f → MayCome t b f) × (MayCome t b f → MayCome s b f)
leaves_others s t a b e f r step ne =
    let same : at_seat t.visits b ≡ at_seat s.visits b = ap (λ (room : Room). room.open_at b) step.left ∙ stays_open (room_of s) a b e ne in (
      (λ m. subst (λ p. MayFollow p (at_seat t.visits b) f) (sym step.program) (subst (λ v. MayFollow s.program v f) (sym same) m)),
      (λ m. subst (λ p. MayFollow p (at_seat s.visits b) f) step.program (subst (λ v. MayFollow t.program v f) same m)),
    )
