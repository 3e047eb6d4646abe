-- What calls lead through is legal.
use Rattle.std.proofs.Common.{◌≡◌, ◌∙◌, ℕ, List, [], ◌∷◌, refl, ap, sym, subst}
use Rattle.script_tree.specs.Objects.{acted}
use Rattle.desk.specs.Runs.{Runs}
use Rattle.desk.specs.declared.bench.Call.{Call}
use Rattle.history.specs.Histories.{choice_in, number_in, rid_in, happening_by, happening_in, history_of, IsRecorded, RunsAreLegal}
use Rattle.history.specs.Recordings.{Recorded, room_of, happening_at, reply_to, choice_of, Takes}
use Rattle.history.specs.Rooms.{Room, AreSteps, IsStep, onward, room_after}
use Rattle.history.specs.declared.event.Event.{Event}
use Rattle.history.specs.declared.event.Event.TheVariants.{Arrive, Act, Depart}
use Rattle.history.specs.declared.event.Reply.{Reply}
use Rattle.history.specs.declared.happening.Happening.{Happening}
use Rattle.history.specs.declared.happening.Happening.TheVariants as did

-- The reply tells what happened.
pub reply_tells : (room : Room) (seat : ℕ) (event : Event) (reply : Reply)
    → reply ≡ reply_to room (happening_at room seat event)
    → happening_by seat event reply ≡ happening_at room seat event
reply_tells room seat (Arrive request) reply is = ap (λ r. did.Arrive seat (rid_in r) request) is
reply_tells room seat (Act op offer) reply is = ap (λ r. did.Act seat (rid_in r) (number_in r) op (choice_in r)) is
reply_tells room seat (Depart response path) reply is = ap (λ r. did.Depart seat (rid_in r) response path) is

recorded : (old new : Recorded) (calls : List (Call Event Reply)) → Runs Takes old calls new → IsRecorded old calls new
recorded old new [] runs = record { legal = tt; left = ap room_of (sym runs) }
recorded old new (call ∷ calls) (middle, step, runs) =
    let h = happening_in call in
    let is : happening_in call ≡ happening_at (room_of old) call.seat call.event = reply_tells (room_of old) call.seat call.event call.reply step.replied in
    let rest = recorded middle new calls runs in
    let next : room_of middle ≡ onward (room_of old) h = step.left ∙ ap (onward (room_of old)) (sym is) in
    record {
      legal = (
        subst (IsStep old.program (room_of old)) (sym is) step.allowed,
        subst (λ p. AreSteps p (onward (room_of old) h) (history_of calls)) step.program
            (subst (λ room. AreSteps middle.program room (history_of calls)) next rest.legal),
      );
      left = rest.left ∙ ap (λ room. room_after room (history_of calls)) next;
    }

pub legal : RunsAreLegal
legal = record {
  steps = recorded;
  histories = λ old new start calls fresh runs. subst (λ room. AreSteps old.program room (history_of calls)) fresh (recorded old new calls runs).legal;
}
