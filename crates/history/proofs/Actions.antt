-- What an operation that is wanted makes of a recording.
use Rattle.std.proofs.Common.{◌≡◌, ◌∙◌, ℕ, suc, length, ℤ, [], ◌∷◌, ◌++◌, Option, Some, None, Result, Ok, Err, IfOk, true, false, Bool, cond, refl, ap, sym, subst, arith}
use Rattle.std.specs.Prelude.{int_le}
use Rattle.std.specs.declared.alloc.AllocError.{AllocError}
use Rattle.script_tree.specs.Datum.{Datum}
use Rattle.script_tree.specs.Objects.{plausible, is_roll, reading, none}
use Rattle.script_tree.specs.Programs.{Program}
use Rattle.script_tree.specs.Requests.{IsRequestWithinLimits}
use Rattle.script_tree.specs.declared.operation.Act.{Act}
use Rattle.script_tree.specs.declared.operation.Act.TheVariants.{Read, Write, Get, Put, Remove, Transact, Now, Roll}
use Rattle.script_tree.specs.declared.operation.Choice.{Choice}
use Rattle.script_tree.specs.declared.operation.Choice.TheVariants.{Number}
use Rattle.script_tree.specs.declared.operation.Object.{Object}
use Rattle.script_tree.specs.declared.operation.Object.TheVariants.{Register, Store, Tables, Clock, Dice}
use Rattle.script_tree.specs.declared.operation.Op.{Op}
use Rattle.script_check.specs.Validity.{IsValid}
use Rattle.script_fit.specs.FitsOperation.{FitsAct}
use Rattle.script_meaning.specs.Conduct.{Wants}
use Rattle.script_meaning.specs.Replay.{ending_of}
use Rattle.script_asks.proofs.Wanted.{fits}
use Rattle.object_cells.specs.Stores.{has_store}
use Rattle.object_set.specs.Applied.{FitsSet, Does}
use Rattle.object_set.specs.ObjectSets.{HeldObjects, IsSetOf, objects_of}
use Rattle.object_set.proofs.Sets.{fits_set}
use Rattle.history.specs.Recordings.{Recorded, Takes, IsTaken, MayCome, IsOffer, choice_of, greater}
use Rattle.history.specs.Rooms.{Room, WantsNext, and_answer}
use Rattle.history.specs.Seats.{at_seat, seated}
use Rattle.history.specs.Visits.{Visit, visit_of, rid_at, number_at}
use Rattle.history.specs.declared.event.Event.TheVariants as asks
use Rattle.history.specs.declared.event.Event.{Event}
use Rattle.history.specs.declared.event.Reply.{Reply}
use Rattle.history.specs.declared.event.Reply.TheVariants.{Acted}

-- ---- what is wanted fits

inner : (u v : Visit) → Some v ≡ Some u → u ≡ v
inner u v e = cc

pub wanted_fits : (program : Program) (h : HeldObjects) (v : Visit) (op : Op) → IsSetOf program h → IsValid program
    → IsRequestWithinLimits v.request → WantsNext program (Some v) op → FitsSet h op
unfolding ending_of
wanted_fits program h v op of valid short (u, same, wants) =
    fits_set program h op.object op.act of
    (fits program v.request v.answers op valid short (subst (λ w. ending_of program w.request w.answers ≡ Wants op) (inner u v same) wants))

-- ---- choices

-- what is chosen is chosen of the object's own cell
pub chosen : (h : HeldObjects) (object : Object) (act : Act) (offer : Option ℤ) → FitsAct (has_store h.stores) h.tables.widths object act
    → choice_of act offer (reading h.clock) ≡ choice_of act offer (objects_of h object)
chosen h object Read offer f = refl
chosen h object (Write d) offer f = refl
chosen h object (Get k) offer f = refl
chosen h object (Put k d) offer f = refl
chosen h object (Remove k) offer f = refl
chosen h object (Transact ss) offer f = refl
chosen h (Register x) Now offer f = absurd f
chosen h (Store s) Now offer f = absurd f.1
chosen h Tables Now offer f = absurd f
chosen h Clock Now offer f = refl
chosen h Dice Now offer f = absurd f
chosen h object (Roll bound) None f = refl
chosen h object (Roll bound) (Some n) f = refl

not_less : (m n : ℤ) → int_le m (greater m n) ≡ true
not_less m n = by (int_le m n) refl
  where
    by : (b : Bool) → int_le m n ≡ b → int_le m (cond b n m) ≡ true
    by true is = is
    by false is = grind arith

the_number : (m n : ℤ) → Some m ≡ Some n → m ≡ n
the_number m n e = cc

-- what is chosen, the object takes
pub taken : (h : HeldObjects) (object : Object) (act : Act) (offer : Option ℤ) → FitsAct (has_store h.stores) h.tables.widths object act
    → IsOffer act offer → plausible act (choice_of act offer (objects_of h object)) (objects_of h object) ≡ true
unfolding plausible
taken h object Read offer f o = refl
taken h object (Write d) offer f o = refl
taken h object (Get k) offer f o = refl
taken h object (Put k d) offer f o = refl
taken h object (Remove k) offer f o = refl
taken h object (Transact ss) offer f o = refl
taken h (Register x) Now offer f o = absurd f
taken h (Store s) Now offer f o = absurd f.1
taken h Tables Now offer f o = absurd f
taken h Clock Now None f (n, is) = absurd cc
taken h Clock Now (Some n) f o = not_less h.clock n
taken h Dice Now offer f o = absurd f
taken h (Register x) (Roll bound) offer f o = absurd f
taken h (Store s) (Roll bound) offer f o = absurd f.1
taken h Tables (Roll bound) offer f o = absurd f
taken h Clock (Roll bound) offer f o = absurd f
taken h Dice (Roll bound) None f (n, is, below) = absurd cc
taken h Dice (Roll bound) (Some m) f (n, is, below) = subst (λ k. is_roll bound (Number k) none ≡ true) (sym (the_number m n is)) below

-- ---- rooms

pub room_is : {a b : Room} → a.objects ≡ b.objects → a.arrived ≡ b.arrived → a.open_at ≡ b.open_at → a ≡ b
room_is o r s i = record { objects = o i; arrived = r i; open_at = s i }

-- an operation that is done, with its answer kept
pub acts : (old new : Recorded) (seat : ℕ) (op : Op) (offer : Option ℤ) (rid number : ℕ) (choice : Choice) (answer : Datum) (v : Visit)
    → rid ≡ v.rid → number ≡ suc (length v.answers) → MayCome old seat (asks.Act op offer) → at_seat old.visits seat ≡ Some v → FitsSet old.objects op
    → choice ≡ choice_of op.act offer (reading old.objects.clock) → Does op choice old.objects new.objects answer
    → new.arrived ≡ old.arrived → new.program ≡ old.program
    → at_seat new.visits ≡ seated seat (Some (visit_of v.rid v.request (v.answers ++ answer ∷ []))) (at_seat old.visits)
    → Takes old seat (asks.Act op offer) (Acted rid number choice answer) new
acts old new seat op offer rid number choice answer v of_id of_number may here fit made does arrived program visits =
    let so : choice ≡ choice_of op.act offer (objects_of old.objects op.object) = made ∙ chosen old.objects op.object op.act offer fit in
    let does_so : Does op (choice_of op.act offer (objects_of old.objects op.object)) old.objects new.objects answer
    = subst (λ c. Does op c old.objects new.objects answer) so does in
    let kept : and_answer (at_seat old.visits seat) answer ≡ Some (visit_of v.rid v.request (v.answers ++ answer ∷ []))
    = ap (λ w. and_answer w answer) here in
    record {
      allowed = ((may.0, taken old.objects op.object op.act offer fit may.1), (refl, refl));
      replied = ap (λ r. Acted r number choice answer) (of_id ∙ ap rid_at (sym here))
          ∙ ap (λ n. Acted (rid_at (at_seat old.visits seat)) n choice answer) (of_number ∙ ap number_at (sym here))
          ∙ ap (λ c. Acted (rid_at (at_seat old.visits seat)) (number_at (at_seat old.visits seat)) c answer) so
          ∙ ap (λ d. Acted (rid_at (at_seat old.visits seat)) (number_at (at_seat old.visits seat))
          (choice_of op.act offer (objects_of old.objects op.object)) d) does_so.answered;
      left = room_is (λ i o. does_so.left o i) arrived
          (visits ∙ ap (λ w. seated seat w (at_seat old.visits))
          (sym kept ∙ ap (λ d. and_answer (at_seat old.visits seat) d) does_so.answered));
      program = program;
    }

-- the same step from an equal recording, with an equal answer
pub acts_so : (old before new : Recorded) (seat : ℕ) (event : Event) (rid number : ℕ) (choice : Choice) (answer told : Datum) → old ≡ before → told ≡ answer
    → Takes old seat event (Acted rid number choice answer) new → Takes before seat event (Acted rid number choice told) new
acts_so old before new seat event rid number choice answer told same equal step =
    subst (λ r. Takes r seat event (Acted rid number choice told) new) same (subst (λ d. Takes old seat event (Acted rid number choice d) new) (sym equal) step)

-- the same of an equal event
pub takes_so : (old new : Recorded) (seat : ℕ) (event given : Event) (result : Result (Reply × Reply) AllocError) → event ≡ given
    → IsTaken seat given old new result → IsTaken seat event old new result
takes_so old new seat event given result same taken = subst (λ e. IsTaken seat e old new result) (sym same) taken

-- what was taken is a step
pub taken_so : (old new : Recorded) (seat : ℕ) (event : Event) (result : Result (Reply × Reply) AllocError) → IsTaken seat event old new result
    → IfOk result (λ r. Takes old seat event r.0 new)
taken_so old new seat event (Ok r) h = h.0
taken_so old new seat event (Err e) h = tt
