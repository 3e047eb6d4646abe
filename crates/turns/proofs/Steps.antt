-- What happens at a seat: an arrival, an operation, a departure.
use Rattle.std.proofs.Common.{◌≡◌, ◌∙◌, ℕ, ℤ, ◌<◌, ◌≤◌, ◌+◌, List, [], ◌∷◌, ◌++◌, length, length-append, Option, Some, None, refl, ap, sym, subst, cond, eq-eqb, arith}
use Rattle.std.specs.declared.alloc.Global.{Global}
use Rattle.std.specs.declared.sync.Arc.{Arc}
use Rattle.rand_chacha.specs.ChaCha.{ChaCha}
use Rattle.script_tree.specs.Datum.{Datum}
use Rattle.script_tree.specs.Objects.{Cell, acted}
use Rattle.script_tree.specs.Programs.{Program}
use Rattle.script_tree.specs.Requests.{Request, IsRequestWithinLimits}
use Rattle.script_tree.specs.declared.limits.TheConstants.{MOST_OPERATIONS}
use Rattle.script_tree.specs.declared.operation.Act.{Act as Deed}
use Rattle.script_tree.specs.declared.operation.Act.TheVariants.{Read, Write, Get, Put, Remove, Transact, Now, Roll}
use Rattle.script_tree.specs.declared.operation.Choice.{Choice}
use Rattle.script_tree.specs.declared.operation.Object.{Object}
use Rattle.script_tree.specs.declared.operation.Object.TheVariants.{Register, Store, Tables, Clock, Dice}
use Rattle.script_tree.specs.declared.operation.Op.{Op}
use Rattle.script_tree.specs.declared.path.Path.{Path}
use Rattle.script_tree.specs.declared.request.Response.{Response}
use Rattle.script_check.specs.Validity.{IsValid}
use Rattle.script_meaning.specs.Conduct.{conduct}
use Rattle.script_meaning.specs.Replay.{ending_of}
use Rattle.script_fit.specs.FitsOperation.{FitsAct, FitsOperation}
use Rattle.script_asks.proofs.RunsFurther.{counted_asks}
use Rattle.script_asks.proofs.Wanted.{fits}
use Rattle.machine.specs.Follows.{Follows, IsReady}
use Rattle.machine.specs.Told as told
use Rattle.machine.specs.declared.ending.MachineStep.{MachineStep}
use Rattle.machine.specs.declared.machine.Machine.{Machine}
use Rattle.history.specs.Histories.{happening_by}
use Rattle.history.specs.Recordings.{Recorded, room_of, happening_at, choice_of, Takes}
use Rattle.history.specs.Rooms.{Room, and_answer}
use Rattle.history.specs.Seats.{at_seat, seated}
use Rattle.history.specs.Visits.{Visit, visit_of}
use Rattle.history.specs.declared.event.Event.{Event}
use Rattle.history.specs.declared.event.Event.TheVariants as asks
use Rattle.history.specs.declared.event.Reply.{Reply}
use Rattle.history.specs.declared.event.Reply.TheVariants.{Acted}
use Rattle.history.specs.declared.happening.Happening.{Happening}
use Rattle.turns.specs.Offers.{rolled, IsReadingOf}
use Rattle.turns.specs.Seated.{IsAt, IsSeated, WaitsFor}
use Rattle.turns.specs.Drawn.{HasBound, IsDrawn, IsShown, IsThrown}
use Rattle.turns.specs.Turned.{Moves, turns_left}
use Rattle.history.proofs.Legal.{reply_tells}
use Rattle.turns.proofs.Events.{happens}

-- ---- what a machine tells

inner : (a b : Visit) → Some a ≡ Some b → a ≡ b
inner a b e = cc

-- where a machine stands, a request is open
pub open_here : (program : Program) (here : Option Visit) (m : Machine) → IsSeated program here (Some m) → (v : Visit) × (here ≡ Some v) × IsAt program v m
open_here program None m seated = absurd seated
open_here program (Some v) m seated = (v, refl, seated)

pub ending_is : (program : Program) (v : Visit) (step given : MachineStep) → step ≡ given → told.ending_of step ≡ (conduct program v.request v.answers).ending
    → ending_of program v.request v.answers ≡ told.ending_of given
unfolding ending_of
ending_is program v step given is tells = sym tells ∙ ap told.ending_of is

-- ---- what is wanted fits, and has a bound

bound_of : (stores : List ℕ → _) (widths : List ℕ) (object : Object) (act : Deed) → FitsAct stores widths object act → HasBound act
bound_of stores widths object Read f = tt
bound_of stores widths object (Write d) f = tt
bound_of stores widths object (Get k) f = tt
bound_of stores widths object (Put k d) f = tt
bound_of stores widths object (Remove k) f = tt
bound_of stores widths object (Transact ss) f = tt
bound_of stores widths object Now f = tt
bound_of stores widths (Register x) (Roll bound) f = absurd f
bound_of stores widths (Store s) (Roll bound) f = absurd f.1
bound_of stores widths Tables (Roll bound) f = absurd f
bound_of stores widths Clock (Roll bound) f = absurd f
bound_of stores widths Dice (Roll bound) f = f

pub fits_program : (program : Program) (here : Option Visit) (op : Op) (m : Machine) → IsValid program → WaitsFor program here op m → FitsOperation program op
unfolding ending_of
fits_program program here op m valid waits = fits program waits.visit.request waits.visit.answers op valid waits.short waits.wants

pub has_bound : (program : Program) (here : Option Visit) (op : Op) (m : Machine) → IsValid program → WaitsFor program here op m → HasBound op.act
has_bound program here op m valid waits = bound_of _ _ op.object op.act (fits_program program here op m valid waits)

asked_few : (program : Program) (here : Option Visit) (op : Op) (m : Machine) → (waits : WaitsFor program here op m)
    → length waits.visit.answers < MOST_OPERATIONS
unfolding ending_of
asked_few program here op m waits = counted_asks program waits.visit.request waits.visit.answers op waits.wants

-- ---- seats

at_itself : (seat : ℕ) (v : Option Visit) (open_at : ℕ → Option Visit) → seated seat v open_at seat ≡ v
at_itself seat v open_at = ap (λ here. cond here v (open_at seat)) (eq-eqb seat seat refl)

-- ---- what happened

moved : (reading : Option ℕ) (seat : ℕ) (came : List Request) (event : Event) (reply : Reply) (h : Happening)
    (old new : Recorded) (before after : ChaCha) (left : Option Machine)
    → Takes old seat event reply new → h ≡ happening_by seat event reply
    → Moves reading seat came (happening_at (room_of old) seat event) old new before after left
    → Moves reading seat came h old new before after left
moved reading seat came event reply h old new before after left taken is moves =
    subst (λ k. Moves reading seat came k old new before after left) (sym (is ∙ reply_tells (room_of old) seat event reply taken.replied)) moves

-- ---- an arrival

pub arrives : (reading : Option ℕ) (seat : ℕ) (job : Request) (arc : Arc Request Global) (reply : Reply)
    (h : Happening) (old new : Recorded) (dice : ChaCha) (m : Machine)
    → arc.value ≡ job → Takes old seat (asks.Arrive arc) reply new → h ≡ happening_by seat (asks.Arrive arc) reply → at_seat old.visits seat ≡ None
    → Follows old.program job [] m → IsReady m → IsRequestWithinLimits job
    → Moves reading seat (job ∷ []) h old new dice dice (Some m)
arrives reading seat job arc reply h old new dice m same taken is empty follows ready short =
    let v : Visit = visit_of old.arrived job [] in
    let here : at_seat new.visits seat ≡ Some v
    = ap (λ (r : Room). r.open_at seat) taken.left ∙ at_itself seat _ (at_seat old.visits)
    ∙ ap (λ q. Some (visit_of old.arrived q [])) same in
    let few : turns_left (at_seat new.visits seat) ≡ MOST_OPERATIONS + 1 = ap turns_left here in
    moved reading seat (job ∷ []) (asks.Arrive arc) reply h old new dice dice (Some m) taken is (record {
      happens = happens seat (asks.Arrive arc) reply old new taken;
      can = subst IsRequestWithinLimits (sym same) short;
      came' = ap (λ q. q ∷ []) same;
      rolls = refl;
      reads = λ n is. tt;
      seated =
          subst (λ o. IsSeated new.program o (Some m)) (sym here)
          (record { follows = subst (λ p. Follows p job [] m) (sym taken.program) follows; ready = ready; short = short; few = omega arith });
      falls = omega (arith, few);
    })

-- ---- a departure

pub departs : (reading : Option ℕ) (seat : ℕ) (response : Response) (path : Path) (reply : Reply) (h : Happening)
    (old new : Recorded) (dice : ChaCha) (v : Visit)
    → Takes old seat (asks.Depart response path) reply new → h ≡ happening_by seat (asks.Depart response path) reply
    → at_seat old.visits seat ≡ Some v → length v.answers ≤ MOST_OPERATIONS
    → Moves reading seat [] h old new dice dice None
departs reading seat response path reply h old new dice v taken is was few =
    let here : at_seat new.visits seat ≡ None
    = ap (λ (r : Room). r.open_at seat) taken.left ∙ at_itself seat _ (at_seat old.visits) in
    let after : turns_left (at_seat new.visits seat) ≡ 0 = ap turns_left here in
    let before : turns_left (at_seat old.visits seat) ≡ turns_left (Some v) = ap turns_left was in
    moved reading seat [] (asks.Depart response path) reply h old new dice dice None taken is (record {
      happens = happens seat (asks.Depart response path) reply old new taken;
      can = tt;
      came' = refl;
      rolls = refl;
      reads = λ n is. tt;
      seated = subst (λ o. IsSeated new.program o None) (sym here) tt;
      falls = omega (arith, after, before, few);
    })

-- ---- an operation

thrown_by : (act : Deed) (offer : Option ℤ) (cell : Cell) (old new : ChaCha) → IsDrawn act old new offer
    → IsThrown (rolled act (choice_of act offer cell)) old new
thrown_by Read offer cell old new is = is
thrown_by (Write d) offer cell old new is = is
thrown_by (Get k) offer cell old new is = is
thrown_by (Put k d) offer cell old new is = is
thrown_by (Remove k) offer cell old new is = is
thrown_by (Transact ss) offer cell old new is = is
thrown_by Now offer cell old new is = is
thrown_by (Roll bound) None cell old new is = absurd (not_offered _ is.0)
  where
    not_offered : (n : ℤ) → None ≡ Some n → ⊥
    not_offered n e = cc
thrown_by (Roll bound) (Some n) cell old new is = (the_number n _ is.0, is.1)
  where
    the_number : (a b : ℤ) → Some a ≡ Some b → a ≡ b
    the_number a b e = cc

shown_by : (reading : Option ℕ) (n : ℕ) (act : Deed) (offer : Option ℤ) (cell : Cell) → reading ≡ Some n → IsShown reading act offer
    → IsReadingOf n act cell (choice_of act offer cell)
shown_by reading n Read offer cell is shown = tt
shown_by reading n (Write d) offer cell is shown = tt
shown_by reading n (Get k) offer cell is shown = tt
shown_by reading n (Put k d) offer cell is shown = tt
shown_by reading n (Remove k) offer cell is shown = tt
shown_by reading n (Transact ss) offer cell is shown = tt
shown_by reading n Now offer cell is shown = ap (λ o. choice_of Now o cell) (shown n is)
shown_by reading n (Roll bound) offer cell is shown = tt

the_answer : (rid r number n : ℕ) (choice made : Choice) (answer d : Datum) → Acted rid number choice answer ≡ Acted r n made d → answer ≡ d
the_answer rid r number n choice made answer d e = cc

pub acts : (reading : Option ℕ) (seat : ℕ) (op : Op) (offer : Option ℤ) (rid number : ℕ) (choice : Choice)
    (answer : Datum) (h : Happening) (old new : Recorded) (before after : ChaCha) (waiting m : Machine)
    → IsValid old.program → (waits : WaitsFor old.program (at_seat old.visits seat) op waiting)
    → Takes old seat (asks.Act op offer) (Acted rid number choice answer) new → h ≡ happening_by seat (asks.Act op offer) (Acted rid number choice answer)
    → IsDrawn op.act before after offer → IsShown reading op.act offer
    → Follows old.program waits.visit.request (waits.visit.answers ++ answer ∷ []) m → IsReady m
    → Moves reading seat [] h old new before after (Some m)
acts reading seat op offer rid number choice answer h old new before after waiting m valid waits taken is drawn shown follows ready =
    let v : Visit = waits.visit in
    let cell : Cell = (room_of old).objects op.object in
    let made : Choice = choice_of op.act offer cell in
    let so : answer ≡ (acted op.act made cell).1 = the_answer rid _ number _ choice made answer _ taken.replied in
    let w : Visit = visit_of v.rid v.request (v.answers ++ answer ∷ []) in
    let here : at_seat new.visits seat ≡ Some w
    = ap (λ (r : Room). r.open_at seat) taken.left ∙ at_itself seat _ (at_seat old.visits)
    ∙ ap (λ o. and_answer o (acted op.act made cell).1) waits.here' ∙ ap (λ d. Some (visit_of v.rid v.request (v.answers ++ d ∷ []))) (sym so) in
    let fewer : length v.answers < MOST_OPERATIONS = asked_few old.program (at_seat old.visits seat) op waiting waits in
    let more : length (v.answers ++ answer ∷ []) ≡ length v.answers + 1 = length-append v.answers (answer ∷ []) in
    let left : turns_left (at_seat new.visits seat) ≡ turns_left (Some w) = ap turns_left here in
    let was : turns_left (at_seat old.visits seat) ≡ turns_left (Some v) = ap turns_left waits.here' in
    moved reading seat [] (asks.Act op offer) (Acted rid number choice answer) h old new before after (Some m) taken is (record {
      happens = happens seat (asks.Act op offer) (Acted rid number choice answer) old new taken;
      can = (old.program, fits_program old.program (at_seat old.visits seat) op waiting valid waits);
      came' = refl;
      rolls =
          subst (λ r. IsThrown r before after) (sym (ap (λ here. cond here (rolled op.act made) None) (eq-eqb seat seat refl)))
          (thrown_by op.act offer cell before after drawn);
      reads = λ n is. shown_by reading n op.act offer cell is shown;
      seated =
          subst (λ o. IsSeated new.program o (Some m)) (sym here)
          (record { follows = subst (λ p. Follows p v.request (v.answers ++ answer ∷ []) m) (sym taken.program) follows; ready = ready; short = waits.short; few = omega (arith, more, fewer) });
      falls = omega (arith, left, was, more, fewer);
    })
