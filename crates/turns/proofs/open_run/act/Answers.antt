use Rattle.std.proofs.Common.{◌∙◌, ap, subst}
use Rattle.std.specs.Prelude.{Result, Ok, Err, IfOk, OnOk}
use Rattle.history.specs.Histories.{happening_by}
use Rattle.history.specs.Recordings.{Takes}
use Rattle.history.specs.Seats.{at_seat}
use Rattle.history.specs.declared.event.Event.TheVariants as asks
use Rattle.turns.proofs.Steps.{has_bound, acts}
use Rattle.turns.proofs.open_run.act.Goals as goal

pub offer_for-offer-requires : goal.offer_for-offer-requires
offer_for-offer-requires g c =
    let recording = c.args.recording.now in
    has_bound recording.program (at_seat recording.visits c.args.seat) c.args.op c.args.machine.now c.requires.valid c.requires.waits

-- what holds of what is told, and what holds besides, where something is told
all_told : {A E : Type 0} {P Q : A → Type 0} {F R : Type 0} (r : Result A E) → ((a : A) → P a → F → R → Q a) → IfOk r P → OnOk r F → OnOk r R → IfOk r Q
all_told (Ok a) with_all p f ready = with_all a p f ready
all_told (Err e) with_all p f ready = tt

pub returns : goal.returns
returns g c =
    let recording = c.args.recording.now in
    let waits = c.requires.waits in
    let event = asks.Act c.args.op c.offer_for-offer.result in
    let same = c.in-Acted.is in
    all_told c.take_answer.result
    (λ told is follows ready.
    acts _ c.args.seat c.args.op c.offer_for-offer.result _ _ _ c.in-Acted.answer told recording c.take_event.new.recording
    c.args.dice.now c.offer_for-offer.new.dice c.args.machine.now c.take_answer.new.machine c.requires.valid waits
    (subst (λ reply. Takes recording c.args.seat event reply c.take_event.new.recording) same c.in_ok-happening.ensures.taken)
    (is ∙ c.in_ok-happening.ensures.happened ∙ ap (happening_by c.args.seat event) same)
    c.offer_for-offer.ensures.drawn c.offer_for-offer.ensures.shown follows ready)
    c.take_answer.ensures.same (c.take_answer.ensures.follows recording.program waits.visit.request waits.visit.answers waits.follows)
    c.take_answer.ensures.ready
