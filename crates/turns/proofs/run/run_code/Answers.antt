use Rattle.std.proofs.Common.{◌∙◌, ap, sym}
use Rattle.std.proofs.lemmas.Result.{IfOk-weaker}
use Rattle.dice.specs.Rolls.{dice_of}
use Rattle.object_set.specs.ObjectSets.{objects_of}
use Rattle.history.specs.Recordings.{Recorded, room_of}
use Rattle.history.specs.Rooms.{Room, empty_room}
use Rattle.turns.specs.Turned.{jobs_left}
use Rattle.turns.proofs.Course.{same_run}
use Rattle.turns.proofs.run.run_code.Goals as goal

pub new-requires-clause-empty : goal.new-requires-clause-empty
new-requires-clause-empty g c = λ seat. ap (λ (r : Room). r.open_at seat) c.new-recording.ensures.room

pub run_all-kept-requires-clause-room : goal.run_all-kept-requires-clause-room
run_all-kept-requires-clause-room g c =
    let same = c.in_ok-table.ensures.opened.recording' in
    ap room_of same ∙ c.new-recording.ensures.room
    ∙ ap (λ o. empty_room (objects_of o)) (sym (ap (λ (r : Recorded). r.objects) same ∙ c.new-recording.ensures.objects))

pub run_all-kept-requires-clause-dice : goal.run_all-kept-requires-clause-dice
run_all-kept-requires-clause-dice g c = λ seat.
    c.in_ok-table.ensures.opened.dice seat ∙ ap (λ n. dice_of n seat) (sym c.in_ok-table.ensures.seed)

pub returns : goal.returns
returns g c =
    let t = c.in_ok-table.table in
    let same = c.in_ok-table.ensures.opened.recording' in
    IfOk-weaker c.run_all-kept.result _ _
    (λ journal kept.
    same_run g.J.Journal.keeps c.args.turns.now (g.C.Clock.reading c.args.clock.now) journal
    t.recording.program c.args.program.now (objects_of t.recording.objects) (objects_of c.args.start) (jobs_left t) c.args.jobs t.seed c.args.seed
    (ap (λ (r : Recorded). r.program) same ∙ c.new-recording.ensures.program)
    (ap objects_of (ap (λ (r : Recorded). r.objects) same ∙ c.new-recording.ensures.objects))
    (c.in_ok-table.ensures.opened.jobs' ∙ c.into_vec.ensures) c.in_ok-table.ensures.seed kept)
    c.run_all-kept.ensures
