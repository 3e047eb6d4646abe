use Rattle.std.proofs.Common.{◌∙◌, ap, sym}
use Rattle.std.proofs.lemmas.Result.{IfOk-weaker}
use Rattle.object_set.specs.ObjectSets.{objects_of}
use Rattle.replayer.specs.Differences.{difference_of}
use Rattle.replayer.proofs.StageFacts.{opens_with}
use Rattle.replayer.proofs.replay.replay_by.Goals as goal

pub returns : goal.returns
returns g c =
    let objects = objects_of c.args.start in
    let ms = c.args.schedule.now in
    IfOk-weaker c.difference_on-difference.result _ _
    (λ difference is. is ∙ sym (opens_with c.args.index.now c.args.start c.in_ok-events.events c.in_ok-stage.stage ms c.in_ok-stage.ensures)
    ∙ ap (λ es. difference_of c.args.index.now objects es ms) c.in_ok-events.ensures)
    (c.difference_on-difference.ensures objects c.in_ok-stage.ensures.shown)
