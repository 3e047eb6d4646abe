use Rattle.std.proofs.Common.{refl}
use Rattle.group_runner.specs.Told.{answers_to}
use Rattle.group_runner.proofs.Signs.{member_is}
use Rattle.group_runner.proofs.runner.Runner.left_by.Goals as goal

pub returns : goal.returns
returns c = λ program r request stands asked page is.
    let t = c.args.self.now.evidence.now in
    let run = c.args.run.now in
    member_is program t r request run asked is _ c.args.page c.trail.result.now c.last_sign-last.result
    page (c.trail.ensures program request (answers_to t r run.done) is.follows) c.last_sign-last.ensures
    c.in_ok-marks_of.ensures refl c.steps_to.ensures (c.in_ok-gives.ensures r stands)
