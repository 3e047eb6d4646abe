use Rattle.std.proofs.Common.{[], subst}
use Rattle.std.proofs.lemmas.Result.{IfOk-weaker}
use Rattle.schedule_format.specs.Moments.{AreMoments}
use Rattle.schedule_format.proofs.Following.{follow}
use Rattle.schedule_format.proofs.encoding.encode.Goals as goal

pub returns : goal.returns
returns c =
    let are : AreMoments c.args.schedule.now = subst AreMoments c.as_slice.ensures c.keep_widths.ensures in
    IfOk-weaker c.write_file.result _ _ (λ bytes is. record { spelled = is; allowed = follow [] c.args.schedule.now are }) c.write_file.ensures
