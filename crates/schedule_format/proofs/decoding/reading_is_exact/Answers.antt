use Rattle.schedule_format.proofs.MomentFields.{schedule_is_exact}
use Rattle.schedule_format.proofs.decoding.reading_is_exact.Goals as goal

pub returns : goal.returns
returns c = schedule_is_exact
