use Rattle.basis.specs.declared.or_memory.OrMemory.TheVariants.{Other}
use Rattle.wire.proofs.FileSteps.{no_payload}
use Rattle.schedule_format.specs.Moments.{schedule_format}
use Rattle.schedule_format.proofs.decoding.MomentsRecordReader.read.Goals as goal

pub returns-in_err-moment-clause-takes : goal.returns-in_err-moment-clause-takes
returns-in_err-moment-clause-takes c = λ before _.
    no_payload schedule_format before c.args.payload.now
    (Other c.in_err-moment.field-0.0) c.from_residual.result c.in_err-moment.ensures c.from_residual.ensures.1
