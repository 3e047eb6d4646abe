use Rattle.trace_format.proofs.EventFields.{trace_is_exact}
use Rattle.trace_format.proofs.decoding.reading_is_exact.Goals as goal

pub returns : goal.returns
returns c = trace_is_exact
