use Rattle.report_format.proofs.RecordFields.{report_is_exact}
use Rattle.report_format.proofs.decoding.reading_is_exact.Goals as goal

pub returns : goal.returns
returns c = report_is_exact
