use Rattle.report_format.proofs.ReadAgain.{read_again}
use Rattle.report_format.proofs.encoding.encoded_reports_are_read.Goals as goal

pub returns : goal.returns
returns c = read_again
