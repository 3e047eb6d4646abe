use Rattle.report_format.proofs.ReadAgain.{may_be_spelled}
use Rattle.data_tests.proofs.reports.is_encoded_again.Goals as goal

pub encode-requires : goal.encode-requires
encode-requires c = may_be_spelled c.in_Ok.report c.args.file.now c.in_Ok.ensures
