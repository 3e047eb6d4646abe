use Rattle.trace_and_report.proofs.Reports.{have_members}
use Rattle.trace_and_report.proofs.journal.FileJournal.finish.Goals as goal

pub finish-requires : goal.finish-requires
finish-requires c = have_members _ c.args.self.draft c.requires.1

pub returns : goal.returns
returns c = λ history kept. c.finish.ensures _ kept
