use Rattle.std.proofs.Common.{◌∙◌, length, ap}
use Rattle.trace_format.proofs.FileEvents.{as_many}
use Rattle.trace_format.proofs.trace_file.TraceFile.len.Goals as goal

pub returns : goal.returns
returns c = c.len.ensures ∙ as_many c.self.inside.records c.self.inside.spelled ∙ ap length c.self.view_is
