use Rattle.std.proofs.Common.{◌∙◌, length, ap}
use Rattle.schedule_format.proofs.FileMoments.{as_many}
use Rattle.schedule_format.proofs.schedule_file.ScheduleFile.len.Goals as goal

pub returns : goal.returns
returns c = c.len.ensures ∙ as_many c.self.inside.records c.self.inside.spelled ∙ ap length c.self.view_is
