use Rattle.std.proofs.Common.{length, ap, arith}
use Rattle.schedule_format.proofs.FileMoments.{as_many, some_moment, moment_there}
use Rattle.schedule_format.proofs.schedule_file.ScheduleFile.moment.Goals as goal

pub payload-requires : goal.payload-requires
payload-requires c = omega (arith, c.requires, as_many c.self.inside.records c.self.inside.spelled, ap length c.self.view_is)

pub unreachable-requires : goal.unreachable-requires
unreachable-requires c = some_moment c.self.inside.records c.self.inside.spelled c.args.place c.payload.result.now c.payload.ensures c.in-Err.ensures

pub returns : goal.returns
returns c = moment_there c.self.inside.records c.self.inside.spelled c.args.self.now c.args.place c.payload.result.now c.in-Ok.moment c.in-Ok.field-0-1 c.self.view_is c.payload.ensures c.in-Ok.ensures
