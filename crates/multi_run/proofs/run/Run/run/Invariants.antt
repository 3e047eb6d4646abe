use Rattle.std.proofs.Common.{length, Ok}
use Rattle.multi_state.specs.declared.went.Went.TheVariants.{On}
use Rattle.multi_run.specs.Runs.{Runs, rank}
use Rattle.multi_run.proofs.run.Run.run.Given as goal

abbrev pub invariant-loop-ops : goal.invariant-loop-ops
invariant-loop-ops g l = Runs l.fn.evaluations l.evaluations l.group l.code l.fn.self (Ok On) l.self

abbrev pub decreases-loop-ops : goal.decreases-loop-ops
decreases-loop-ops g l = rank (length l.code.instructions.items) l.self
